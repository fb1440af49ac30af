-- `node::event` meets its contract: refused, or by what the event asks, each service by its functions. Assumes nothing.
use Rattle.std.proofs.Common.{refl, sym, ◌∙◌}
use Rattle.model.specs.declared.Service.TheVariants.{Nmt}
use Rattle.model.specs.Store.{read}
use Rattle.model.specs.Step as Step
use Rattle.rules.proofs.Fits.{fit}
use Rattle.rules.proofs.Rows.{not_done}
use Rattle.step.proofs.Altered.{lss_unaltered}
use Rattle.node.proofs.Outcomes.{admitted, may_serve, event_by, event_refused, gives_nothing, gives_tick, gives_sample, gives_sync, gives_remote, gives_nmt, gives_calm, gives_altered, service_done, change_done, part_ok, id_stayed, turning}
use Rattle.node.proofs.event.Goals as goal

pub returns-in-Err : goal.returns-in-Err
returns-in-Err c =
    let a = c.args in
    rw (c.refused.ensures, c.into.ensures) (event_refused a.event.now a.state a.out.now a.store.now _ c.in-Err.ensures (not_done c.in-Err.reason))

pub unreachable-requires : goal.unreachable-requires
unreachable-requires c =
    c.in_default-as_mut_array.ensures.cases (admitted _ c.args.state _ _ c.in_default.ensures refl).lent.size

pub altered-requires : goal.altered-requires
unfolding Step.heard
altered-requires c =
    let ok = admitted _ c.args.state _ _ c.in_default.ensures refl in
    (turning _ _ _ _ _ c.in-Nmt.ensures ok.kept c.commanded-h.ensures c.ask_nmt-asked.ensures, ok.lent.room)

pub tick-requires : goal.tick-requires
tick-requires c = may_serve _ c.args.state _ _ c.in_default.ensures refl

pub sample-requires : goal.sample-requires
sample-requires c = may_serve _ c.args.state _ _ c.in_default.ensures refl

pub sync-requires : goal.sync-requires
sync-requires c = may_serve _ c.args.state _ _ c.in_default.ensures refl

pub remote-requires : goal.remote-requires
remote-requires c = may_serve _ c.args.state _ _ c.in_default.ensures refl

pub ask_sdo-asked-requires : goal.ask_sdo-asked-requires
ask_sdo-asked-requires c = (may_serve _ c.args.state _ _ c.in_default.ensures refl).0

pub sdo_heard-h-requires : goal.sdo_heard-h-requires
sdo_heard-h-requires c = (may_serve _ c.args.state _ _ c.in_default.ensures refl).0

pub replied-requires : goal.replied-requires
replied-requires c = (may_serve _ c.args.state _ _ c.in_default.ensures refl).1

pub returns-then-alters : goal.returns-then-alters
unfolding Step.heard
returns-then-alters c =
    let a = c.args in
    event_by a.event.now a.state a.out.now a.store.now _ c.in_default.ensures refl c.in-Some.ensures.cases.same
    (gives_altered a.event.now a.state a.out.now c.in-Some.store.now (Nmt _ _) _ c.in-Nmt.ensures refl c.commanded-h.ensures c.ask_nmt-asked.ensures c.altered.ensures)

pub report-requires : goal.report-requires
unfolding Step.heard
report-requires c =
    let ok = admitted _ c.args.state _ _ c.in_default.ensures refl in
    let still = sym c.alters.ensures ∙ c.if-alters.false in
    ((fit c.args.state ok.kept).digits, (rw c.commanded-h.ensures (id_stayed _ c.args.state _ _ _ c.in-Nmt.ensures ok.kept still c.ask_nmt-asked.ensures.change), ok.lent.room))

pub returns-else-alters : goal.returns-else-alters
returns-else-alters c =
    let a = c.args in
    let told = c.ask_nmt-asked.ensures.change in
    let still = sym c.alters.ensures ∙ c.if-alters.false in
    event_by a.event.now a.state a.out.now a.store.now _ c.in_default.ensures refl c.in-Some.ensures.cases.same
    (rw c.answered-in-Nmt.ensures
    (change_done a.event.now a.state a.out.now c.in-Some.store.now c.in-Nmt.ensures told
    (gives_nmt _ _ a.state _ told still c.commanded-h.ensures c.report.ensures)))

pub altered-requires-then-alters-2 : goal.altered-requires-then-alters-2
altered-requires-then-alters-2 c =
    let ok = admitted _ c.args.state _ _ c.in_default.ensures refl in
    (turning _ _ c.in-Some.store.now _ _ c.in-Sdo.ensures ok.kept c.sdo_heard-h.ensures (c.ask_sdo-asked.ensures _), ok.lent.room)

pub returns-then-alters-2 : goal.returns-then-alters-2
returns-then-alters-2 c =
    let a = c.args in
    event_by a.event.now a.state a.out.now a.store.now _ c.in_default.ensures refl c.in-Some.ensures.cases.same
    (gives_altered a.event.now a.state a.out.now c.in-Some.store.now _ _ c.in-Sdo.ensures refl c.sdo_heard-h.ensures (c.ask_sdo-asked.ensures c.in-Some.store.now)
    c.altered-then-alters-2.ensures)

pub returns-else-alters-2 : goal.returns-else-alters-2
returns-else-alters-2 c =
    let a = c.args in
    let ok = admitted _ c.args.state _ _ c.in_default.ensures refl in
    let asked = c.ask_sdo-asked.ensures c.in-Some.store.now in
    let still = sym c.alters-in-Sdo.ensures ∙ c.if-alters-2.false in
    event_by a.event.now a.state a.out.now a.store.now _ c.in_default.ensures refl c.in-Some.ensures.cases.same
    (rw c.answered-in-Sdo.ensures
    (change_done a.event.now a.state a.out.now c.in-Some.store.now c.in-Sdo.ensures asked.change
    (gives_calm _ _ a.state _ still refl refl ok.kept asked.frames c.sdo_heard-h.ensures c.store_after.ensures c.replied.ensures)))

pub lss_sent-requires : goal.lss_sent-requires
lss_sent-requires c =
    let may = may_serve _ c.args.state _ _ c.in_default.ensures refl in
    (may.0, (part_ok _ _ c.in-Lss.ensures, may.1))

pub returns-in-Lss : goal.returns-in-Lss
returns-in-Lss c =
    let a = c.args in
    let ok = admitted _ c.args.state _ _ c.in_default.ensures refl in
    let told = c.ask_lss.ensures (read c.in-Some.store.now) in
    event_by a.event.now a.state a.out.now a.store.now _ c.in_default.ensures refl c.in-Some.ensures.cases.same
    (rw c.answered-in-Lss.ensures
    (change_done a.event.now a.state a.out.now c.in-Some.store.now c.in-Lss.ensures told
    (gives_calm _ _ a.state _ (rw told (lss_unaltered _ a.state _)) refl refl ok.kept refl refl c.store_after-in-Lss.ensures c.lss_sent.ensures)))

pub returns-in-Nothing : goal.returns-in-Nothing
returns-in-Nothing c =
    let a = c.args in
    let ok = admitted _ c.args.state _ _ c.in_default.ensures refl in
    event_by a.event.now a.state a.out.now a.store.now _ c.in_default.ensures refl c.in-Some.ensures.cases.same
    (rw c.refused-in-Nothing.ensures
    (service_done a.event.now a.state a.out.now c.in-Some.store.now c.in-Nothing.ensures (gives_nothing a.state _ _ ok.kept)))

pub returns-in-Tick : goal.returns-in-Tick
returns-in-Tick c =
    let a = c.args in
    event_by a.event.now a.state a.out.now a.store.now _ c.in_default.ensures refl c.in-Some.ensures.cases.same
    (rw c.answered.ensures
    (service_done a.event.now a.state a.out.now c.in-Some.store.now c.in-Tick.ensures (gives_tick a.state _ c.tick.ensures)))

pub returns-in-Sample : goal.returns-in-Sample
returns-in-Sample c =
    let a = c.args in
    event_by a.event.now a.state a.out.now a.store.now _ c.in_default.ensures refl c.in-Some.ensures.cases.same
    (rw c.answered-in-Sample.ensures
    (service_done a.event.now a.state a.out.now c.in-Some.store.now c.in-Sample.ensures (gives_sample _ a.state _ c.sample.ensures)))

pub returns-in-Sync : goal.returns-in-Sync
returns-in-Sync c =
    let a = c.args in
    let ok = admitted _ c.args.state _ _ c.in_default.ensures refl in
    event_by a.event.now a.state a.out.now a.store.now _ c.in_default.ensures refl c.in-Some.ensures.cases.same
    (rw c.answered-in-Sync.ensures
    (service_done a.event.now a.state a.out.now c.in-Some.store.now c.in-Sync.ensures (gives_sync a.state _ ok.kept c.sync.ensures)))

pub returns-in-Remote : goal.returns-in-Remote
returns-in-Remote c =
    let a = c.args in
    let ok = admitted _ c.args.state _ _ c.in_default.ensures refl in
    event_by a.event.now a.state a.out.now a.store.now _ c.in_default.ensures refl c.in-Some.ensures.cases.same
    (rw c.answered-in-Remote.ensures
    (service_done a.event.now a.state a.out.now c.in-Some.store.now c.in-Remote.ensures (gives_remote _ a.state _ ok.kept c.remote.ensures)))
