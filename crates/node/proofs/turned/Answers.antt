-- `node::turned` meets its contract: the parameters, the core, and three frames at most, each in its place. Assumes nothing.
use mathlib.Core.Path.{refl, sym, ap, ◌∙◌}
use mathlib.Core.List.{◌++◌, append_assoc}
use Rattle.model.specs.declared.Settings.{Settings}
use Rattle.model.specs.Frames.{frames_of}
use Rattle.model.specs.Store.{read}
use Rattle.model.specs.Step as Step
use Rattle.output.proofs.Ticks.{laid_as}
use Rattle.node.proofs.turned.Goals as goal

pub emcy_after-told-requires : goal.emcy_after-told-requires
emcy_after-told-requires c =
    let p = c.requires.0 in
    let st = c.args.store.now in
    let held = c.read_for-contents.ensures in
    let settled = c.settings_after-settings.ensures st held in
    (rw settled p.after.digits, rw (c.core_after-core.ensures p.asks c.args.s st p.heard refl held, settled) p.after.id)

pub returns : goal.returns
returns c =
    let a = c.args.asked in
    let s = c.args.s in
    let reply = frames_of a.reply in
    let boot = frames_of c.booted-boot.result in
    let emcy = frames_of c.emcy_after-told.result.emcy in
    let st = c.args.store.now in
    let held = c.read_for-contents.ensures in
    let settled = c.settings_after-settings.ensures st held in
    λ v heard.
    let core = c.core_after-core.ensures v s st heard refl held in
    let judged =
    c.emcy_after-told.ensures (Step.changed a.change v s (read st)) (ap (λ (k : Settings). k.application) (sym settled))
    (sym (core ∙ ap (Step.core_after a.change v s (read st)) settled)) in
    let order =
    append_assoc reply boot emcy ∙ ap (λ fs. reply ++ (fs ++ emcy)) c.booted-boot.ensures ∙ ap (λ fs. reply ++ (Step.booted a.change ++ fs)) judged.emcy in
    record { number = refl; laid = laid_as c.send-count.ensures order; state = rw (judged.reported, core, settled) }
