-- Safety pairs by the bus log alone: in the log of any run from a power-on that is not refused, the COB-IDs, the reading and the signatures of a
-- pair are those of the values that the log up to that line tells, and of the FV that it tells. Assumes nothing.
use mathlib.Core.Path.{◌≡◌, refl, ap, ◌∙◌, subst₂, fun_ext}
use mathlib.Core.Bool.{true, cond, not, ◌&&◌}
use mathlib.Core.List.{List, [], ◌∷◌}
use Prim.Native.Nat.{ℕ}
use lib.Dec.{eqb}
use lib.ListN.{length}
use Rattle.std.specs.Prelude.{Option, Some, None}
use Rattle.model.specs.declared.Group.TheVariants.{C, A}
use Rattle.model.specs.declared.Groups.{Groups}
use Rattle.model.specs.declared.Groups.TheVariants.{Both, OnlyC, OnlyA}
use Rattle.model.specs.declared.Change.{Change}
use Rattle.model.specs.declared.Change.TheVariants.{Keep, Write, Save, TakeOut, Load, SavePending}
use Rattle.model.specs.declared.Service.{Service}
use Rattle.model.specs.declared.Service.TheVariants.{Nothing, Tick, Sample, Nmt, Sync, Remote, Sdo, Lss}
use Rattle.model.specs.declared.Timer.{Timer}
use Rattle.model.specs.declared.Timer.TheVariants.{Heartbeat, Tpdo, Srdo}
use Rattle.model.specs.declared.Fv.{Fv}
use Rattle.model.specs.declared.Frame.{Frame}
use Rattle.model.specs.declared.Identity.{Identity}
use Rattle.model.specs.declared.Settings.{Settings}
use Rattle.model.specs.declared.Core.{Core}
use Rattle.model.specs.declared.State.{State}
use Rattle.model.specs.Bytes.{Bytes}
use Rattle.model.specs.Settings.{has, made}
use Rattle.model.specs.Store.{Saved, read, address_from}
use Rattle.model.specs.Parts.{id_of, is_operational, is_pre_operational}
use Rattle.model.specs.Service.{service}
use Rattle.model.specs.Changes.{applied}
use Rattle.model.specs.Time.{timer_of, restart, ticked, synced, answers_remote, remote_answered}
use Rattle.model.specs.Nmt.{is_for, start_obeyed, start, stop, obeyed, commanded, readied, cleared, auto_start, reset}
use Rattle.model.specs.Sdo.{serves}
use Rattle.model.specs.Rules.{rules}
use Rattle.model.specs.Step.{done, refusal, power_on_refusal, change_of, heard, core_after, served, step, unborn, power_on}
use Rattle.model.specs.Run.{Call, powered, World, begun, after, continued, run}
use Rattle.model.specs.History.{is_served}
use Rattle.model.specs.Pairs.{Safe, none, zero_fv, sampled_in, fv_after, fv_of, settings_told, SafeLog}
use Rattle.laws.proofs.Tests.{cond_case, hit_case}
use Rattle.laws.proofs.Allowed.{Allowed, change_allowed}
use Rattle.laws.proofs.History.{Told, told_refusal, told_deed, told_next, told_begun}
use Rattle.laws.proofs.Pairs.{step_safe, power_on_safe}

-- ---- FV is what the log says

abbrev SameFv : Core → Core → Type 0
SameFv c d = d.fv ≡ c.fv

start_fv : (k : Settings) (c : Core) → (start k c).fv ≡ c.fv
unfolding start
start_fv k c = cond_case (SameFv c) (not (is_operational c) && start_obeyed k) (λ _. refl) (λ _. refl)

heard_fv : (v : Service) (s : State) → (heard v s).fv ≡ sampled_in v s.core.fv
unfolding heard ticked commanded obeyed stop synced remote_answered
heard_fv Nothing s = refl
heard_fv Tick s = refl
heard_fv (Sample fv) s = refl
heard_fv (Nmt command to) s =
    cond_case (SameFv s.core) (is_for to (id_of s))
    (λ _. hit_case (SameFv s.core) _ _ ((λ _. start_fv s.settings s.core), ((λ _. refl), ((λ _. refl), tt))) refl)
    (λ _. refl)
heard_fv Sync s = cond_case (SameFv s.core) (is_operational s.core) (λ _. refl) (λ _. refl)
heard_fv (Remote to) s = cond_case (SameFv s.core) (answers_remote to s) (λ _. refl) (λ _. refl)
heard_fv (Sdo to r) s = cond_case (SameFv s.core) (serves to s) (λ _. refl) (λ _. refl)
heard_fv (Lss r) s = cond_case (SameFv s.core) (is_pre_operational s.core) (λ _. refl) (λ _. refl)

restart_fv : (t : Option Timer) (c : Core) → (restart t c).fv ≡ c.fv
restart_fv None c = refl
restart_fv (Some Heartbeat) c = refl
restart_fv (Some Tpdo) c = refl
restart_fv (Some Srdo) c = refl

readied_fv : (gs : Groups) (id : ℕ) (sv : Saved) (c : Core) → has gs C ≡ true → (readied gs id sv c).fv ≡ cond (has gs A) zero_fv c.fv
unfolding readied
readied_fv Both id sv c h = refl
readied_fv OnlyC id sv c h = refl
readied_fv OnlyA id sv c h = cc

reset_fv : (gs : Groups) (id : ℕ) (sv : Saved) (k : Settings) (c : Core) → has gs C ≡ true
    → (reset gs id sv k c).fv ≡ cond (has gs A) zero_fv c.fv
unfolding reset auto_start cleared
reset_fv gs id sv k c h =
    cond_case (λ (d : Core). d.fv ≡ cond (has gs A) zero_fv c.fv) (eqb k.application.autostart 1)
    (λ _. start_fv k (cleared (readied gs id sv c)) ∙ readied_fv gs id sv c h) (λ _. readied_fv gs id sv c h)

core_fv : (c : Change) (v : Service) (s : State) (sv : Saved) (k : Settings) → Allowed c s
    → (core_after c v s sv k).fv ≡ fv_after c v s.core.fv
unfolding core_after
core_fv Keep v s sv k a = heard_fv v s
core_fv (Write p x) v s sv k a = restart_fv (timer_of p) (heard v s) ∙ heard_fv v s
core_fv (Save gs) v s sv k a = heard_fv v s
core_fv (TakeOut gs) v s sv k a = heard_fv v s
core_fv (Load gs id) v s sv k a = reset_fv gs id sv k s.core a.1
core_fv SavePending v s sv k a = heard_fv v s

-- ---- runs

record Shown (sv : Saved) (w : World) : Type 0 where
  told : Told sv w
  fv_is : w.state.core.fv ≡ fv_of sv w.log
  safe : SafeLog sv w.log

-- what is said of the state is said of the log
by_log : (sv : Saved) (w : World) (v : Service) (fs : List Frame) → Told sv w → w.state.core.fv ≡ fv_of sv w.log
    → Safe v w.state.settings w.state.core.fv fs
    → Safe v (settings_told sv w.log) (fv_of sv w.log) fs
by_log sv w v fs h e k = subst₂ (λ (y : Settings) (x : Fv). Safe v y x fs) (ap made (fun_ext h.agrees.values)) e k

step_fv : (e : List ℕ) (s : State) (st : List ℕ) → rules s ≡ true
    → (step e s st).state.core.fv ≡ fv_after (change_of (service e) s (read st)) (service e) s.core.fv
unfolding step served
step_fv e s st r =
    let c = change_of (service e) s (read st) in
    core_fv c (service e) s (read st) (applied c s.settings (read st)) (change_allowed s st r (service e))

fv_next : (sv : Saved) (c : Call) (w : World) → Told sv w → w.state.core.fv ≡ fv_of sv w.log
    → (continued c w).state.core.fv ≡ fv_of sv (continued c w).log
unfolding continued fv_of
fv_next sv c w h f =
    rw (told_refusal sv c w h)
    (cond_case (λ (x : World). x.state.core.fv ≡ fv_of sv x.log) (is_served c.event c.room)
    (λ e.
    rw (e, told_deed sv c.event w h)
    (step_fv c.event w.state w.store h.keeps ∙ ap (fv_after (change_of (service c.event) w.state (read w.store)) (service c.event)) f))
    (λ e. rw e f))

safe_next : (sv : Saved) (c : Call) (w : World) → Shown sv w → Told sv (continued c w)
    → (continued c w).state.core.fv ≡ fv_of sv (continued c w).log → SafeLog sv (continued c w).log
unfolding continued
safe_next sv c w h =
    cond_case (λ (x : World). Told sv x → x.state.core.fv ≡ fv_of sv x.log → SafeLog sv x.log) (eqb (refusal c.event w.state c.room (length w.store)) done)
    (λ e told fv. (
      by_log sv (after c (step c.event w.state w.store) w.log) (service c.event) (step c.event w.state w.store).sent told fv
          (step_safe c.event w.state w.store h.told.keeps),
      h.safe,
    ))
    (λ e told fv. (none, h.safe))

shown_next : (sv : Saved) (c : Call) (w : World) → Shown sv w → Shown sv (continued c w)
unfolding continued
shown_next sv c w h =
    let t = told_next sv c w h.told in
    let f = fv_next sv c w h.told h.fv_is in
    record { told = t; fv_is = f; safe = safe_next sv c w h t f }

shown_run : (sv : Saved) (cs : List Call) (w : World) → Shown sv w → Shown sv (run cs w)
unfolding run continued
shown_run sv [] w h = h
shown_run sv (c ∷ cs) w h = shown_run sv cs (continued c w) (shown_next sv c w h)

begun_fv : (i : Identity) (room : ℕ) (st : List ℕ) → power_on_refusal room (length st) ≡ done
    → (begun i room st).state.core.fv ≡ fv_of (read st) (begun i room st).log
unfolding begun fv_of power_on
begun_fv i room st e = rw e (unfold served core_after in reset_fv Both (address_from (read st)).id (read st) _ (unborn i).core refl)

begun_log : (i : Identity) (room : ℕ) (st : List ℕ) → power_on_refusal room (length st) ≡ done
    → Told (read st) (begun i room st) → (begun i room st).state.core.fv ≡ fv_of (read st) (begun i room st).log
    → SafeLog (read st) (begun i room st).log
unfolding begun
begun_log i room st e =
    let o = power_on i st in
    let w : World = record { state = o.state; store = o.store; log = powered room done o.sent ∷ [] } in
    rw e (λ told fv. (by_log (read st) w Nothing o.sent told fv (power_on_safe i st), tt))

shown_begun : (i : Identity) (room : ℕ) (st : List ℕ) → power_on_refusal room (length st) ≡ done → Bytes st
    → Shown (read st) (begun i room st)
unfolding begun
shown_begun i room st e b =
    let t = told_begun i room st e b in
    let f = begun_fv i room st e in
    record { told = t; fv_is = f; safe = begun_log i room st e t f }

-- THE THEOREM
pub pairs_in_log : (i : Identity) (room : ℕ) (st : List ℕ) (cs : List Call) → power_on_refusal room (length st) ≡ done → Bytes st
    → SafeLog (read st) (run cs (begun i room st)).log
pairs_in_log i room st cs e b = (shown_run (read st) cs (begun i room st) (shown_begun i room st e b)).safe
