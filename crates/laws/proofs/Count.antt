-- Four frames are all that an output needs room for: no event and no power-on sends more, whatever the state and the store. And a tick, which
-- sends no EMCY, leaves none due. Assumes nothing.
use Prim.Native.Nat.{ℕ, ◌≤◌}
use native.Mathlib.Omega.{arith}
use mathlib.Core.Path.{◌≡◌, refl}
use mathlib.Core.Bool.{Bool, true, false, not, ◌&&◌, ◌||◌}
use mathlib.Core.List.{List, ◌++◌}
use lib.Dec.{eqb}
use lib.ListN.{length, length-append}
use Rattle.model.specs.declared.Service.{Service}
use Rattle.model.specs.declared.Service.TheVariants.{Nothing, Tick, Sample, Nmt, Sync, Remote, Sdo, Lss}
use Rattle.model.specs.declared.SdoRequest.{SdoRequest}
use Rattle.model.specs.declared.SdoRequest.TheVariants as R
use Rattle.model.specs.declared.LssRequest.{LssRequest}
use Rattle.model.specs.declared.LssRequest.TheVariants.{SwitchMode, Select, SetNodeId, SetBitIndex, StorePending, AskIdentity, AskNodeId, OtherLss}
use Rattle.model.specs.declared.Change.{Change}
use Rattle.model.specs.declared.Change.TheVariants.{Keep, Write, Save, TakeOut, Load, SavePending}
use Rattle.model.specs.declared.Identity.{Identity}
use Rattle.model.specs.declared.Frame.{Frame}
use Rattle.model.specs.declared.State.{State}
use Rattle.model.specs.Frames.{when}
use Rattle.model.specs.Store.{read}
use Rattle.model.specs.Parts.{is_stopped, is_pre_operational, capped}
use Rattle.model.specs.Service.{service}
use Rattle.model.specs.Time.{differ, clocked, heartbeat_due, tpdo_due, srdo_due, heartbeat_frame, tpdo_frame, srdo_first, srdo_second, ticked, tick_frames, sync_frames, remote_frames, emcy_due, emcy_frame}
use Rattle.model.specs.Sdo.{serves, sdo_reply}
use Rattle.model.specs.Lss.{lss_reply}
use Rattle.model.specs.Rules.{rules, rule_reported}
use Rattle.model.specs.Changes.{effect, applied}
use Rattle.model.specs.Step.{done, refusal, power_on_refusal, change_of, reply, heard, core_after, booted, changed, reports, served, step, power_on, Answered, event_answer, power_on_answer}
use Rattle.laws.proofs.Tests.{cond_case, and_l, and_r}

-- ---- at most four frames

when_one : (b : Bool) (f : Frame) → length (when b f) ≤ 1
when_one true f = omega arith
when_one false f = omega arith

boot_one : (c : Change) → length (booted c) ≤ 1
boot_one Keep = omega arith
boot_one (Write p x) = omega arith
boot_one (Save gs) = omega arith
boot_one (TakeOut gs) = omega arith
boot_one (Load gs id) = omega arith
boot_one SavePending = omega arith

sdo_one : (r : SdoRequest) (s : State) → length (sdo_reply r s) ≤ 1
unfolding sdo_reply
sdo_one (R.Download index sub size d) s = omega arith
sdo_one (R.Upload index sub) s = omega arith
sdo_one (R.UploadSegment toggle) s = omega arith
sdo_one R.ClientAbort s = omega arith
sdo_one R.DownloadSegment s = omega arith
sdo_one (R.Unknown index sub) s = omega arith

lss_one : (r : LssRequest) (s : State) → length (lss_reply r s) ≤ 1
unfolding lss_reply
lss_one (Select n number) s = search when_one
lss_one (SwitchMode mode) s = omega arith
lss_one (SetNodeId id) s = search when_one
lss_one (SetBitIndex table bit) s = search when_one
lss_one StorePending s = search when_one
lss_one (AskIdentity n) s = search when_one
lss_one AskNodeId s = search when_one
lss_one OtherLss s = omega arith

-- a tick's frames are four at most
tick_four : (s : State) → length (tick_frames s) ≤ 4
unfolding tick_frames
tick_four s =
    let t = clocked s in
    simp length-append
    (omega (
      arith,
      when_one (heartbeat_due t) (heartbeat_frame t),
      when_one (tpdo_due t) (tpdo_frame t),
      when_one (srdo_due t && not (capped t)) (srdo_first t),
      when_one (srdo_due t && not (capped t)) (srdo_second t),
    ))

-- one frame of reply, a boot-up and an EMCY
three : (a b c : List Frame) → length a ≤ 1 → length b ≤ 1 → length c ≤ 1 → length (a ++ (b ++ c)) ≤ 4
three a b c x y z = simp length-append (omega arith)

four : (c : Change) (v : Service) (s : State) (st : List ℕ) → length (reply v s) ≤ 1 → length (served c v s st).sent ≤ 4
unfolding served
four c v s st h =
    three (reply v s) (booted c) (when (reports v && emcy_due (changed c v s (read st))) (emcy_frame (changed c v s (read st)))) h (boot_one c) (search when_one)

served_four : (v : Service) (s : State) (st : List ℕ) → length (served (change_of v s (read st)) v s st).sent ≤ 4
unfolding reply change_of served sync_frames remote_frames
served_four Nothing s st = four Keep Nothing s st (omega arith)
served_four Tick s st = simp length-append (omega (arith, tick_four s))
served_four (Sample fv) s st = four Keep (Sample fv) s st (omega arith)
served_four (Nmt command to) s st = four (change_of (Nmt command to) s (read st)) (Nmt command to) s st (omega arith)
served_four Sync s st = four Keep Sync s st (search when_one)
served_four (Remote to) s st = four Keep (Remote to) s st (search when_one)
served_four (Sdo to r) s st =
    four (change_of (Sdo to r) s (read st)) (Sdo to r) s st (cond_case (λ (l : List Frame). length l ≤ 1) (serves to s) (λ _. sdo_one r s) (λ _. omega arith))
served_four (Lss r) s st =
    four (change_of (Lss r) s (read st)) (Lss r) s st
    (cond_case (λ (l : List Frame). length l ≤ 1) (is_pre_operational s.core) (λ _. lss_one r s) (λ _. omega arith))

-- THE THEOREM
pub at_most_four : (e : List ℕ) (s : State) (st : List ℕ) → length (step e s st).sent ≤ 4
unfolding step
at_most_four e s st = served_four (service e) s st

pub power_on_at_most_four : (i : Identity) (st : List ℕ) → length (power_on i st).sent ≤ 4
unfolding power_on reply
power_on_at_most_four i st = four _ Nothing _ st (omega arith)

-- so the count that a call answers is 0..4
pub event_count : (e : List ℕ) (s : State) (out st : List ℕ) → (event_answer e s out st).answer.count ≤ 4
unfolding event_answer
event_count e s out st =
    cond_case (λ (a : Answered). a.answer.count ≤ 4) (eqb (refusal e s (length out) (length st)) done) (λ _. at_most_four e s st) (λ _. omega arith)

pub power_on_count : (i : Identity) (out st : List ℕ) → (power_on_answer i out st).answer.count ≤ 4
unfolding power_on_answer
power_on_count i out st =
    cond_case (λ (a : Answered). a.answer.count ≤ 4) (eqb (power_on_refusal (length out) (length st)) done) (λ _. power_on_at_most_four i st) (λ _. omega arith)

-- ---- a tick is quiet

not_due : (a d : Bool) → a || not d ≡ true → not a && d ≡ false
not_due true d h = refl
not_due false true h = cc
not_due false false h = refl

pub flag_right : (s : State) → rules s ≡ true → is_stopped s.core || not (differ (capped s) s.core.reported) ≡ true
unfolding rules rule_reported
flag_right s h = search (and_l, and_r) depth 9

-- in a state that keeps the rules no EMCY is due
pub quiet_state : (s : State) → rules s ≡ true → emcy_due s ≡ false
unfolding emcy_due
quiet_state s h = not_due (is_stopped s.core) (differ (capped s) s.core.reported) (flag_right s h)

quiet : (s : State) (st : List ℕ) → rules s ≡ true → emcy_due (served Keep Tick s st).state ≡ false
unfolding served core_after heard ticked emcy_due applied effect
quiet s st h = quiet_state s h

-- THE THEOREM: after a tick in a state that keeps the rules no EMCY is due, so that leaving it out of a tick loses nothing
pub tick_quiet : (e : List ℕ) (s : State) (st : List ℕ) → service e ≡ Tick → rules s ≡ true → emcy_due (step e s st).state ≡ false
unfolding step change_of
tick_quiet e s st t h = rw t (quiet s st h)
