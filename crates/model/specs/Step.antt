-- One event, the power-on, and the answers of both calls. Document 01, "Events, frames and the answer". Assumes nothing.
--
--   event bytes --service--> Service --change_of-> Change --applied, stored--> the saved parameters, the store
--                               |                    |
--                               +-- reply, heard ----+--core_after, boot_up--> the rest of the state, the frames; EMCY comes last
use Rattle.std.specs.Prelude.{ℕ, ◌≡◌, Bool, true, false, cond, not, ◌&&◌, ◌||◌, List, [], ◌∷◌, ◌++◌, eqb, ltb, length, replicate}
use Rattle.model.specs.declared.Service.{Service}
use Rattle.model.specs.declared.Service.TheVariants.{Nothing, Tick, Sample, Nmt, Sync, Remote, Sdo, Lss}
use Rattle.model.specs.declared.Change.{Change}
use Rattle.model.specs.declared.Change.TheVariants.{Keep, Write, Save, TakeOut, Load, SavePending}
use Rattle.model.specs.declared.Groups.TheVariants.{Both}
use Rattle.model.specs.declared.Frame.{Frame}
use Rattle.model.specs.declared.Identity.{Identity}
use Rattle.model.specs.declared.Settings.{Settings}
use Rattle.model.specs.declared.Core.{Core}
use Rattle.model.specs.declared.State.{State}
use Rattle.model.specs.declared.Answer.{Answer}
use Rattle.model.specs.Choice.{Arm, ◌⇒◌, first_hit}
use Rattle.model.specs.Bytes.{within}
use Rattle.model.specs.Frames.{kind_of_event, can_id, flag_in, length_in, when, overlay}
use Rattle.model.specs.Settings.{made}
use Rattle.model.specs.Store.{Saved, read, default_for, address_from}
use Rattle.model.specs.Parts.{state, with_core, core, with_reported, address, timers, sending, no_selection, no_upload, pre_operational, is_pre_operational, capped}
use Rattle.model.specs.Service.{service}
use Rattle.model.specs.Changes.{applied, stored}
use Rattle.model.specs.Time.{timer_of, restart, ticked, tick_frames, sampled, synced, sync_frames, remote_answered, remote_frames, emcy_due, emcy_frame}
use Rattle.model.specs.Nmt.{commanded, nmt_change, reset, boot_up}
use Rattle.model.specs.Sdo.{serves, sdo_change, sdo_reply, sdo_served}
use Rattle.model.specs.Lss.{lss_change, lss_reply, lss_served}
use Rattle.model.specs.Rules.{rules}

-- ---- The refusals, lowest number first

-- 0 is done; the others each have a row of the table below
abbrev pub done : ℕ
done = 0

abbrev pub not_an_event : ℕ
not_an_event = 1

abbrev pub unknown_kind : ℕ
unknown_kind = 2

abbrev pub bad_frame : ℕ
bad_frame = 3

abbrev pub short_output : ℕ
short_output = 4

abbrev pub wrong_store : ℕ
wrong_store = 5

abbrev pub broken_state : ℕ
broken_state = 6

-- room for four frames
abbrev pub output_size : ℕ
output_size = 48

abbrev pub store_size : ℕ
store_size = 64

-- a frame whose CAN-ID, flag or length is out of range
abbrev pub bad_frame_in : List ℕ → Bool
bad_frame_in e = ltb 2047 (can_id e) || (ltb 1 (flag_in e) || ltb 8 (length_in e))

-- the table's rows: by the event's bytes, by the lengths of output and store, by the state
abbrev pub by_event : List ℕ → List (Arm ℕ)
by_event e =
    (not (eqb (length e) 13) ⇒ not_an_event)
    ∷ (not (within 1 3 (kind_of_event e)) ⇒ unknown_kind)
    ∷ (eqb (kind_of_event e) 1 && bad_frame_in e ⇒ bad_frame)
    ∷ []

abbrev pub by_output : ℕ → List (Arm ℕ)
by_output out = (ltb out output_size ⇒ short_output) ∷ []

abbrev pub by_store : ℕ → List (Arm ℕ)
by_store st = (not (eqb st store_size) ⇒ wrong_store) ∷ []

abbrev pub by_state : State → List (Arm ℕ)
by_state s = (not (rules s) ⇒ broken_state) ∷ []

-- the refusal of an event; out and st are the lengths of output and store
unfoldable pub refusal : List ℕ → State → ℕ → ℕ → ℕ
refusal e s out st = first_hit (by_event e ++ (by_output out ++ (by_store st ++ by_state s))) done

-- the refusal of a power-on
unfoldable pub power_on_refusal : ℕ → ℕ → ℕ
power_on_refusal out st = first_hit (by_output out ++ by_store st) done

-- ---- What a service changes, replies, and does to the rest of the state

-- the change: SDO is served unless Stopped, LSS in Pre-operational alone
unfoldable pub change_of : Service → State → Saved → Change
change_of Nothing s sv = Keep
change_of Tick s sv = Keep
change_of (Sample fv) s sv = Keep
change_of (Nmt command to) s sv = nmt_change command to s sv
change_of Sync s sv = Keep
change_of (Remote to) s sv = Keep
change_of (Sdo to r) s sv = cond (serves to s) (sdo_change r s) Keep
change_of (Lss r) s sv = cond (is_pre_operational s.core) (lss_change r s) Keep

-- the frames that answer it
unfoldable pub reply : Service → State → List Frame
reply Nothing s = []
reply Tick s = tick_frames s
reply (Sample fv) s = []
reply (Nmt command to) s = []
reply Sync s = sync_frames s
reply (Remote to) s = remote_frames to s
reply (Sdo to r) s = cond (serves to s) (sdo_reply r s) []
reply (Lss r) s = cond (is_pre_operational s.core) (lss_reply r s) []

-- the core as the service alone leaves it; what a reset's load or a written period does to the core comes on top (`core_after`)
unfoldable pub heard : Service → State → Core
heard Nothing s = s.core
heard Tick s = ticked s
heard (Sample fv) s = sampled fv s.core
heard (Nmt command to) s = commanded command to s
heard Sync s = synced s
heard (Remote to) s = remote_answered to s
heard (Sdo to r) s = cond (serves to s) (sdo_served r s.core) s.core
heard (Lss r) s = cond (is_pre_operational s.core) (lss_served r s) s.core

-- the core after service and change, where k are the parameters after the change: a load is a reset, and a written period or type restarts its timer
unfoldable pub core_after : Change → Service → State → Saved → Settings → Core
core_after Keep v s sv k = heard v s
core_after (Write p x) v s sv k = restart (timer_of p) (heard v s)
core_after (Save gs) v s sv k = heard v s
core_after (TakeOut gs) v s sv k = heard v s
core_after (Load gs id) v s sv k = reset gs id sv k s.core
core_after SavePending v s sv k = heard v s

-- a load boots up with the ID that becomes active
abbrev pub booted : Change → List Frame
booted Keep = []
booted (Write p x) = []
booted (Save gs) = []
booted (TakeOut gs) = []
booted (Load gs id) = boot_up id ∷ []
booted SavePending = []

-- ---- One event

-- what a call that is not refused comes to: the state, the frames sent, the store
pub record Outcome : Type 0 where
  pub state : State
  pub sent : List Frame
  pub store : List ℕ

-- the state after a change and a service, but for EMCY
abbrev pub changed : Change → Service → State → Saved → State
changed c v s sv = let k = applied c s.settings sv in state s.identity k (core_after c v s sv k)

-- an EMCY may follow all but a tick, whose frames are the four timed ones (after a tick none can be due in a state that keeps the rules)
abbrev pub reports : Service → Bool
reports Nothing = true
reports Tick = false
reports (Sample fv) = true
reports (Nmt command to) = true
reports Sync = true
reports (Remote to) = true
reports (Sdo to r) = true
reports (Lss r) = true

-- the reported flag, where an EMCY is due or not
abbrev pub reported_after : Bool → State → Bool
reported_after true s = capped s
reported_after false s = s.core.reported

-- a change and a service carried out: the reply, the boot-up, and last the EMCY, judged on the state after them
unfoldable pub served : Change → Service → State → List ℕ → Outcome
served c v s st =
    let t = changed c v s (read st) in
    let due = reports v && emcy_due t in
    record {
      state = with_core t (with_reported t.core (reported_after due t));
      sent = reply v s ++ (booted c ++ when due (emcy_frame t));
      store = stored c s st;
    }

-- what an event that is not refused comes to
unfoldable pub step : List ℕ → State → List ℕ → Outcome
step e s st = served (change_of (service e) s (read st)) (service e) s st

-- ---- The power-on

-- a state at clock 0; the load leaves only the identity and the clock of it
abbrev pub unborn : Identity → State
unborn i =
    state i (made (default_for 1))
    (core (address 1 3) (address 1 3) pre_operational false (record { 0 = 0 }) (timers 0 0 0 0) (sending 0 false) no_selection no_upload)

-- a power-on is a reset node of it
unfoldable pub power_on : Identity → List ℕ → Outcome
power_on i st = served (Load Both (address_from (read st)).id) Nothing (unborn i) st

abbrev pub zero_store : List ℕ
zero_store = replicate store_size 0

-- ---- The answers: number, count and state, and what output and store hold after the call

pub record Answered : Type 0 where
  pub answer : Answer
  pub output : List ℕ
  pub store : List ℕ

-- the answer of a refused call: nothing is sent
abbrev pub turned_away : ℕ → State → Answer
turned_away n s = record { number = n; count = 0; state = s }

-- a refused call leaves output and store as they were
abbrev pub refused : ℕ → State → List ℕ → List ℕ → Answered
refused n s out st = record { answer = turned_away n s; output = out; store = st }

-- a served one lays its frames over the output
abbrev pub given : Outcome → List ℕ → Answered
given o out =
    record {
      answer = record { number = done; count = length o.sent; state = o.state };
      output = overlay o.sent out;
      store = o.store;
    }

-- the call `event`
unfoldable pub event_answer : List ℕ → State → List ℕ → List ℕ → Answered
event_answer e s out st =
    let n = refusal e s (length out) (length st) in
    cond (eqb n done) (given (step e s st) out) (refused n s out st)

-- the call `power_on`; a refused one hands back the state that an all-zero store gives
unfoldable pub power_on_answer : Identity → List ℕ → List ℕ → Answered
power_on_answer i out st =
    let n = power_on_refusal (length out) (length st) in
    cond (eqb n done) (given (power_on i st) out) (refused n (power_on i zero_store).state out st)

-- ---- What the two calls promise

-- the answer r of a call, and what output and store hold after it, are those of its definition
pub record Gives (o : Answered) (r : Answer) (ys zs : List ℕ) : Type 0 where
  pub answer : r ≡ o.answer
  pub output : ys ≡ o.output
  pub store : zs ≡ o.store
