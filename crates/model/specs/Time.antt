-- Document 01, "NMT, time, SYNC", its second paragraph: heartbeat, TPDO, SRDO, SYNC, remote frames and EMCY. Assumes nothing.
use Rattle.std.specs.Prelude.{ℕ, ◌+◌, Bool, true, false, cond, not, ◌&&◌, List, [], ◌∷◌, ◌++◌, eqb, leb, Option, Some, None}
use Rattle.model.specs.declared.Parameter.{Parameter}
use Rattle.model.specs.declared.Parameter.TheVariants.{P1017, P1301s2, P1800s2, P1800s5}
use Rattle.model.specs.declared.Timer.{Timer}
use Rattle.model.specs.declared.Timer.TheVariants.{Heartbeat, Tpdo, Srdo}
use Rattle.model.specs.declared.Transmission.{Transmission}
use Rattle.model.specs.declared.Transmission.TheVariants.{OnSample, OnSyncs, OnRemote, Timed, Never}
use Rattle.model.specs.declared.Fv.{Fv}
use Rattle.model.specs.declared.Frame.{Frame}
use Rattle.model.specs.declared.Communication.{Communication}
use Rattle.model.specs.declared.Core.{Core}
use Rattle.model.specs.declared.Sending.{Sending}
use Rattle.model.specs.declared.State.{State}
use Rattle.model.specs.Choice.{◌⇒◌, first_hit}
use Rattle.model.specs.Bytes.{low_bytes, within}
use Rattle.model.specs.Clock.{next, fires, fires_unless_off}
use Rattle.model.specs.Frames.{frame, full, when, heartbeats, tpdos, emcys}
use Rattle.model.specs.Settings.{among}
use Rattle.model.specs.Parts.{with_core, with_timers, with_tpdo, with_fv, timers, sending, id_of, is_stopped, is_operational, integer_pv, capped, pv_bits, pv_inverse, error_register}

-- the communication parameters in force
abbrev pub communication : State → Communication
communication s = s.settings.communication

-- ---- Restarts

-- a restart sets a timer's start to the clock
abbrev pub restart_heartbeat : Core → Core
restart_heartbeat c = let t = c.timers in with_timers c (timers t.clock t.clock t.tpdo t.srdo)

abbrev pub restart_srdo : Core → Core
restart_srdo c = let t = c.timers in with_timers c (timers t.clock t.heartbeat t.tpdo t.clock)

-- with its timer the TPDO loses what it remembers: the SYNCs that were counted, and that a sample came
abbrev pub restart_tpdo : Core → Core
restart_tpdo c = let t = c.timers in with_tpdo (with_timers c (timers t.clock t.heartbeat t.clock t.srdo)) (sending 0 false)

-- the timer that a parameter is a period or the type of, where it is one's
unfoldable pub timer_of : Parameter → Option Timer
timer_of p =
    first_hit
    ((among (P1017 ∷ []) p ⇒ Some Heartbeat) ∷ (among (P1800s2 ∷ P1800s5 ∷ []) p ⇒ Some Tpdo) ∷ (among (P1301s2 ∷ []) p ⇒ Some Srdo) ∷ [])
    None

-- an accepted write of such a parameter restarts its timer, with the same value too
abbrev pub restart : Option Timer → Core → Core
restart None c = c
restart (Some Heartbeat) c = restart_heartbeat c
restart (Some Tpdo) c = restart_tpdo c
restart (Some Srdo) c = restart_srdo c

-- ---- The frames

-- heartbeat: the NMT state's number
abbrev pub heartbeat_frame : State → Frame
heartbeat_frame s = frame (heartbeats + id_of s) (s.core.nmt ∷ [])

-- TPDO: the integer PV
unfoldable pub tpdo_frame : State → Frame
tpdo_frame s = frame (tpdos + id_of s) (low_bytes 4 (integer_pv s).bits)

-- SRDO: the bits of PV on the first COB-ID, their inverse on the second
unfoldable pub srdo_first : State → Frame
srdo_first s = frame (communication s).srdo.first (low_bytes 4 (pv_bits s))

unfoldable pub srdo_second : State → Frame
srdo_second s = frame (communication s).srdo.second (low_bytes 4 (pv_inverse s))

-- EMCY: the code, the error register, five zeros
unfoldable pub emcy_frame : State → Frame
emcy_frame s = full (emcys + id_of s) (low_bytes 2 (cond (capped s) 0xff01 0) ++ (error_register s ∷ []))

-- ---- What a transmission type sends at

-- 0 at a SYNC after a new sample, 1..240 at each n-th SYNC, 252 and 253 at a remote frame, 254 and 255 by the event timer
unfoldable pub transmission : ℕ → Transmission
transmission k =
    first_hit
    ((eqb k 0 ⇒ OnSample) ∷ (within 1 240 k ⇒ OnSyncs) ∷ (within 252 253 k ⇒ OnRemote) ∷ (within 254 255 k ⇒ Timed) ∷ [])
    Never

-- the type in force
abbrev pub sends_at : State → Transmission
sends_at s = transmission (communication s).tpdo.kind

-- ---- A tick: the clock moves first, then the timers look at it

-- the state with the clock moved
abbrev pub clocked : State → State
clocked s =
    let t = s.core.timers in
    with_core s (with_timers s.core (timers (next t.clock) t.heartbeat t.tpdo t.srdo))

-- the heartbeat is due in every NMT state; a period of 0 is off
unfoldable pub heartbeat_due : State → Bool
heartbeat_due s = fires_unless_off s.core.timers.clock s.core.timers.heartbeat (communication s).heartbeat

abbrev pub is_timed : Transmission → Bool
is_timed OnSample = false
is_timed OnSyncs = false
is_timed OnRemote = false
is_timed Timed = true
is_timed Never = false

-- the TPDO is due by its event timer, in Operational; a period of 0 is off
unfoldable pub tpdo_due : State → Bool
tpdo_due s =
    is_operational s.core
    && (is_timed (sends_at s) && fires_unless_off s.core.timers.clock s.core.timers.tpdo (communication s).tpdo.period)

-- the SRDO is due, in Operational and where its direction is to send
unfoldable pub srdo_due : State → Bool
srdo_due s =
    is_operational s.core
    && (eqb (communication s).srdo.direction 1 && fires s.core.timers.clock s.core.timers.srdo (communication s).srdo.refresh)

-- a timer's start: the clock where it fires
abbrev pub start_after : Bool → ℕ → ℕ → ℕ
start_after true clock start = clock
start_after false clock start = start

-- the core after heartbeat, TPDO and SRDO were due or not; a TPDO uses up the sample
abbrev pub fired : Bool → Bool → Bool → Core → Core
fired h t r c =
    let now = c.timers.clock in
    with_tpdo
    (with_timers c
    (timers now (start_after h now c.timers.heartbeat) (start_after t now c.timers.tpdo) (start_after r now c.timers.srdo)))
    (sending c.tpdo.syncs (not t && c.tpdo.sample))

-- what is sent then, in this order; a capped reading goes out in no pair, though the period is over
abbrev pub firing : Bool → Bool → Bool → State → List Frame
firing h t r s =
    when h (heartbeat_frame s)
    ++ (when t (tpdo_frame s)
    ++ (when (r && not (capped s)) (srdo_first s)
    ++ when (r && not (capped s)) (srdo_second s)))

-- a tick's core, and its frames
unfoldable pub ticked : State → Core
ticked s = let t = clocked s in fired (heartbeat_due t) (tpdo_due t) (srdo_due t) t.core

unfoldable pub tick_frames : State → List Frame
tick_frames s = let t = clocked s in firing (heartbeat_due t) (tpdo_due t) (srdo_due t) t

-- ---- A sample: FV, and a new sample since the last TPDO

-- in every NMT state, and also where FV is the same again
abbrev pub sampled : Fv → Core → Core
sampled fv c = with_tpdo (with_fv c fv) (sending c.tpdo.syncs true)

-- ---- A TPDO outside the event timer, which leaves that timer alone and uses up the sample

-- at a SYNC: by type 0 where there is a new sample, by 1..240 at each n-th, by others never
abbrev pub sync_sends : Transmission → ℕ → Sending → Bool
sync_sends OnSample n d = d.sample
sync_sends OnSyncs n d = leb n (d.syncs + 1)
sync_sends OnRemote n d = false
sync_sends Timed n d = false
sync_sends Never n d = false

-- what the TPDO remembers after a SYNC: only types 1..240 count
abbrev pub sync_counted : Transmission → ℕ → Sending → Sending
sync_counted OnSample n d = sending d.syncs false
sync_counted OnSyncs n d = cond (leb n (d.syncs + 1)) (sending 0 false) (sending (d.syncs + 1) d.sample)
sync_counted OnRemote n d = d
sync_counted Timed n d = d
sync_counted Never n d = d

-- a SYNC is heard in Operational alone
unfoldable pub synced : State → Core
synced s =
    cond (is_operational s.core) (with_tpdo s.core (sync_counted (sends_at s) (communication s).tpdo.kind s.core.tpdo)) s.core

unfoldable pub sync_frames : State → List Frame
sync_frames s =
    when (is_operational s.core && sync_sends (sends_at s) (communication s).tpdo.kind s.core.tpdo) (tpdo_frame s)

abbrev pub is_on_remote : Transmission → Bool
is_on_remote OnSample = false
is_on_remote OnSyncs = false
is_on_remote OnRemote = true
is_on_remote Timed = false
is_on_remote Never = false

-- a remote frame on this node's TPDO is answered in Operational by types 252 and 253, with the present value
unfoldable pub answers_remote : ℕ → State → Bool
answers_remote to s = eqb to (id_of s) && (is_operational s.core && is_on_remote (sends_at s))

unfoldable pub remote_answered : ℕ → State → Core
remote_answered to s = cond (answers_remote to s) (with_tpdo s.core (sending s.core.tpdo.syncs false)) s.core

unfoldable pub remote_frames : ℕ → State → List Frame
remote_frames to s = when (answers_remote to s) (tpdo_frame s)

-- ---- EMCY

-- one holds and the other does not
abbrev pub differ : Bool → Bool → Bool
differ true b = not b
differ false b = b

-- it is due when capped is not what was reported, unless Stopped
unfoldable pub emcy_due : State → Bool
emcy_due s = not (is_stopped s.core) && differ (capped s) s.core.reported
