-- What a sender lays, frame by frame, is what a tick sends. Assumes nothing.
use mathlib.Core.Path.{◌≡◌}
use mathlib.Core.Bool.{not, ◌&&◌}
use mathlib.Core.List.{[], ◌∷◌, ◌++◌, append_assoc}
use Rattle.std.specs.Bool.{then_some}
use Prim.Native.Nat.{◌+◌, ◌-◌}
use Rattle.model.specs.declared.State.{State}
use Rattle.model.specs.Bytes.{low_bytes}
use Rattle.model.specs.Frames.{frame, frames_of, heartbeats, tpdos}
use Rattle.model.specs.Parts.{id_of}
use Rattle.model.specs.Time.{communication, clocked, tick_frames, tpdo_frame, srdo_first, srdo_second}
use Rattle.wire.proofs.Lay.{frames_when}
use Rattle.time.specs.declared.frames.Reading.{Reading}
use Rattle.time.specs.declared.tick.Due.{Due}
use Rattle.time.specs.Told.{reading_of, due_of}

-- the four frames as this crate makes them, each where it is due, one `emit` after the other
pub sent_at_tick : (s : State) (d : Due) (r : Reading) → d ≡ due_of (clocked s) → r ≡ reading_of s
    → ((frames_of (then_some d.heartbeat (frame (heartbeats + id_of s) (s.core.nmt ∷ [])))
    ++ frames_of (then_some d.tpdo (frame (tpdos + id_of s) (low_bytes 4 r.integer.bits))))
    ++ frames_of (then_some (d.srdo && not r.integer.capped) (frame (communication s).srdo.first (low_bytes 4 r.bits))))
    ++ frames_of (then_some (d.srdo && not r.integer.capped) (frame (communication s).srdo.second (low_bytes 4 (0xffffffff - r.bits))))
    ≡ tick_frames s
unfolding tick_frames tpdo_frame srdo_first srdo_second
sent_at_tick s d r e f = rw (e, f) (simp (frames_when, append_assoc))
