-- What this crate's own types tell: the present reading, and what is due at a tick. Assumes nothing.
use Rattle.model.specs.declared.State.{State}
use Rattle.model.specs.Parts.{pv_bits, integer_pv}
use Rattle.model.specs.Time.{heartbeat_due, tpdo_due, srdo_due}
use Rattle.time.specs.declared.frames.Reading.{Reading}
use Rattle.time.specs.declared.tick.Due.{Due}

-- the bits of PV, and the integer PV
abbrev pub reading_of : State → Reading
reading_of s = record { bits = pv_bits s; integer = integer_pv s }

-- of a state whose clock has moved
abbrev pub due_of : State → Due
due_of s = record { heartbeat = heartbeat_due s; tpdo = tpdo_due s; srdo = srdo_due s }
