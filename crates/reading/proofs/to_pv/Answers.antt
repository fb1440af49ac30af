-- `reading::to_pv` meets its contract: the body is the formula, with 4000.0 and 16000.0 by their bit patterns. Assumes nothing.
use Rattle.std.proofs.Common.{refl}
use lib.Ieee.{of_bits}
use Rattle.model.specs.Reading.{pv_of}
use Rattle.reading.proofs.to_pv.Goals as goal

pub returns : goal.returns
unfolding pv_of of_bits
returns c = rw c.from-b.ensures refl
