-- `sdo::segment::opened` meets its contract: the name is at 1008h:0 and nowhere else, by the whole table. Assumes nothing.
use native.Mathlib.Omega.{arith}
use Rattle.model.specs.Dictionary.{find}
use Rattle.sdo.proofs.segment.opened.Goals as goal

pub returns : goal.returns
unfolding find
returns c = grind arith
