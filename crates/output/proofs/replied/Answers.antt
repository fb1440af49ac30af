-- `output::replied` meets its contract: one frame at most is laid. Assumes nothing.
use mathlib.Core.Path.{refl}
use Rattle.wire.proofs.Lay.{start, step}
use Rattle.output.proofs.replied.Goals as goal

pub returns : goal.returns
returns c = record { laid = step (start _) c.emit-n.ensures; core = refl }
