-- `output::send` meets its contract: three frames laid one after the other. Assumes nothing.
use Rattle.wire.proofs.Lay.{start, step}
use Rattle.output.proofs.send.Goals as goal

pub returns : goal.returns
returns c =
    step (step (step (start _) c.emit-n1.ensures) c.emit-n2.ensures) c.emit-n3.ensures
