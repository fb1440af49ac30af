-- `Text::hexes` meets its contract: a byte more at each turn. Assumes nothing.
use Rattle.std.proofs.Common.{arith}
use Rattle.text.proofs.Joined.{none_wrote, then, said}
use Rattle.text.proofs.Sent.{byte_turn}
use Rattle.text.proofs.Text.hexes.Goals as goal

pub loop-b-init : goal.loop-b-init
loop-b-init c = none_wrote c.args.self.now (omega (arith, c.requires))

pub loop-b-preserved : goal.loop-b-preserved
loop-b-preserved c =
    said (omega arith) (byte_turn c.args.s.now c.loop-b.b-index c.loop-b-test.true) (then c.loop-b.invariant c.hex.ensures)
