-- `Run::input` meets its contract: one buffer more at each turn. Assumes nothing.
use Rattle.events.proofs.Going.{none_took, then_took, all_took}
use Rattle.events.proofs.Run.input.Goals as goal

pub loop-init : goal.loop-init
loop-init c = none_took c.args.self.now

pub loop-preserved : goal.loop-preserved
loop-preserved c = then_took c.loop.invariant c.if-not-buffer.ensures

pub returns-then-not-buffer : goal.returns-then-not-buffer
returns-then-not-buffer c = all_took (then_took c.loop.invariant c.buffer.ensures)
