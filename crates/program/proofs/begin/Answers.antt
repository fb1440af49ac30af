-- `program::begin` meets its contract: the power-on answers what the run begins with. Assumes nothing.
use Rattle.std.proofs.Common.{refl}
use Rattle.laws.proofs.Count.{power_on_count}
use Rattle.program.proofs.Told.{begin_told}
use Rattle.program.proofs.begin.Goals as goal

pub lines-requires-clause-few : goal.lines-requires-clause-few
lines-requires-clause-few c = rw c.power_on-answer.ensures.answer (power_on_count _ _ _)

pub returns : goal.returns
returns c = let p = c.power_on-answer in begin_told _ _ _ refl p.ensures c.lines.ensures c.from.ensures
