-- `program::call` meets its contract: the event answers what the run goes on with. Assumes nothing.
use Rattle.std.proofs.Common.{refl}
use Rattle.laws.proofs.Count.{event_count}
use Rattle.program.proofs.Told.{turn_told}
use Rattle.program.proofs.call.Goals as goal

pub lines-requires-clause-few : goal.lines-requires-clause-few
lines-requires-clause-few c = rw c.event-answer.ensures.answer (event_count _ _ _ _)

pub returns : goal.returns
returns c = let p = c.event-answer in turn_told _ _ _ _ _ refl p.ensures c.lines.ensures c.from.ensures
