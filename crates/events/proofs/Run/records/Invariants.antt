-- `Run::records`: the run is as far as the records that were cut off. Assumes nothing.
use Rattle.std.proofs.Common.{length}
use Rattle.events.proofs.Going.{Far}
use Rattle.events.proofs.Run.records.Given as goal

abbrev pub invariant-loop-rest : goal.invariant-loop-rest
invariant-loop-rest l = Far l.s l.rest l.initial.self l.self

abbrev pub decreases-loop-rest : goal.decreases-loop-rest
decreases-loop-rest l = length l.rest
