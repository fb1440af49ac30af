-- `Run::input`: what was read so far is gone through, and there was more. Assumes nothing.
use Rattle.std.proofs.Common.{true}
use Rattle.events.specs.Reads.{Took}
use Rattle.events.proofs.Run.input.Given as goal

abbrev pub invariant-loop : goal.invariant-loop
invariant-loop l = Took l.initial.self l.self true
