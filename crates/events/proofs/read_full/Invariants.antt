-- `read_full`: each turn leaves less to fill. Assumes nothing.
use Rattle.std.proofs.Common.{◌≤◌, length}
use Rattle.events.proofs.read_full.Given as goal

abbrev pub invariant-loop-input : goal.invariant-loop-input
invariant-loop-input l = length l.rest ≤ l.len

abbrev pub decreases-loop-input : goal.decreases-loop-input
decreases-loop-input l = length l.rest
