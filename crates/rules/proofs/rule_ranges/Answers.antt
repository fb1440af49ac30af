-- `rules::rule_ranges` meets its contract: both groups, in their places. Assumes nothing.
use Rattle.model.specs.Rules as Rules
use Rattle.rules.proofs.rule_ranges.Goals as goal

pub returns : goal.returns
unfolding Rules.rule_ranges
returns c = let k = c.args.s.settings in rw (c.in_range-2.ensures k, c.in_range.ensures k)
