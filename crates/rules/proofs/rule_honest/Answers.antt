-- `rules::rule_honest` meets its contract: both groups, in their places. Assumes nothing.
use Rattle.model.specs.Rules as Rules
use Rattle.rules.proofs.rule_honest.Goals as goal

pub returns : goal.returns
unfolding Rules.rule_honest
returns c = let k = c.args.s.settings in rw (c.is_honest-2.ensures k, c.is_honest.ensures k)
