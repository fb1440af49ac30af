-- Where an open upload may stand. Assumes nothing.
use Rattle.std.specs.Prelude.{Bool, ◌||◌}
use Rattle.model.specs.declared.Upload.{Upload}
use Rattle.model.specs.Rules.{stands}

-- before one of the name's three segments, with the toggle that is its turn; the rule `rule_upload` says so of an open upload
abbrev pub at_segment : Upload → Bool
at_segment u = stands 0 0 u || (stands 7 1 u || stands 14 0 u)
