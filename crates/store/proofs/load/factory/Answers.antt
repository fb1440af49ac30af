-- `load::factory` meets its contract: the records of the defaults, one behind the other. Assumes nothing.
use mathlib.Core.Path.{◌∙◌}
use Rattle.model.specs.Store.{record_of, factory}
use Rattle.store.proofs.Loads.{defaults_in_force, block}
use borrow.Author.Rules.{rules}
use Rattle.store.proofs.load.factory.Goals as goal

pub returns : goal.returns
unfolding factory record_of
returns c = block _ _ _ _ _ c.copy.ensures c.copy-2.ensures (search rules) (search rules) (search rules)
    ∙ rw (c.encode-a.ensures c.defaults-k.result, c.encode-c.ensures c.defaults-k.result, c.defaults-k.ensures, defaults_in_force c.args.id)
