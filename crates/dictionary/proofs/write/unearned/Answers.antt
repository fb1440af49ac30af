-- `dictionary::write::unearned` meets its contract: a group is valid by its own parameters in these settings. Assumes nothing.
use Rattle.model.specs.Sdo.{unearned}
use Rattle.dictionary.proofs.write.unearned.Goals as goal

pub returns-then-n-from : goal.returns-then-n-from
unfolding unearned
returns-then-n-from c = rw (c.is_valid.ensures c.args.s.settings, ← c.number_of-n.ensures, c.if-n-from.true, c.from.ensures, c.in-P13FE.is)

pub returns-then-n-from-2 : goal.returns-then-n-from-2
unfolding unearned
returns-then-n-from-2 c =
    rw (c.is_valid-then-n-from-2.ensures c.args.s.settings, ← c.number_of-n.ensures, c.if-n-from-2.true, c.from-in-P51FE.ensures, c.in-P51FE.is)
