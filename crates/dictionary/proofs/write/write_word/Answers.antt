-- `dictionary::write::write_word` meets its contract: the access comes before the word. Assumes nothing.
use Rattle.std.proofs.Common.{rules, sym}
use Rattle.std.proofs.lemmas.Result.{err_from_is_err_and}
use Rattle.model.specs.Choice.{first_hit}
use Rattle.model.specs.Sdo.{word_checks}
use Rattle.dictionary.proofs.write.write_word.Goals as goal

pub returns-in_err-access : goal.returns-in_err-access
returns-in_err-access c =
    let a = c.args in
    let p = err_from_is_err_and c.from_residual.result c.from_residual.ensures.1 in
    rw (p.1, p.2) (sym (c.in_err-access.ensures (word_checks a.word a.d) a.change))

pub returns-then-d-word : goal.returns-then-d-word
unfolding first_hit
returns-then-d-word c = let a = c.args in rw (c.in_ok-access.ensures (word_checks a.word a.d) a.change) (search rules)

pub returns : goal.returns
unfolding first_hit
returns c = let a = c.args in rw (c.in_ok-access.ensures (word_checks a.word a.d) a.change) (search rules)
