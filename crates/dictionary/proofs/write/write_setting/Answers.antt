-- `dictionary::write::write_setting` meets its contract: each check that is met leaves it to the ones after it. Assumes nothing.
use mathlib.Core.List.{[], ◌∷◌}
use Rattle.std.proofs.lemmas.Result.{err_from_is_err_and}
use Rattle.model.specs.declared.Change.TheVariants.{Write}
use Rattle.model.specs.Choice.{◌⇒◌, first_hit}
use Rattle.model.specs.Sdo as Sdo
use Rattle.dictionary.proofs.write.write_setting.Goals as goal

pub returns-in_err-access : goal.returns-in_err-access
unfolding Sdo.checked_write Sdo.write_code
returns-in_err-access c =
    let a = c.args in
    let v = c.decode-v.result in
    let p = err_from_is_err_and c.from_residual.result c.from_residual.ensures.1 in
    rw (p.1, p.2) (cc (c.in_err-access.ensures (Sdo.value_checks a.p v a.s) (Write a.p v)))

pub returns-in_err-in_range : goal.returns-in_err-in_range
unfolding Sdo.checked_write Sdo.write_code
returns-in_err-in_range c =
    let a = c.args in
    let v = c.decode-v.result in
    let p = err_from_is_err_and c.from_residual-in_err-in_range.result c.from_residual-in_err-in_range.ensures.1 in
    rw (p.1, p.2) (cc (
      c.in_ok-access.ensures (Sdo.value_checks a.p v a.s) (Write a.p v),
      c.in_err-in_range.ensures ((Sdo.unearned a.p v a.s ⇒ Sdo.not_valid) ∷ []) (Write a.p v),
    ))

pub returns-in_err-earned : goal.returns-in_err-earned
unfolding Sdo.checked_write Sdo.write_code
returns-in_err-earned c =
    let a = c.args in
    let v = c.decode-v.result in
    let p = err_from_is_err_and c.from_residual-in_err-earned.result c.from_residual-in_err-earned.ensures.1 in
    rw (p.1, p.2) (cc (
      c.in_ok-access.ensures (Sdo.value_checks a.p v a.s) (Write a.p v),
      c.in_ok-in_range.ensures ((Sdo.unearned a.p v a.s ⇒ Sdo.not_valid) ∷ []) (Write a.p v),
      c.in_err-earned.ensures [] (Write a.p v),
    ))

pub returns : goal.returns
unfolding Sdo.checked_write Sdo.write_code first_hit
returns c =
    let a = c.args in
    let v = c.decode-v.result in
    cc (
      c.in_ok-access.ensures (Sdo.value_checks a.p v a.s) (Write a.p v),
      c.in_ok-in_range.ensures ((Sdo.unearned a.p v a.s ⇒ Sdo.not_valid) ∷ []) (Write a.p v),
      c.in_ok-earned.ensures [] (Write a.p v),
    )
