-- `Text::decimal` meets its contract: std's digits are the definition's. Assumes nothing.
use Rattle.std.proofs.Common.{◌∙◌, rules}
use Rattle.text.proofs.Joined.{said}
use Rattle.text.proofs.Numbers.{decimal_same}
use Rattle.text.proofs.Text.decimal.Goals as goal

pub returns : goal.returns
returns c =
    said (rw c.as_bytes.ensures.value c.format.ensures.fits) (c.as_bytes.ensures.value ∙ c.format.ensures.text ∙ decimal_same c.args.n (search rules))
    c.push_all.ensures
