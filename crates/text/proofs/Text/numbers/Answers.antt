-- `Text::numbers` meets its contract: its three parts, one behind the other. Assumes nothing.
use Rattle.std.proofs.Common.{refl, arith}
use Rattle.text.proofs.Joined.{then, said}
use Rattle.text.proofs.Text.numbers.Goals as goal

pub returns : goal.returns
returns c = said (omega arith) refl (then (then c.decimal.ensures c.push_all.ensures) c.decimal-2.ensures)
