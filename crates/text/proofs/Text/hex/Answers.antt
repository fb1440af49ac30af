-- `Text::hex` meets its contract: one digit behind the other. Assumes nothing.
use Rattle.text.proofs.Joined.{then}
use Rattle.text.proofs.Text.hex.Goals as goal

pub returns : goal.returns
returns c = rw (← c.hex_digit.ensures, ← c.hex_digit-2.ensures) (then c.push.ensures c.push-2.ensures)
