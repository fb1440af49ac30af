-- `Text::id_part` meets its contract: a space, a digit and two more, one behind the other. Assumes nothing.
use Rattle.text.proofs.Joined.{then}
use Rattle.text.proofs.Text.id_part.Goals as goal

pub returns : goal.returns
returns c = rw (← c.hex_digit.ensures) (then (then c.push.ensures c.push-2.ensures) c.hex.ensures)
