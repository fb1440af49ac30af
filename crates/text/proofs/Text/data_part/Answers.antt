-- `Text::data_part` meets its contract: a space, and the data behind it. Assumes nothing.
use Rattle.std.proofs.Common.{refl, arith}
use Rattle.text.proofs.Joined.{then, said}
use Rattle.text.proofs.Text.data_part.Goals as goal

pub returns : goal.returns
returns c = said (omega (arith, c.requires)) refl (then c.push.ensures c.hexes.ensures)
