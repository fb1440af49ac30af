-- `Text::refusal_line` meets its contract: the line's end behind the rest. Assumes nothing.
use Rattle.std.proofs.Common.{refl, arith}
use Rattle.model.specs.Program.{refusal_text}
use Rattle.text.proofs.Joined.{then, said}
use Rattle.text.proofs.Text.refusal_line.Goals as goal

pub returns : goal.returns
unfolding refusal_text
returns c = rw (← c.from.ensures) (said (omega arith) refl (then c.numbers.ensures c.push.ensures))
