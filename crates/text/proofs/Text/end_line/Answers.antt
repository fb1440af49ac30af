-- `Text::end_line` meets its contract: its three parts, one behind the other. Assumes nothing.
use Rattle.std.proofs.Common.{[], ◌∷◌, ◌++◌, sym, append_assoc, arith}
use Rattle.model.specs.Program.{end_text, decimal, events_text, frames_text, newline, end_line}
use Rattle.text.proofs.Joined.{then, said}
use Rattle.text.proofs.Text.end_line.Goals as goal

pub returns : goal.returns
unfolding end_line
returns c =
    let a = c.args in
    said (omega arith) (sym (append_assoc (end_text ++ decimal a.records ++ events_text ++ decimal a.frames) frames_text (newline ∷ [])))
    (then (then c.push_all.ensures c.numbers.ensures) c.push_all-2.ensures)
