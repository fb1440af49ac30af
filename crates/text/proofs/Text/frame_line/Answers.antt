-- `Text::frame_line` meets its contract: its four parts, one behind the other, with as many of the eight data bytes as the length counts. Assumes nothing.
use Rattle.std.proofs.Common.{min, take, ap, ◌∙◌}
use Rattle.std.proofs.lemmas.List.{take_min}
use Rattle.model.specs.Frames.{data_bytes}
use Rattle.model.specs.Program.{frame_text}
use Rattle.text.proofs.Joined.{then}
use Rattle.text.proofs.Text.frame_line.Goals as goal

pub returns : goal.returns
unfolding frame_text
returns c =
    let f = c.args.frame in
    let h = ap (λ n. take n (data_bytes f)) (c.min-len.ensures ∙ ap (λ n. min n 8) c.from.ensures) ∙ take_min f.len (data_bytes f) in
    rw (← h) (then (then (then c.decimal.ensures c.id_part.ensures) c.data_part.ensures) c.push.ensures)
