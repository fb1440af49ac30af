-- `Text::frame_lines`: the lines of as many frames are written as chunks were taken. Assumes nothing.
use Rattle.std.proofs.Common.{◌≡◌, ◌*◌, length, take, drop}
use Rattle.std.specs.Slice.Iter.{chunks_rest, chunks_size}
use Rattle.model.specs.Program.{frames_texts}
use Rattle.text.specs.Written.{Wrote}
use Rattle.text.specs.Sent.{frames_in}
use Rattle.text.proofs.Text.frame_lines.Given as goal

abbrev pub invariant-loop-frame : goal.invariant-loop-frame
invariant-loop-frame l =
    let k = length l.yielded in record {
      can : (goal.iterator-loop-frame).can_next l.frame-iterator;
      finite : (goal.iterator-loop-frame).is_finite l.frame-iterator;
      size : chunks_size l.frame-iterator ≡ 12;
      left : drop (12 * k) (take (12 * l.count) l.frames) ≡ chunks_rest l.frame-iterator;
      wrote : Wrote (42 * k) (frames_texts l.n (frames_in k l.frames)) l.initial.self l.self;
    }
