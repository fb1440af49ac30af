-- `Text::frame_lines` meets its contract: a frame more at each turn. Assumes nothing.
use Rattle.std.proofs.Common.{◌≡◌, ◌+◌, ◌∷◌, [], ◌++◌, ◌∙◌, sym, length, length-append, arith}
use Rattle.text.specs.Sent.{frames_in}
use Rattle.text.proofs.Joined.{none_wrote, then, said}
use Rattle.text.proofs.Sent.{frame_turn, left_turn}
use Rattle.text.proofs.Text.frame_lines.Goals as goal

pub loop-frame-init : goal.loop-frame-init
unfolding frames_in
loop-frame-init c =
    let h = c.chunks-frame-items.ensures in
    rw c.into_iter-frame-iterator.ensures.into_iter_gives
    record {
      can = omega (arith, h.size);
      finite = tt;
      size = h.size;
      left = sym h.rest;
      wrote = none_wrote c.args.self.now (omega (arith, c.requires.0));
    }

pub loop-frame-preserved : goal.loop-frame-preserved
loop-frame-preserved c =
    let i = c.loop-frame.invariant in
    let k = length c.loop-frame.yielded in
    let a = c.args in
    let h = c.in-Some.ensures.steps in
    let more : length (c.loop-frame.yielded ++ (c.in-Some.frame ∷ [])) ≡ k + 1 = length-append c.loop-frame.yielded (c.in-Some.frame ∷ []) in
    let turn = frame_turn k a.count a.frames.now _ c.in-Some.frame.now _ _ c.requires.1 i.left i.size h.1 a.n c.frame_in.result c.frame_in.ensures.0 in
    record {
      can = omega (arith, i.size, h.0);
      finite = tt;
      size = h.0 ∙ i.size;
      left = rw more (left_turn k a.count a.frames.now _ c.in-Some.frame.now _ _ c.requires.1 i.left i.size h.1);
      wrote = rw more (said (omega arith) turn (then i.wrote c.frame_line.ensures));
    }
