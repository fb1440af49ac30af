-- `frames::push` meets its contract: the part from 12 * n on is written at its front, and goes back into its place. Assumes nothing.
use Rattle.std.proofs.Common.{◌*◌, refl}
use Rattle.model.specs.Frames.{frame_bytes}
use Rattle.wire.specs.Laid.{pushed}
use Rattle.wire.proofs.Lay.{tail_put}
use Rattle.wire.proofs.frames.push.Goals as goal

pub returns : goal.returns
unfolding pushed
returns c =
    let a = c.args in
    let p = c.put_frame in
    (refl, tail_put (12 * a.n) 12 a.out.now (frame_bytes a.frame) p.new.out p.ensures)
