-- Frames laid one after the other: what one write of a frame leaves, and what a run of such writes has laid. Assumes nothing.
use Rattle.std.specs.Prelude.{◌≡◌, ℕ, ◌+◌, ◌*◌, ◌≤◌, List, ◌++◌, length, take, drop, Option, Some, None}
use Rattle.model.specs.declared.Frame.{Frame}
use Rattle.model.specs.Frames.{frame_bytes, frames_of, overlay}

-- the output with frame number n, from 0, in its place
unfoldable pub pushed : List ℕ → ℕ → Frame → List ℕ
pushed out n f = take (12 * n) out ++ (frame_bytes f ++ drop (12 * n + 12) out)

-- the same where there is a frame, else the output as it was
abbrev pub emitted : Option Frame → List ℕ → ℕ → List ℕ
emitted (Some f) out n = pushed out n f
emitted None out n = out

-- a reply, sent where it has a frame: from `xs` and n frames to `ys` and r
pub record Emitted (q : Option Frame) (n : ℕ) (xs ys : List ℕ) (r : ℕ) : Type 0 where
  pub number : r ≡ n + length (frames_of q)
  pub bytes : ys ≡ emitted q xs n
  pub most : r ≤ n + 1

-- `ys` is `xs` with the n frames `fs` laid into it
pub record Laid (fs : List Frame) (xs ys : List ℕ) (n : ℕ) : Type 0 where
  pub number : n ≡ length fs
  pub bytes : ys ≡ overlay fs xs
