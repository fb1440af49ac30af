-- What a writer of text promises. Assumes nothing.
use Rattle.std.specs.Prelude.{◌≡◌, List, ℕ, ◌+◌, ◌≤◌, length}
use Rattle.wire.specs.Put.{put}
use Rattle.text.specs.declared.Text.{Text}

-- ys is xs with the text from place `at` on, and r is the place after it; the text has at most k bytes, which the next writer's room follows from
pub record Written (k : ℕ) (text : List ℕ) (at : ℕ) (xs ys : List ℕ) (r : ℕ) : Type 0 where
  pub place : r ≡ at + length text
  pub bytes : ys ≡ put at text xs
  pub short : length text ≤ k

-- u is t with this text behind the text so far, in the same buffer
pub record Wrote (k : ℕ) (text : List ℕ) (t u : Text) : Type 0 where
  pub same : u.bytes.ghost_name ≡ t.bytes.ghost_name
  pub long : length u.bytes.now ≡ length t.bytes.now
  pub fits : u.len ≤ length u.bytes.now
  pub written : Written k text t.len t.bytes.now u.bytes.now u.len
