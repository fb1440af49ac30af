-- Laws of `put`: a write to a part of a slice, and a writer that goes through a buffer from its front to its end. Assumes nothing.
use Rattle.std.proofs.Common.{◌≡◌, ℕ, ◌+◌, ◌≤◌, List, [], ◌++◌, length, take, drop, sym, refl, ap, ◌∙◌, arith, length-append, length-drop, length-take, length-take-le, take_all, take_at}
use Rattle.std.proofs.lemmas.Slice.{put_mid-paste}
use borrow.Rule.Slice.PartMut.{put_mid}
use lib.Seq.{take-length, paste}
use Rattle.wire.specs.Put.{put}

pub length_put : (at : ℕ) (vs l : List ℕ) → at + length vs ≤ length l → length (put at vs l) ≡ length l
unfolding put
length_put at vs l h = simp (length-append, length-take, length-drop) (omega arith)

-- up to the end of what was put
pub take_put : (at : ℕ) (vs l : List ℕ) → at ≤ length l → take (at + length vs) (put at vs l) ≡ take at l ++ vs
unfolding put
take_put at vs l h =
    take_at (take at l ++ vs) (drop (at + length vs) l) (at + length vs)
    (length-append (take at l) vs ∙ ap (λ (k : ℕ). k + length vs) (length-take-le at l h))

-- all of vs, copied
pub put_pasted : (l : List ℕ) (at : ℕ) (vs : List ℕ) (n : ℕ) → n ≡ length vs → paste l at vs n ≡ put at vs l
unfolding put
put_pasted l at vs n h = rw (h, take-length)

-- a write to the k bytes `l[at..at + k]`, which are vs now
pub put_part : (at k : ℕ) (l vs : List ℕ) → k ≡ length vs → put_mid at k l vs ≡ put at vs l
put_part at k l vs h = put_mid-paste at k l vs vs (length vs) refl (sym h) refl ∙ put_pasted l at vs (length vs) refl

-- ---- A writer that goes from front to end: nothing is said of what it has yet to write

-- l, of k bytes, begins with p
pub record Starts (p l : List ℕ) (k : ℕ) : Type 0 where
  pub so_far : take (length p) l ≡ p
  pub long : length l ≡ k

pub starts_none : (l : List ℕ) (k : ℕ) → length l ≡ k → Starts [] l k
starts_none l k h = record { so_far = refl; long = h }

pub starts_take : (n : ℕ) (l : List ℕ) (k : ℕ) → length l ≡ k → n ≤ k → Starts (take n l) l k
starts_take n l k e h =
    record { so_far = ap (λ (j : ℕ). take j l) (length-take-le n l (omega arith)); long = e }

-- one write more, where the last one ended
pub starts_more : (p vs l m : List ℕ) (k at : ℕ) → Starts p l k → at ≡ length p → length p + length vs ≤ k → m ≡ put at vs l
    → Starts (p ++ vs) m k
starts_more p vs l m k at s e h q =
    let long : length l ≡ k = s.long in
    record {
      so_far = rw (q, e, length-append p vs) (take_put (length p) vs l (omega arith) ∙ ap (λ (t : List ℕ). t ++ vs) s.so_far);
      long = rw (q, e) (length_put (length p) vs l (omega arith) ∙ long);
    }

-- at the end it is all written
pub starts_all : (p l : List ℕ) (k : ℕ) → Starts p l k → length p ≡ k → l ≡ p
starts_all p l k s e = let long : length l ≡ k = s.long in sym (take_all (length p) l (omega arith)) ∙ s.so_far
