-- Frames laid one after the other. A caller that sends starts at `start`, takes a `step` for each `emit`, and so has what it laid. Assumes nothing.
use Rattle.std.proofs.Common.{◌≡◌, ℕ, ◌+◌, ◌-◌, ◌*◌, Bool, true, false, Option, Some, None, List, [], ◌∷◌, ◌++◌, length, take, drop, sym, refl, ap, ◌∙◌, append_assoc, append-nil, le_refl, arith, length-append, length-drop, drop_of_length-le, take_all, drop-drop, take_at}
use Rattle.std.specs.Bool.{then_some}
use lib.Seq.{drop-append-add}
use Rattle.model.specs.declared.Frame.{Frame}
use Rattle.model.specs.Frames.{frame_bytes, frames_of, when, laid, overlay}
use Rattle.wire.specs.Laid.{pushed, Emitted, Laid}

-- ---- A part `&mut xs[a..]` that was lent

-- it is the whole tail
pub tail_all : {X : Type 0} (a : ℕ) (xs : List X) → take (length xs - a) (drop a xs) ≡ drop a xs
tail_all a xs = take_all (length xs - a) (drop a xs) (rw (length-drop a xs) (le_refl (length xs - a)))

-- nothing stands after it
pub tail_none : {X : Type 0} (a : ℕ) (xs : List X) → drop (length xs - a) (drop a xs) ≡ []
tail_none a xs =
    drop_of_length-le (drop a xs) {i = length xs - a} (rw (length-drop a xs) (le_refl (length xs - a)))

-- the list after a call that wrote bs over the first k of the part
pub tail_put : {X : Type 0} (a k : ℕ) (xs bs ys : List X) → ys ≡ bs ++ drop k (take (length xs - a) (drop a xs))
    → take a xs ++ (ys ++ drop (length xs - a) (drop a xs)) ≡ take a xs ++ (bs ++ drop (a + k) xs)
tail_put a k xs bs ys e =
    rw (e, tail_none a xs, tail_all a xs, drop-drop k a xs)
    (ap (λ zs. take a xs ++ zs) (append-nil (bs ++ drop (a + k) xs)))

-- ---- Frames

-- a frame where a test holds, as code and as the definitions have it
pub frames_when : (b : Bool) (f : Frame) → frames_of (then_some b f) ≡ when b f
frames_when true f = refl
frames_when false f = refl

pub length_laid : (fs : List Frame) → length (laid fs) ≡ 12 * length fs
length_laid [] = refl
length_laid (f ∷ fs) = let h : length (laid fs) ≡ 12 * length fs = length_laid fs in omega arith

pub laid_snoc : (fs : List Frame) (f : Frame) → laid (fs ++ (f ∷ [])) ≡ laid fs ++ frame_bytes f
laid_snoc [] f = append-nil (frame_bytes f)
laid_snoc (g ∷ fs) f =
    ap (λ zs. frame_bytes g ++ zs) (laid_snoc fs f) ∙ sym (append_assoc (frame_bytes g) (laid fs) (frame_bytes f))

-- the next frame's place is right after those that are laid
pub push_overlay : (fs : List Frame) (f : Frame) (xs : List ℕ) → pushed (overlay fs xs) (length fs) f ≡ overlay (fs ++ (f ∷ [])) xs
unfolding pushed overlay
push_overlay fs f xs =
    let n = 12 * length fs in
    let front : take n (laid fs ++ drop n xs) ≡ laid fs = take_at (laid fs) (drop n xs) n (length_laid fs) in
    let rest : drop (n + 12) (laid fs ++ drop n xs) ≡ drop (n + 12) xs =
    rw (← (length_laid fs)) (drop-append-add (laid fs) (drop (length (laid fs)) xs) 12) ∙ drop-drop 12 n xs in
    let more : 12 * length (fs ++ (f ∷ [])) ≡ n + 12 = rw (length-append fs (f ∷ [])) (omega arith) in
    rw (front, rest, more, laid_snoc fs f) (sym (append_assoc (laid fs) (frame_bytes f) (drop (n + 12) xs)))

-- before the first frame
pub start : (xs : List ℕ) → Laid [] xs xs 0
unfolding overlay
start xs = record { number = refl; bytes = refl }

-- one `emit` more
pub step : {q : Option Frame} {fs : List Frame} {xs ys zs : List ℕ} {n r : ℕ} → Laid fs xs ys n → Emitted q n ys zs r
    → Laid (fs ++ frames_of q) xs zs r
step {q = Some f} {fs} {xs} l e = record {
  number = rw (length-append fs (f ∷ [])) (omega (arith, l.number, e.number));
  bytes = rw (e.bytes, l.bytes, l.number) (push_overlay fs f xs);
}
step {q = None} {fs} {xs} l e = record {
  number = rw (append-nil fs) (omega (arith, l.number, e.number));
  bytes = rw (append-nil fs) (e.bytes ∙ l.bytes);
}
