-- The loops over data bytes and frames, a turn each, and the frames of an output, which are those that were laid into it. Assumes nothing.
use Rattle.std.proofs.Common.{◌≡◌, ℕ, zero, suc, ◌+◌, ◌-◌, ◌*◌, ◌/◌, ◌%◌, ◌<◌, ◌≤◌, List, [], ◌∷◌, ◌++◌, length, take, drop, get_or, min, refl, sym, ap, ◌∙◌, add-one, arith, append_assoc, append-nil, length-drop, length-take-le, drop-drop, drop_at, lit<}
use Rattle.std.proofs.lemmas.List.{take-append-drop, take-append-le, drop-append-le, get_or_append_left}
use Rattle.model.specs.declared.Frame.{Frame}
use Rattle.model.specs.Bytes.{as_number, part}
use Rattle.model.specs.Frames.{frame_bytes, laid, overlay}
use Rattle.model.specs.Program.{hex_byte, hex_bytes, frame_text, frames_texts, line_text}
use Rattle.model.specs.Run.{Line, number_in, sent_in}
use Rattle.text.specs.declared.Text.{Text}
use Rattle.text.specs.Written.{Wrote}
use Rattle.text.specs.Sent.{frame_in, frames_in, Shown, added}

-- ---- Turns

-- one byte more
pub byte_turn : (s : List ℕ) (i : ℕ) → i < length s → hex_bytes (take i s) ++ hex_byte (get_or s i 0) ≡ hex_bytes (take (i + 1) s)
byte_turn s i h = more s i h ∙ ap (λ (j : ℕ). hex_bytes (take j s)) (sym (add-one i))
  where
    more : (s : List ℕ) (i : ℕ) → i < length s → hex_bytes (take i s) ++ hex_byte (get_or s i 0) ≡ hex_bytes (take (suc i) s)
    more [] i h = absurd (omega arith)
    more (x ∷ s) zero h = refl
    more (x ∷ s) (suc i) h = ap (λ (t : List ℕ). hex_byte x ++ t) (more s i (omega arith))

last_frame : (k : ℕ) (l : List ℕ) → frames_in (suc k) l ≡ frames_in k l ++ (frame_in (drop (12 * k) l) ∷ [])
unfolding frames_in
last_frame zero l = refl
last_frame (suc k) l =
    let e : 12 + 12 * k ≡ 12 * suc k = omega arith in
    ap (λ (fs : List Frame). frame_in l ∷ fs) (last_frame k (drop 12 l) ∙ rw (drop-drop (12 * k) 12 l, e))

last_text : (n : ℕ) (fs : List Frame) (f : Frame) → frames_texts n (fs ++ (f ∷ [])) ≡ frames_texts n fs ++ frame_text n f
last_text n [] f = append-nil (frame_text n f)
last_text n (g ∷ fs) f =
    ap (λ (t : List ℕ). frame_text n g ++ t) (last_text n fs f) ∙ sym (append_assoc (frame_text n g) (frames_texts n fs) (frame_text n f))

-- a frame is in its 12 bytes, whatever follows them
frame_in_front : (x rest : List ℕ) → length x ≡ 12 → frame_in (x ++ rest) ≡ frame_in x
unfolding frame_in part
frame_in_front x rest h =
    let at : (i : ℕ) → i < 12 → get_or (x ++ rest) i 0 ≡ get_or x i 0 = λ i less. get_or_append_left x rest 0 i (omega arith) in
    rw (
      take-append-le 2 x rest (omega arith),
      at 3 (lit< tt),
      at 4 (lit< tt),
      at 5 (lit< tt),
      at 6 (lit< tt),
      at 7 (lit< tt),
      at 8 (lit< tt),
      at 9 (lit< tt),
      at 10 (lit< tt),
      at 11 (lit< tt),
    ) refl

-- what is left of the first frames after k of them
abbrev pub left : ℕ → ℕ → List ℕ → List ℕ
left k count l = drop (12 * k) (take (12 * count) l)

-- a turn takes the chunk x of n bytes from its front
module _ (k count : ℕ) (l d x rest : List ℕ) (n : ℕ) (fits : 12 * count ≤ length l) (start : left k count l ≡ d) (twelve : n ≡ 12)
    (cut : (d ≡ x ++ rest) × (length x ≡ min n (length d)) × (0 < length d)) where
  long : length d ≡ 12 * count - 12 * k
  long = rw (← start) (length-drop (12 * k) (take (12 * count) l) ∙ rw (length-take-le (12 * count) l fits) refl)

  pub more_left : k < count
  more_left = omega (arith, cut.2, long)

  whole : length x ≡ 12
  whole = omega (arith, cut.1, twelve, more_left, long)

  pub left_turn : left (k + 1) count l ≡ rest
  left_turn =
      let e : 12 * k + 12 ≡ 12 * (k + 1) = omega arith in
      ap (λ (j : ℕ). drop j (take (12 * count) l)) (sym e)
      ∙ sym (drop-drop 12 (12 * k) (take (12 * count) l))
      ∙ ap (drop 12) (start ∙ cut.0)
      ∙ drop_at x rest 12 whole

  pub frame_turn : (n : ℕ) (f : Frame) → f ≡ frame_in x → frames_texts n (frames_in k l) ++ frame_text n f ≡ frames_texts n (frames_in (k + 1) l)
  frame_turn n f same =
      let m = 12 * count in
      let e : drop (12 * k) l ≡ x ++ (rest ++ drop m l) =
      ap (drop (12 * k)) (sym (take-append-drop m l))
      ∙ drop-append-le (12 * k) (take m l) (drop m l) (omega (arith, more_left, length-take-le m l fits))
      ∙ ap (λ (t : List ℕ). t ++ drop m l) (start ∙ cut.0)
      ∙ append_assoc x rest (drop m l) in
      let next : frame_in (drop (12 * k) l) ≡ frame_in x = ap frame_in e ∙ frame_in_front x (rest ++ drop m l) whole in
      ap (λ (g : Frame). frames_texts n (frames_in k l) ++ frame_text n g) (same ∙ sym next)
      ∙ sym (last_text n (frames_in k l) (frame_in (drop (12 * k) l)))
      ∙ ap (frames_texts n) (sym (last_frame k l) ∙ ap (λ (j : ℕ). frames_in j l) (sym (add-one k)))

-- ---- Frames read back

-- out of its bytes
pub frame_back : (f : Frame) (rest : List ℕ) → f.id < 4096 → frame_in (frame_bytes f ++ rest) ≡ f
unfolding frame_in as_number part
frame_back f rest h =
    let e : (f.id % 256 + (f.id / 256 + 0 * 256) * 256) % 4096 ≡ f.id = omega arith in
    ap
    (λ (x : ℕ).
    record {
      id = x;
      len = f.len;
      d0 = f.d0;
      d1 = f.d1;
      d2 = f.d2;
      d3 = f.d3;
      d4 = f.d4;
      d5 = f.d5;
      d6 = f.d6;
      d7 = f.d7;
    })
    e

laid_back : (fs : List Frame) (rest : List ℕ) → Shown fs → frames_in (length fs) (laid fs ++ rest) ≡ fs
unfolding frames_in
laid_back [] rest h = refl
laid_back (f ∷ fs) rest h = rw (frame_back f (laid fs ++ rest) h.0, laid_back fs rest h.1)

-- the frames of an output are those that a call laid over it
pub frames_back : (fs : List Frame) (xs : List ℕ) → Shown fs → frames_in (length fs) (overlay fs xs) ≡ fs
unfolding overlay
frames_back fs xs h = laid_back fs (drop (12 * length fs) xs) h

-- so a call's line of the log is what it adds
pub line_added : (l : Line) (n : ℕ) (zs : List ℕ) {k number count : ℕ} {t u : Text} {out : List ℕ} → number_in l ≡ number → count ≡ length (sent_in l)
    → out ≡ overlay (sent_in l) zs → Shown (sent_in l) → Wrote k (added n number (frames_in count out)) t u → Wrote k (line_text n l) t u
unfolding added line_text
line_added l n zs a b c h w = rw (← a, b, c, frames_back (sent_in l) zs h) at w
