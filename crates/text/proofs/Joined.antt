-- One text written behind another. Assumes nothing.
use Rattle.std.proofs.Common.{◌≡◌, ℕ, ◌+◌, ◌<◌, ◌≤◌, List, [], ◌∷◌, ◌++◌, length, take, drop, set, refl, sym, ap, ap₂, suc, ◌∙◌, subst, add-one, arith, append_assoc, append-nil, length-append, length-take-le, take-append-drop}
use Rattle.std.proofs.lemmas.Slice.{drop-append-drop}
use lib.Seq.{set_split}
use Rattle.wire.specs.Put.{put}
use Rattle.wire.proofs.Puts.{take_put}
use Rattle.text.specs.Written.{Written, Wrote}
use Rattle.text.specs.declared.Text.{Text}

put_put : (at : ℕ) (a b l : List ℕ) → at + length a ≤ length l → put (at + length a) b (put at a l) ≡ put at (a ++ b) l
unfolding put
put_put at a b l h =
    let front : length (take at l ++ a) ≡ at + length a =
    length-append (take at l) a ∙ ap (λ (k : ℕ). k + length a) (length-take-le at l (omega arith)) in
    let e : at + length a + length b ≡ at + length (a ++ b) = omega (arith, length-append a b) in
    ap (λ (t : List ℕ). (t ++ b) ++ drop (at + length a + length b) (put at a l)) (take_put at a l (omega arith))
    ∙ ap (λ (t : List ℕ). ((take at l ++ a) ++ b) ++ t) (drop-append-drop (at + length a) l (take at l ++ a) (at + length a + length b) (omega arith) front)
    ∙ ap₂ (λ (t : List ℕ) (n : ℕ). t ++ drop n l) (append_assoc (take at l) a b) e

put_none : (at : ℕ) (l : List ℕ) → put at [] l ≡ l
unfolding put
put_none at l =
    let e : at + length {A = ℕ} [] ≡ at = omega arith in
    rw (append-nil (take at l), e) (take-append-drop at l)

-- ---- Texts

-- nothing
pub none_wrote : (t : Text) → t.len ≤ length t.bytes.now → Wrote 0 [] t t
none_wrote t h =
    record {
      same = refl;
      long = refl;
      fits = h;
      written = record { place = omega arith; bytes = sym (put_none t.len t.bytes.now); short = omega arith };
    }

-- a store is a text of one byte
pub one_written : (xs : List ℕ) (at b : ℕ) → at < length xs → Written 1 (b ∷ []) at xs (set xs at b) (at + 1)
unfolding put
one_written xs at b h =
    record {
      place = refl;
      bytes = set_split xs at b h ∙ sym (append_assoc (take at xs) (b ∷ []) (drop (suc at) xs)) ∙ rw (add-one at) refl;
      short = omega arith;
    }

-- one text behind another is both
pub then : {j k : ℕ} {a b : List ℕ} {t u v : Text} → Wrote j a t u → Wrote k b u v → Wrote (j + k) (a ++ b) t v
then {j} {k} {a} {b} {t} {u} {v} w x =
    let p = w.written in
    let q = x.written in
    record {
      same = x.same ∙ w.same;
      long = x.long ∙ w.long;
      fits = x.fits;
      written =
          record {
            place = omega (arith, p.place, q.place, length-append a b);
            bytes = rw (q.bytes, p.bytes, p.place) (put_put t.len a b t.bytes.now (omega (arith, w.fits, w.long, p.place)));
            short = omega (arith, p.short, q.short, length-append a b);
          };
    }

-- the same text in other words, and more room
pub said : {j k : ℕ} {a b : List ℕ} {t u : Text} → j ≤ k → a ≡ b → Wrote j a t u → Wrote k b t u
said {j} {k} {a} {b} {t} {u} h e w =
    let p = w.written in
    subst (λ (x : List ℕ). Wrote k x t u) e
    record { same = w.same; long = w.long; fits = w.fits; written = record { place = p.place; bytes = p.bytes; short = omega (arith, h, p.short) } }
