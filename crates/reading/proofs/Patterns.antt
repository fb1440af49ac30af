-- The integer PV by PV's bits, as `integer_pv` takes them apart: sign, exponent and fraction. Up to an exponent of 159 the two others give
-- |M|, and so the size; from 160 on, where the infinities are too, it passes both ends of Integer32. Assumes nothing.
use mathlib.Core.Path.{◌≡◌, refl, sym, ap, ◌∙◌, subst}
use Prim.Native.Nat.{ℕ, suc, ◌+◌, ◌-◌, ◌*◌, ◌/◌, ◌%◌, ◌^◌, ◌≤◌, ◌<◌}
use native.Mathlib.Nat.{le_trans, mul_comm, mul_assoc, mul-div_cancel, mul-le-mul, le_of_lt, eq-or-lt_of_le, le_of_suc-le-suc, one-le-pow, le-div_iff_mul-le, zero-lt-suc}
use native.Mathlib.Omega.{arith}
use mathlib.Core.Logic.{inl, inr}
use mathlib.Core.Bool.{Bool, true, false, true≢false, not, cond}
use lib.Dec.{T, leb, eqb, lit≤}
use lib.Pow.{pow_mono}
use borrow.Author.Tests.{lt-leb, ne_eqb}
use lib.Ieee.{Float, nan, inf, fin, up, down, binary32, odd, of_fields, of_bits, to_bits, fits, is_nan}
use lib.Ieee.Bits.{of_bits-to_bits}
use lib.Ieee.Fits.{down_pos}
use lib.Ieee.Exact.{HasValue, odd_sign}
use Rattle.model.specs.Reading.{integer_at, size_of, limited, nearer_end}
use Rattle.reading.proofs.Halves.{near}

pub at_nan : (v : Float) (k : ℕ) → is_nan v ≡ true → record { bits = 0; capped = true } ≡ integer_at v k
unfolding is_nan integer_at
at_nan nan k h = refl
at_nan (inf s) k h = absurd (true≢false (sym h))
at_nan (fin s m e) k h = absurd (true≢false (sym h))

-- ---- from a value of a / 2 ^ 149 to the size
by_value : (v : Float) (s : Bool) (a k : ℕ) → HasValue v s a (2 ^ 149) → integer_at v k ≡ limited s (size_of a k)
unfolding integer_at
by_value nan s a k h = absurd h
by_value (inf t) s a k h = absurd h
by_value (fin t m e) s a k h =
    ap (λ (x : Bool). limited x (size_of (m * up e * 2 ^ 149 / down e) k)) h.0
    ∙ ap (λ (x : ℕ). limited s (size_of x k)) (ap (λ (x : ℕ). x / down e) h.1 ∙ mul-div_cancel a (down_pos e))

moved : (q x t : ℕ) → 2 * (q * x) * t ≡ 2 * (q * t * x)
moved q x t = simp (mul_assoc, mul_comm)

size_near : (q x k : ℕ) → size_of (q * 2 ^ x) k ≡ near (q * 10 ^ k) x
unfolding size_of
size_near q x k = ap (λ (z : ℕ). (z + 2 ^ 149) / 2 ^ 150) (moved q (2 ^ x) (10 ^ k))

-- ---- the ranges of the exponent: 0, up to 254, and of these from 160 on; and 255, all ones, which an infinity or a NaN has
abbrev exponent_of : ℕ → ℕ
exponent_of b = b % 2147483648 / 8388608

abbrev fraction_of : ℕ → ℕ
fraction_of b = b % 8388608

abbrev is_negative : ℕ → Bool
is_negative b = leb 2147483648 b

of_fields_lem : (b : ℕ) → of_bits binary32 b ≡ of_fields binary32 (is_negative b) (exponent_of b) (fraction_of b)
unfolding of_bits
of_fields_lem b = refl

at_low : (s : Bool) (t k : ℕ) → integer_at (of_fields binary32 s 0 t) k ≡ limited s (near (t * 10 ^ k) 0)
unfolding of_fields
at_low s t k = by_value (odd 24 s t 0 149) s (t * 2 ^ 0) k (odd_sign 24 s t 0 149) ∙ ap (limited s) (size_near t 0 k)

under_ones : (s : Bool) (t x : ℕ) → suc x < 255 → of_fields binary32 s (suc x) t ≡ odd 24 s (8388608 + t) x 149
unfolding of_fields
under_ones s t x h = simp (ne_eqb (suc x) 255 differ)
  where
    differ : suc x ≡ 255 → ⊥
    differ e = omega arith

at_mid : (s : Bool) (t x k : ℕ) → suc x < 255 → integer_at (of_fields binary32 s (suc x) t) k ≡ limited s (size_of ((8388608 + t) * 2 ^ x) k)
at_mid s t x k h = ap (λ (v : Float). integer_at v k) (under_ones s t x h) ∙ by_value (odd 24 s (8388608 + t) x 149) s ((8388608 + t) * 2 ^ x) k (odd_sign 24 s (8388608 + t) x 149)

-- a size past both ends
over : (s : Bool) (n : ℕ) → 2147483648 < n → limited s n ≡ nearer_end s
unfolding limited
over true n h = simp (lt-leb n 2147483648 h)
over false n h = let g : 2147483647 < n = omega arith in simp (lt-leb n 2147483647 g)

-- `omega` takes no number of more than 38 digits, so the powers stand here as variables
grow : (x y z h : ℕ) → x ≤ y → z ≡ 2 * y → x ≤ z + h
grow x y z h a e = omega arith

large : (a k : ℕ) → 2 ^ 182 ≤ a → 2147483648 < size_of a k
unfolding size_of
large a k h =
    let t : 1 ≤ 10 ^ k = one-le-pow k 10 (zero-lt-suc 9) in
    let m : 2 ^ 182 * 1 ≤ a * 10 ^ k = mul-le-mul h t in
    let n : 2147483649 * 2 ^ 150 ≤ 2 ^ 182 * 1 = lit≤ tt in
    (le-div_iff_mul-le (lit≤ tt)).1 (grow (2147483649 * 2 ^ 150) (a * 10 ^ k) (2 * a * 10 ^ k) (2 ^ 149) (le_trans n m) (mul_assoc 2 a (10 ^ k)))

at_high : (s : Bool) (t x k : ℕ) → suc x < 255 → 160 ≤ suc x → integer_at (of_fields binary32 s (suc x) t) k ≡ nearer_end s
at_high s t x k h l =
    let p : 159 ≤ x = omega arith in
    let q : 8388608 ≤ 8388608 + t = omega arith in
    at_mid s t x k h ∙ over s (size_of ((8388608 + t) * 2 ^ x) k) (large ((8388608 + t) * 2 ^ x) k (mul-le-mul q (pow_mono p)))

at_ones : (s : Bool) (t k : ℕ) → T (not (is_nan (of_fields binary32 s 255 t))) → integer_at (of_fields binary32 s 255 t) k ≡ nearer_end s
unfolding of_fields is_nan integer_at
at_ones s t k h = go (eqb t 0) h
  where
    go : (z : Bool) → T (not (is_nan (cond z (inf s) nan))) → integer_at (cond z (inf s) nan) k ≡ nearer_end s
    go true u = refl
    go false u = absurd u

at_top : (s : Bool) (t x k : ℕ) → x < 256 → 160 ≤ x → T (not (is_nan (of_fields binary32 s x t))) → integer_at (of_fields binary32 s x t) k ≡ nearer_end s
at_top s t x k h l n = elim (eq-or-lt_of_le (le_of_suc-le-suc h)) [
  | inl e ↦ ap (λ (y : ℕ). integer_at (of_fields binary32 s y t) k) e ∙ at_ones s t k (subst (λ (y : ℕ). T (not (is_nan (of_fields binary32 s y t)))) e n)
  | inr u ↦
      let e : suc (x - 1) ≡ x = omega arith in
      ap (λ (y : ℕ). integer_at (of_fields binary32 s y t) k) (sym e) ∙ at_high s t (x - 1) k (omega arith) (omega arith)
]

-- ---- the three answers of the code, at the bits of a PV
exponent_lt : (b : ℕ) → exponent_of b < 256
exponent_lt b = omega arith

back : (v : Float) → T (fits binary32 v) → of_fields binary32 (is_negative (to_bits binary32 v)) (exponent_of (to_bits binary32 v)) (fraction_of (to_bits binary32 v)) ≡ v
back v h = sym (of_fields_lem (to_bits binary32 v)) ∙ of_bits-to_bits binary32 v h

module _ (v : Float) (k : ℕ) (held : T (fits binary32 v)) where
  -- t is what `power` gives, and z what `rounded` gives
  pub low : (t z : ℕ) → t ≡ 10 ^ k → z ≡ near (fraction_of (to_bits binary32 v) * t) 0 → exponent_of (to_bits binary32 v) ≡ 0 → limited (is_negative (to_bits binary32 v)) z ≡ integer_at v k
  low t z p q e =
      let b = to_bits binary32 v in
      ap (limited (is_negative b)) (q ∙ ap (λ (x : ℕ). near (fraction_of b * x) 0) p)
      ∙ sym (at_low (is_negative b) (fraction_of b) k)
      ∙ ap (λ (x : ℕ). integer_at (of_fields binary32 (is_negative b) x (fraction_of b)) k) (sym e)
      ∙ ap (λ (w : Float). integer_at w k) (back v held)

  pub mid : (t z : ℕ) → t ≡ 10 ^ k → z ≡ near ((8388608 + fraction_of (to_bits binary32 v)) * t) (exponent_of (to_bits binary32 v) - 1)
      → (exponent_of (to_bits binary32 v) ≡ 0 → ⊥) → exponent_of (to_bits binary32 v) < 160 → limited (is_negative (to_bits binary32 v)) z ≡ integer_at v k
  mid t z p q n l =
      let b = to_bits binary32 v in
      let e : suc (exponent_of b - 1) ≡ exponent_of b = omega arith in
      let u : suc (exponent_of b - 1) < 255 = omega arith in
      ap (limited (is_negative b)) (q ∙ ap (λ (x : ℕ). near ((8388608 + fraction_of b) * x) (exponent_of b - 1)) p ∙ sym (size_near (8388608 + fraction_of b) (exponent_of b - 1) k))
      ∙ sym (at_mid (is_negative b) (fraction_of b) (exponent_of b - 1) k u)
      ∙ ap (λ (x : ℕ). integer_at (of_fields binary32 (is_negative b) x (fraction_of b)) k) e
      ∙ ap (λ (w : Float). integer_at w k) (back v held)

  pub high : T (not (is_nan v)) → 160 ≤ exponent_of (to_bits binary32 v) → limited (is_negative (to_bits binary32 v)) 4294967296 ≡ integer_at v k
  high n l =
      let b = to_bits binary32 v in
      over (is_negative b) 4294967296 (lit≤ tt)
      ∙ sym (at_top (is_negative b) (fraction_of b) (exponent_of b) k (exponent_lt b) l (subst (λ (w : Float). T (not (is_nan w))) (sym (back v held)) n))
      ∙ ap (λ (w : Float). integer_at w k) (back v held)

-- ---- the product fits
pub product : (q t : ℕ) → q < 16777216 → t ≤ 10000 → q * t < 2 ^ 38
product q t a b =
    let m : q * t ≤ 16777216 * 10000 = mul-le-mul (le_of_lt a) b in
    omega arith
