-- What being inside the range of a Real32 parameter gives. Such a float comes back from its bits. And with the scaling points and the offset
-- inside it PV is finite, and at most 2 ^ 40 in size, whatever FV is: each of the six steps has a bound of its own. Assumes nothing.
use mathlib.Core.Path.{◌≡◌, refl}
use Prim.Native.Nat.{ℕ, ◌*◌, ◌^◌, ◌≤◌, ◌<◌}
use native.Mathlib.Nat.{le_trans, le_of_lt, mul-le-mul_right}
use native.Mathlib.Omega.{arith}
use mathlib.Core.Bool.{Bool, true, false, not, cond}
use lib.Dec.{T, leb, lit≤}
use lib.Pow.{pow_mono}
use lib.IntN.{pos}
use borrow.Author.Tests.{leb-true}
use lib.Ieee.{Float, nan, inf, fin, up, down, binary32, sub, mul, div, add, of_int, is_nan, of_bits, to_bits}
use lib.Ieee.Bits.{to_bits-of_bits}
use lib.Ieee.Scale.{finite}
use Rattle.model.specs.declared.Scaling.{Scaling}
use Rattle.model.specs.declared.Fv.{Fv}
use Rattle.model.specs.declared.Verdict.TheVariants.{Inside, Above, Below}
use Rattle.model.specs.Reading.{pv_of, four_thousand, sixteen_thousand, judge_real}
use Rattle.reading.proofs.Bounds.{Bounded, bounded_finite, bounded_no_nan, add_bounded, sub_bounded, mul_bounded, div_bounded, whole_bounded}

-- ---- a float inside the range

-- a test that picks `Inside` holds
picked : (b s : Bool) → cond b Inside (cond s Below Above) ≡ Inside → b ≡ true
picked true s h = refl
picked false true h = cc
picked false false h = cc

-- 1,000,000 is below 2 ^ 20
inside_bounded : (x : Float) → judge_real x ≡ Inside → Bounded x 20
unfolding judge_real
inside_bounded nan h = let z : ◌≡◌ {A = ℕ} 0 1 = cc in absurd (omega arith)
inside_bounded (inf s) h = let z : ◌≡◌ {A = ℕ} 0 1 = cc in absurd (omega arith)
inside_bounded (fin s m e) h =
    le_trans (leb-true (m * up e) (1000000 * down e) (picked (leb (m * up e) (1000000 * down e)) s h)) (mul-le-mul_right (down e) (lit≤ tt))

pub inside_no_nan : (x : Float) → judge_real x ≡ Inside → T (not (is_nan x))
inside_no_nan x h = bounded_no_nan x 20 (inside_bounded x h)

-- the bits of what 32 bits stand for are those bits. (The other way round, at any f32, it is lib.Ieee.Bits.of_bits-to_bits)
pub bits_back : (b : ℕ) → b < 2 ^ 32 → judge_real (of_bits binary32 b) ≡ Inside → to_bits binary32 (of_bits binary32 b) ≡ b
bits_back b l h = to_bits-of_bits binary32 b l (inside_no_nan (of_bits binary32 b) h)

-- ---- PV

-- each of the three is inside the range
pub record InRange (s : Scaling) : Type 0 where
  pub low : judge_real s.low ≡ Inside
  pub high : judge_real s.high ≡ Inside
  pub offset : judge_real s.offset ≡ Inside

-- a larger bound
widen : (x : Float) (p q : ℕ) → p ≤ q → Bounded x p → Bounded x q
widen nan p q l h = h
widen (inf s) p q l h = h
widen (fin s m e) p q l h = le_trans h (mul-le-mul_right (down e) (pow_mono l))

pub pv_bounded : (s : Scaling) (fv : Fv) → InRange s → fv.0 < 2 ^ 16 → Bounded (pv_of s fv).0 40
unfolding pv_of
pv_bounded s fv r h =
    let low_in = inside_bounded s.low r.low in
    let high_in = inside_bounded s.high r.high in
    let offset_in = inside_bounded s.offset r.offset in
    let a = sub binary32 s.high s.low in
    let a_in : Bounded a 21 = sub_bounded binary32 s.high s.low 20 (lit≤ tt) high_in low_in in
    let n = of_int binary32 (pos fv.0) in
    let b = sub binary32 n four_thousand in
    let b_in : Bounded b 17 = sub_bounded binary32 n four_thousand 16 (lit≤ tt) (whole_bounded binary32 fv.0 16 (lit≤ tt) (le_of_lt h)) (lit≤ tt) in
    let c = mul binary32 a b in
    let c_in : Bounded c 38 = mul_bounded binary32 a b 21 17 (lit≤ tt) a_in b_in in
    let d = div binary32 c sixteen_thousand in
    let d_in : Bounded d 38 = div_bounded binary32 c 7 38 (lit≤ tt) c_in in
    let e = add binary32 s.low d in
    let e_in : Bounded e 39 = add_bounded binary32 s.low d 38 (lit≤ tt) (widen s.low 20 38 (lit≤ tt) low_in) d_in in
    add_bounded binary32 e s.offset 39 (lit≤ tt) e_in (widen s.offset 20 39 (lit≤ tt) offset_in)

pub pv_finite : (s : Scaling) (fv : Fv) → InRange s → fv.0 < 2 ^ 16 → T (finite (pv_of s fv).0)
pv_finite s fv r h = bounded_finite (pv_of s fv).0 40 (pv_bounded s fv r h)

pub pv_no_nan : (s : Scaling) (fv : Fv) → InRange s → fv.0 < 2 ^ 16 → T (not (is_nan (pv_of s fv).0))
pv_no_nan s fv r h = bounded_no_nan (pv_of s fv).0 40 (pv_bounded s fv r h)
