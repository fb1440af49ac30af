-- The range of a Real32 parameter by comparisons of floats, as `real_fits` and `judge_real` make them. Assumes nothing.
use mathlib.Core.Path.{◌≡◌, refl, sym}
use Prim.Native.Nat.{◌*◌}
use Rattle.std.proofs.Common.{arith}
use Rattle.std.proofs.lemmas.Bool.Decides.{nat_tests}
use mathlib.Core.Bool.{Bool, true, false, true≢false, cond, ◌&&◌}
use lib.Dec.{leb}
use lib.Ieee.{Float, nan, inf, fin, up, down, binary32, of_bits, neg, lt, le}
use Rattle.std.specs.Float.{float_is_finite}
use Rattle.model.specs.declared.Verdict.{Verdict}
use Rattle.model.specs.declared.Verdict.TheVariants.{Inside, Outside, Above, Below}
use Rattle.model.specs.Reading.{judge_real}
use Rattle.model.specs.Settings.{is_inside}

-- ---- `real_fits`

-- 1000000.0 by its bits: it is 15625 * 2 ^ 6
abbrev pub highest : Float
highest = of_bits binary32 1232348160

-- a verdict by one test
pub tested : (b : Bool) (v : Verdict) → is_inside v ≡ false → is_inside (cond b Inside v) ≡ b
tested true v h = refl
tested false v h = h

-- le is lt or eq, so a finite x is compared with each end as m * up e with 1,000,000 * down e
pub fits : (x : Float) → (le x highest && le (neg highest) x) ≡ is_inside (judge_real x)
unfolding le judge_real of_bits neg
fits nan = refl
fits (inf true) = refl
fits (inf false) = refl
fits (fin true m e) = rw (tested (leb (m * up e) (1000000 * down e)) Below refl) (grind (arith, nat_tests))
fits (fin false m e) = rw (tested (leb (m * up e) (1000000 * down e)) Above refl) (grind (arith, nat_tests))

-- ---- `judge_real`

-- 0.0 by its bits
abbrev pub zero : Float
zero = of_bits binary32 0

pub is_outside : (x : Float) → float_is_finite x ≡ false → Outside ≡ judge_real x
unfolding judge_real float_is_finite
is_outside nan f = refl
is_outside (inf s) f = refl
is_outside (fin s m e) f = absurd (true≢false f)

pub is_above : (x : Float) → is_inside (judge_real x) ≡ false → float_is_finite x ≡ true → lt zero x ≡ true → Above ≡ judge_real x
unfolding lt judge_real float_is_finite of_bits
is_above nan h f p = absurd (true≢false (sym f))
is_above (inf s) h f p = absurd (true≢false (sym f))
is_above (fin true m e) h f p = absurd (true≢false (sym p))
is_above (fin false m e) h f p = grind (arith, nat_tests)

pub is_below : (x : Float) → is_inside (judge_real x) ≡ false → float_is_finite x ≡ true → lt zero x ≡ false → Below ≡ judge_real x
unfolding lt judge_real float_is_finite of_bits
is_below nan h f p = absurd (true≢false (sym f))
is_below (inf s) h f p = absurd (true≢false (sym f))
is_below (fin true m e) h f p = grind (arith, nat_tests)
is_below (fin false m e) h f p = grind (arith, nat_tests)
