-- The definition of |M| drops nothing: a finite f32 is M / 2 ^ 149 with M whole, since its exponent is -149 at least. Assumes nothing.
use mathlib.Core.Path.{◌≡◌, sym, ap, ◌∙◌, subst}
use Prim.Native.Nat.{ℕ, zero, suc, ◌+◌, ◌-◌, ◌*◌, ◌%◌, ◌^◌, ◌∣◌, ◌≤◌, ◌<◌}
use native.Mathlib.Nat.{le_trans, le_of_eq, one-mul, dvd-mul_left, dvd-mul_left_of_dvd, div-mul_cancel, lt_of_lt_of_le, lt_of_not-le, lt_irrefl}
use native.Mathlib.Omega.{arith}
use mathlib.Core.Bool.{Bool, ◌&&◌}
use lib.Dec.{T, leb, ltb, eqb, eqb→eq, leb→le, lit≤}
use lib.IntN.{ℤ, pos, negsuc}
use lib.Pow.{pow-add, pow-lt}
use lib.Ieee.{fin, up, down, binary32, fits}
use lib.Ieee.Fits.{and_l, and_r}
use Rattle.model.specs.Reading.{magnitude}

divides : (k : ℕ) → 2 ^ k ≤ 2 ^ 149 → 2 ^ k ∣ 2 ^ 149
divides k h =
    let l : k < 150 = lt_of_not-le (λ (g : 149 < k). lt_irrefl (2 ^ 149) (lt_of_lt_of_le (pow-lt g) h)) in
    let e : 149 - k + k ≡ 149 = omega arith in
    subst (λ (z : ℕ). 2 ^ k ∣ z) (sym (pow-add 2 (149 - k) k) ∙ ap (λ (z : ℕ). 2 ^ z) e) (dvd-mul_left (2 ^ k) (2 ^ (149 - k)))

down_divides : (e : ℤ) → down e ≤ 2 ^ 149 → down e ∣ 2 ^ 149
down_divides (pos k) h = divides 0 h
down_divides (negsuc k) h = divides (suc k) h

-- what the format holds has at most 149 binary places
places : (s : Bool) (m : ℕ) (e : ℤ) → T (fits binary32 (fin s m e)) → down e ≤ 2 ^ 149
unfolding fits
places s zero (pos k) h = lit≤ tt
places s zero (negsuc k) h = le_trans (le_of_eq (sym (one-mul (2 ^ suc k)) ∙ eqb→eq (1 * 2 ^ suc k) 1 h)) (lit≤ tt)
places s (suc m) e h =
    let A = eqb (suc m % 2) 1 && ltb (suc m) (2 ^ 24) in
    let B = leb (down e) (2 ^ 149) in
    leb→le (down e) (2 ^ 149) (and_r A B (and_l (A && B) (ltb (suc m * up e) (2 ^ 128 * down e)) h))

pub exact_magnitude : (s : Bool) (m : ℕ) (e : ℤ) → T (fits binary32 (fin s m e)) → m * up e * 2 ^ 149 ≡ magnitude (m * up e) (down e) * down e
exact_magnitude s m e h = sym (div-mul_cancel (down e) (dvd-mul_left_of_dvd (down e) (down_divides e (places s m e h)) (m * up e)))
