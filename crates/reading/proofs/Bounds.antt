-- A bound on a float's size goes through each operation: so where no operand is large, no result is an infinity or a NaN. Assumes nothing.
use mathlib.Core.Path.{◌≡◌, refl, sym, ap, ◌∙◌, subst}
use Prim.Native.Nat.compare
use Prim.Native.Nat.{ℕ, zero, suc, ◌+◌, ◌-◌, ◌*◌, ◌/◌, ◌%◌, ◌^◌, ◌≤◌, ◌<◌, compare, Ordering}
use native.Mathlib.Nat.{le_trans, le_of_eq, lt_of_le_of_lt, lt_irrefl, mul_assoc, mul_comm, mul_left_comm, mul_right_comm, mul-one, mul-le-mul, one-mul, mul-le-mul_left, mul-le-mul_right, le_of_mul-le-mul_right, mul-lt-mul_of_pos_right, mul-pos, mul-div_cancel, mul-mod_left, div-lt_iff_lt-mul, pow-succ', zero-lt-suc}
use native.Mathlib.Omega.{arith}
use mathlib.Core.Bool.{Bool, true, false, not, cond, ◌&&◌, beq}
use lib.Dec.{T, ltb}
use lib.IntN.{pos}
use lib.Pow.{pow-add, pow_pos, pow-lt}
use lib.Ieee.{Float, nan, inf, fin, Format, prec, emax, low, up, down, size, nearest, units, round, sum, neg, add, sub, mul, div, of_int, is_nan, unlike}
use lib.Ieee.Digits.{size-le, back}
use lib.Ieee.Fits.{round_is, two, down_pos}
use lib.Ieee.Exact.{HasValue, units_val}
use lib.Ieee.Nearest.{closest, closest_mono}
use lib.Ieee.Scale.{finite}

-- x is finite, and at most 2 ^ p in size
abbrev pub Bounded : Float → ℕ → Type 0
Bounded nan p = ⊥
Bounded (inf s) p = ⊥
Bounded (fin s m e) p = m * up e ≤ 2 ^ p * down e

pub bounded_finite : (x : Float) (p : ℕ) → Bounded x p → T (finite x)
bounded_finite nan p h = absurd h
bounded_finite (inf s) p h = absurd h
bounded_finite (fin s m e) p h = tt

pub bounded_no_nan : (x : Float) (p : ℕ) → Bounded x p → T (not (is_nan x))
unfolding is_nan
bounded_no_nan nan p h = absurd h
bounded_no_nan (inf s) p h = absurd h
bounded_no_nan (fin s m e) p h = tt

-- ---- rounding
above_zero : (u : ℕ) → 0 < u → compare 0 u ≡ Ordering.lt
above_zero zero h = absurd (lt_irrefl 0 h)
above_zero (suc u) h = compare.zero-suc u

closest_exact : (q u : ℕ) → 0 < u → closest (q * u) u ≡ q
closest_exact q u h =
    ap (λ (x : ℕ). nearest x (compare (q * u % u * 2) u)) (mul-div_cancel q h)
    ∙ ap (λ (x : ℕ). nearest q (compare (x * 2) u)) (mul-mod_left q u)
    ∙ ap (λ (o : Ordering). nearest q o) (above_zero u h)

by_value : (x : Float) (s : Bool) (a l p : ℕ) → HasValue x s a (2 ^ l) → a ≤ 2 ^ (p + l) → Bounded x p
by_value nan s a l p v h = absurd v
by_value (inf t) s a l p v h = absurd v
by_value (fin t m e) s a l p v h =
    le_of_mul-le-mul_right
    (le_trans (le_of_eq v.1)
    (le_trans (mul-le-mul_right (down e) h)
    (le_of_eq (ap (λ (z : ℕ). z * down e) (pow-add 2 p l) ∙ mul_right_comm (2 ^ p) (2 ^ l) (down e)))))
    (pow_pos l)

-- a fraction of at most 2 ^ p rounds to at most 2 ^ p, which the format holds
round_bounded : (f : Format) (s : Bool) (num den p : ℕ) → 0 < den → p ≤ emax f → num ≤ 2 ^ p * den → Bounded (round f s num den) p
round_bounded f s num den p D P h =
    let l = low f in
    let n = num * 2 ^ l in
    let top = p + l in
    let n_le : n ≤ 2 ^ top * den = le_trans (mul-le-mul_right (2 ^ l) h) (le_of_eq (mul_right_comm (2 ^ p) den (2 ^ l) ∙ ap (λ (z : ℕ). z * den) (sym (pow-add 2 p l)))) in
    let more : 2 ^ top < 2 ^ suc top = pow-lt (le_of_eq refl) in
    let q_lt : n / den < 2 ^ suc top = (div-lt_iff_lt-mul D).1 (lt_of_le_of_lt n_le (mul-lt-mul_of_pos_right more D)) in
    let k = size (n / den) - prec f in
    let k_le : k ≤ top = omega (arith, size-le (n / den) (suc top) q_lt, two f) in
    let u = den * 2 ^ k in
    let e : 2 ^ top ≡ 2 ^ (top - k) * 2 ^ k = ap (λ (z : ℕ). 2 ^ z) (sym (back top k k_le)) ∙ pow-add 2 (top - k) k in
    let cross : n * 2 ^ k ≤ 2 ^ top * u = le_trans (mul-le-mul_right (2 ^ k) n_le) (le_of_eq (mul_assoc (2 ^ top) den (2 ^ k))) in
    let c_le : closest n u ≤ 2 ^ (top - k) = le_trans (closest_mono n u (2 ^ top) (2 ^ k) (mul-pos D (pow_pos k)) (pow_pos k) cross) (le_of_eq (ap (λ (z : ℕ). closest z (2 ^ k)) e ∙ closest_exact (2 ^ (top - k)) (2 ^ k) (pow_pos k))) in
    let v_le : closest n u * 2 ^ k ≤ 2 ^ top = le_trans (mul-le-mul_right (2 ^ k) c_le) (le_of_eq (sym e)) in
    subst (λ (x : Float). Bounded x p) (sym (round_is f s num den))
    (by_value (units f s (closest n u) k) s (closest n u * 2 ^ k) l p
    (units_val f s (closest n u) k (lt_of_le_of_lt v_le (pow-lt (omega arith)))) v_le)

-- ---- the operations
neg_bounded : (x : Float) (p : ℕ) → Bounded x p → Bounded (neg x) p
unfolding neg
neg_bounded nan p h = h
neg_bounded (inf s) p h = h
neg_bounded (fin s m e) p h = h

cond_bounded : (b : Bool) (x y : Float) (p : ℕ) → Bounded x p → Bounded y p → Bounded (cond b x y) p
cond_bounded true x y p h k = h
cond_bounded false x y p h k = k

sum_bounded : (f : Format) (s : Bool) (a : ℕ) (t : Bool) (b c p : ℕ) → 0 < c → suc p ≤ emax f → a ≤ 2 ^ p * c → b ≤ 2 ^ p * c → Bounded (sum f s a t b c) (suc p)
unfolding sum
sum_bounded f s a t b c p C P h k =
    let w : 2 ^ suc p * c ≡ 2 * (2 ^ p * c) = ap (λ (z : ℕ). z * c) (pow-succ' 2 p) ∙ mul_assoc 2 (2 ^ p) c in
    cond_bounded (beq s t) (round f s (a + b) c) (cond (ltb a b) (round f t (b - a) c) (round f (s && ltb b a) (a - b) c)) (suc p)
    (round_bounded f s (a + b) c (suc p) C P (omega arith))
    (cond_bounded (ltb a b) (round f t (b - a) c) (round f (s && ltb b a) (a - b) c) (suc p)
    (round_bounded f t (b - a) c (suc p) C P (omega arith))
    (round_bounded f (s && ltb b a) (a - b) c (suc p) C P (omega arith)))

pub add_bounded : (f : Format) (x y : Float) (p : ℕ) → suc p ≤ emax f → Bounded x p → Bounded y p → Bounded (add f x y) (suc p)
unfolding add
add_bounded f nan y p P h k = absurd h
add_bounded f (inf s) y p P h k = absurd h
add_bounded f (fin s m e) nan p P h k = absurd k
add_bounded f (fin s m e) (inf t) p P h k = absurd k
add_bounded f (fin s m e) (fin t n d) p P h k =
    sum_bounded f s (m * up e * down d) t (n * up d * down e) (down e * down d) p (mul-pos (down_pos e) (down_pos d)) P
    (le_trans (mul-le-mul_right (down d) h) (le_of_eq (mul_assoc (2 ^ p) (down e) (down d))))
    (le_trans (mul-le-mul_right (down e) k) (le_of_eq (mul_assoc (2 ^ p) (down d) (down e) ∙ ap (λ (z : ℕ). 2 ^ p * z) (mul_comm (down d) (down e)))))

pub sub_bounded : (f : Format) (x y : Float) (p : ℕ) → suc p ≤ emax f → Bounded x p → Bounded y p → Bounded (sub f x y) (suc p)
unfolding sub
sub_bounded f x y p P h k = add_bounded f x (neg y) p P h (neg_bounded y p k)

regroup : (a b c d : ℕ) → a * b * (c * d) ≡ a * c * (b * d)
regroup a b c d = simp (mul_assoc, mul_left_comm)

pub mul_bounded : (f : Format) (x y : Float) (p q : ℕ) → p + q ≤ emax f → Bounded x p → Bounded y q → Bounded (mul f x y) (p + q)
unfolding mul
mul_bounded f nan y p q P h k = absurd h
mul_bounded f (inf s) y p q P h k = absurd h
mul_bounded f (fin s m e) nan p q P h k = absurd k
mul_bounded f (fin s m e) (inf t) p q P h k = absurd k
mul_bounded f (fin s m e) (fin t n d) p q P h k =
    round_bounded f (unlike s t) (m * up e * (n * up d)) (down e * down d) (p + q) (mul-pos (down_pos e) (down_pos d)) P
    (le_trans (mul-le-mul h k) (le_of_eq (regroup (2 ^ p) (down e) (2 ^ q) (down d) ∙ ap (λ (z : ℕ). z * (down e * down d)) (sym (pow-add 2 p q)))))

-- an integer of at most p bits
pub whole_bounded : (f : Format) (n p : ℕ) → p ≤ emax f → n ≤ 2 ^ p → Bounded (of_int f (pos n)) p
unfolding of_int
whole_bounded f n p P h = round_bounded f false n 1 p (zero-lt-suc 0) P (le_trans h (le_of_eq (sym (mul-one (2 ^ p)))))

-- a quotient by a number that is 1 at least is no larger: 125 * 2 ^ k here
pub div_bounded : (f : Format) (x : Float) (k p : ℕ) → p ≤ emax f → Bounded x p → Bounded (div f x (fin false 125 (pos k))) p
unfolding div
div_bounded f nan k p P h = absurd h
div_bounded f (inf s) k p P h = absurd h
div_bounded f (fin s m e) k p P h =
    let d = 125 * 2 ^ k in
    let one : 1 ≤ d = mul-le-mul (zero-lt-suc 124) (pow_pos k) in
    let more : 2 ^ p * down e ≤ 2 ^ p * (d * down e) = mul-le-mul_left (2 ^ p) (le_trans (le_of_eq (sym (one-mul (down e)))) (mul-le-mul_right (down e) one)) in
    round_bounded f (unlike s false) (m * up e * 1) (d * down e) p (mul-pos one (down_pos e)) P (omega (arith, h, more))
