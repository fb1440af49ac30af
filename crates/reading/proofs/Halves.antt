-- n * 2 ^ x / 2 ^ 149, to the nearest, by what `rounded` computes: a shift up from x = 149 on, and below that a shift down of n with a half
-- added. Assumes nothing.
use mathlib.Core.Path.{◌≡◌, sym, ap, ◌∙◌}
use Prim.Native.Nat.{ℕ, suc, ◌+◌, ◌-◌, ◌*◌, ◌/◌, ◌%◌, ◌^◌, ◌≤◌, ◌<◌}
use native.Mathlib.Nat.{one-mul, lt_of_lt_of_le, mul_comm, mul_assoc, mul_left_comm, add-mul, pow-succ', mul-div-mul_right, div-eq_of_lt}
use native.Mathlib.Omega.{arith}
use lib.Dec.{lit<}
use lib.Pow.{pow-add, pow_pos, pow_mono, high, shl_exact}

-- what is to be computed
abbrev pub near : ℕ → ℕ → ℕ
near n x = (2 * (n * 2 ^ x) + 2 ^ 149) / 2 ^ 150

moved : (n a b : ℕ) → 2 * (n * (a * b)) ≡ n * b * (2 * a)
moved n a b = simp (mul_assoc, mul_comm, mul_left_comm)

near_up : (n i : ℕ) → near n (149 + i) ≡ n * 2 ^ i
near_up n i =
    ap (λ (z : ℕ). (2 * (n * z) + 2 ^ 149) / 2 ^ 150) (pow-add 2 149 i)
    ∙ ap (λ (z : ℕ). (z + 2 ^ 149) / 2 ^ 150) (moved n (2 ^ 149) (2 ^ i))
    ∙ high (n * 2 ^ i) 150 (lit< tt)

twice : (n x : ℕ) → 2 * (n * 2 ^ x) ≡ n * 2 ^ suc x
twice n x = mul_left_comm 2 n (2 ^ x) ∙ ap (λ (z : ℕ). n * z) (sym (pow-succ' 2 x))

halves : (j x : ℕ) → x + j ≡ 149 → 1 ≤ j → j - 1 + suc x ≡ 149
halves j x e h = omega arith

whole : (j x : ℕ) → x + j ≡ 149 → j + suc x ≡ 150
whole j x e = omega arith

near_down : (n x j : ℕ) → x + j ≡ 149 → 1 ≤ j → near n x ≡ (n + 2 ^ (j - 1)) / 2 ^ j
near_down n x j e h =
    let u = 2 ^ suc x in
    let a : 2 ^ 149 ≡ 2 ^ (j - 1) * u = ap (λ (z : ℕ). 2 ^ z) (sym (halves j x e h)) ∙ pow-add 2 (j - 1) (suc x) in
    let b : 2 ^ 150 ≡ 2 ^ j * u = ap (λ (z : ℕ). 2 ^ z) (sym (whole j x e)) ∙ pow-add 2 j (suc x) in
    ap (λ (z : ℕ). (z + 2 ^ 149) / 2 ^ 150) (twice n x)
    ∙ ap (λ (z : ℕ). (n * u + z) / 2 ^ 150) a
    ∙ ap (λ (z : ℕ). (n * u + 2 ^ (j - 1) * u) / z) b
    ∙ ap (λ (z : ℕ). z / (2 ^ j * u)) (sym (add-mul n (2 ^ (j - 1)) u))
    ∙ mul-div-mul_right (n + 2 ^ (j - 1)) (2 ^ j) (pow_pos (suc x))

both : (n h w : ℕ) → n < h → w ≡ 2 * h → n + h < w
both n h w a e = omega arith

one_more : (j : ℕ) → 1 ≤ j → suc (j - 1) ≡ j
one_more j h = omega arith

double : (j : ℕ) → 1 ≤ j → 2 ^ j ≡ 2 * 2 ^ (j - 1)
double j h = ap (λ (z : ℕ). 2 ^ z) (sym (one_more j h)) ∙ pow-succ' 2 (j - 1)

-- far below a half
near_none : (n x j : ℕ) → x + j ≡ 149 → 40 ≤ j → n < 2 ^ 38 → near n x ≡ 0
near_none n x j e h l =
    let p : 1 ≤ j = omega arith in
    let q : 38 ≤ j - 1 = omega arith in
    near_down n x j e p ∙ div-eq_of_lt (both n (2 ^ (j - 1)) (2 ^ j) (lt_of_lt_of_le l (pow_mono q)) (double j p))

-- ---- the code's own terms: a shift to the left is a product less what passes 64 bits

pub code_up : (n x : ℕ) → n < 2 ^ 38 → x < 160 → 149 ≤ x → n * 2 ^ (x - 149) % 2 ^ 64 ≡ near n x
code_up n x l a b =
    let i : 38 + (x - 149) ≤ 64 = omega arith in
    let e : 149 + (x - 149) ≡ x = omega arith in
    shl_exact 38 (x - 149) 64 l i ∙ sym (near_up n (x - 149)) ∙ ap (near n) e

half : (j : ℕ) → 1 ≤ j → j < 40 → 1 * 2 ^ (j - 1) % 2 ^ 64 ≡ 2 ^ (j - 1)
half j a b =
    let i : 1 + (j - 1) ≤ 64 = omega arith in
    shl_exact 1 (j - 1) 64 (lit< tt) i ∙ one-mul (2 ^ (j - 1))

pub code_half : (j : ℕ) → 1 ≤ j → j < 40 → 1 * 2 ^ (j - 1) % 2 ^ 64 ≤ 2 ^ 39
code_half j a b =
    let i : j - 1 ≤ 39 = omega arith in
    let h : 2 ^ (j - 1) ≤ 2 ^ 39 = pow_mono i in
    omega (arith, half j a b)

pub code_down : (n x : ℕ) → x < 149 → 149 - x < 40 → (n + 1 * 2 ^ (149 - x - 1) % 2 ^ 64) / 2 ^ (149 - x) ≡ near n x
code_down n x a b =
    let j : 1 ≤ 149 - x = omega arith in
    let e : x + (149 - x) ≡ 149 = omega arith in
    ap (λ (z : ℕ). (n + z) / 2 ^ (149 - x)) (half (149 - x) j b) ∙ sym (near_down n x (149 - x) e j)

pub code_none : (n x : ℕ) → x < 149 → 40 ≤ 149 - x → n < 2 ^ 38 → 0 ≡ near n x
code_none n x a b l =
    let e : x + (149 - x) ≡ 149 = omega arith in
    sym (near_none n x (149 - x) e b l)
