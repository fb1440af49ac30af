-- The definition `int32` is two's complement at 32 bits. Assumes nothing.
use mathlib.Core.Path.{◌≡◌, refl, ap, ◌∙◌}
use Prim.Native.Nat.{ℕ, zero, suc, ◌-◌, ◌%◌, ◌≤◌, ◌<◌}
use native.Mathlib.Omega.{arith}
use mathlib.Core.Bool.{Bool, true, false, cond}
use lib.IntN.{pos, neg_ℤ}
use mir.Syntax.{w32}
use mir.Val.{to_z}
use mir.ValLaws.{to_z_pos, to_z-neg}
use Rattle.model.specs.Reading.{int32, end}

-- `int32` is what it says: its bits read as signed are the size with its sign
pub int32_is : (s : Bool) (n : ℕ) → n ≤ end s → to_z w32 (int32 s n) ≡ cond s (neg_ℤ (pos n)) (pos n)
int32_is false n h = let l : n < 2147483648 = omega arith in to_z_pos w32 n l
int32_is true zero h = refl
int32_is true (suc n) h =
    let l : n < 2147483648 = omega arith in
    let e : (4294967296 - suc n) % 4294967296 ≡ 4294967296 - suc n = omega arith in
    ap (to_z w32) e ∙ to_z-neg w32 n l
