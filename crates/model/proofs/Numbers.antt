-- A number as bytes, low first, and back: over every width. Assumes nothing.
use mathlib.Core.Path.{◌≡◌, refl, ap}
use Prim.Native.Nat.{ℕ, zero, suc, ◌/◌, ◌^◌, ◌<◌}
use native.Mathlib.Omega.{arith}
use lib.ListN.{length}
use Rattle.std.specs.Int.{to_le_bytes, w16, w32}
use Rattle.model.specs.Bytes.{low_bytes, as_number}

pub length_low : (n x : ℕ) → length (low_bytes n x) ≡ n
unfolding low_bytes
length_low zero x = refl
length_low (suc n) x = ap suc (length_low n (x / 256))

-- n bytes hold every number below 256 ^ n
pub number_low : (n x : ℕ) → x < 256 ^ n → as_number (low_bytes n x) ≡ x
unfolding low_bytes as_number
number_low zero x h = omega arith
number_low (suc n) x h =
    let e : as_number (low_bytes n (x / 256)) ≡ x / 256 = number_low n (x / 256) (omega arith) in
    omega arith

-- they are those of std's `to_le_bytes`, of two bytes and of four
pub low_of_16 : (x : ℕ) → to_le_bytes w16 x ≡ low_bytes 2 x
unfolding low_bytes
low_of_16 x = refl

pub low_of_32 : (x : ℕ) → to_le_bytes w32 x ≡ low_bytes 4 x
unfolding low_bytes
low_of_32 x =
    let two : x / 65536 ≡ x / 256 / 256 = omega arith in
    let three : x / 16777216 ≡ x / 256 / 256 / 256 = omega arith in
    rw (two, three)
