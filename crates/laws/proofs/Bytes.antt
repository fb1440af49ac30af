-- Lists of bytes, and the numbers that are read from them. Assumes nothing.
use mathlib.Core.Path.{◌≡◌}
use mathlib.Core.List.{List, [], ◌∷◌, ◌++◌}
use Prim.Native.Nat.{ℕ, zero, suc, ◌^◌, ◌<◌}
use native.Mathlib.Omega.{arith}
use lib.ListN.{length, take, drop}
use lib.Seq.{take_at, drop_at}
use Rattle.model.specs.Bytes.{Bytes, as_number, part}

bytes_drop : (n : ℕ) (l : List ℕ) → Bytes l → Bytes (drop n l)
bytes_drop zero l h = h
bytes_drop (suc n) [] h = tt
bytes_drop (suc n) (b ∷ bs) h = bytes_drop n bs h.1

bytes_take : (n : ℕ) (l : List ℕ) → Bytes l → Bytes (take n l)
bytes_take zero l h = tt
bytes_take (suc n) [] h = tt
bytes_take (suc n) (b ∷ bs) h = (h.0, bytes_take n bs h.1)

pub bytes_part : (at n : ℕ) (l : List ℕ) → Bytes l → Bytes (part at n l)
unfolding part
bytes_part at n l h = bytes_take n (drop at l) (bytes_drop at l h)

-- n bytes make a number below 256 ^ n
number_lt : (n : ℕ) (l : List ℕ) → Bytes l → as_number (take n l) < 256 ^ n
unfolding as_number
number_lt zero l h = omega arith
number_lt (suc n) [] h = let k = number_lt n [] tt in omega arith
number_lt (suc n) (b ∷ bs) h = let k = number_lt n bs h.1 in omega arith

pub part_lt : (at n : ℕ) (l : List ℕ) → Bytes l → as_number (part at n l) < 256 ^ n
unfolding part
part_lt at n l h = number_lt n (drop at l) (bytes_drop at l h)

-- some bytes behind others and before others
pub part_mid : (p v r : List ℕ) (at k : ℕ) → length p ≡ at → length v ≡ k → part at k (p ++ (v ++ r)) ≡ v
unfolding part
part_mid p v r at k e f = rw (drop_at p (v ++ r) at e) (take_at v r k f)
