-- Numbers as bytes, low byte first throughout (document 01, "Events, frames and the answer" and "The store").
-- A list of numbers below 256 stands for bytes. Assumes nothing.
use Rattle.std.specs.Prelude.{ℕ, zero, suc, ◌+◌, ◌*◌, ◌/◌, ◌%◌, ◌<◌, Bool, true, false, ◌&&◌, List, [], ◌∷◌, eqb, leb, take, drop, get_or}

-- every element is a byte
abbrev pub Bytes : List ℕ → Type 0
Bytes [] = Unit {0}
Bytes (b ∷ bs) = (b < 256) × Bytes bs

-- the n low bytes of x, low first
unfoldable pub low_bytes : ℕ → ℕ → List ℕ
low_bytes zero x = []
low_bytes (suc n) x = x % 256 ∷ low_bytes n (x / 256)

-- the number that some bytes are, low first
unfoldable pub as_number : List ℕ → ℕ
as_number [] = 0
as_number (b ∷ bs) = b + as_number bs * 256

-- byte number i, counted from 0; 0 past the end
abbrev pub byte_at : ℕ → List ℕ → ℕ
byte_at i l = get_or l i 0

-- the n bytes from place `at`
unfoldable pub part : ℕ → ℕ → List ℕ → List ℕ
part at n l = take n (drop at l)

-- the number of n bytes at place `at`
abbrev pub number_at : ℕ → ℕ → List ℕ → ℕ
number_at at n l = as_number (part at n l)

-- whether two runs of bytes are the same
unfoldable pub same_bytes : List ℕ → List ℕ → Bool
same_bytes [] [] = true
same_bytes [] (y ∷ ys) = false
same_bytes (x ∷ xs) [] = false
same_bytes (x ∷ xs) (y ∷ ys) = eqb x y && same_bytes xs ys

-- lo ≤ x ≤ hi
abbrev pub within : ℕ → ℕ → ℕ → Bool
within lo hi x = leb lo x && leb x hi
