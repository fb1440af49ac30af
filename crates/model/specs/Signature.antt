-- Document 01, "Validity": the CRC-16 that signs. Its polynomial is 1021h, the register starts at 0 and is not changed at the end; a byte's
-- high bit goes in first. Assumes nothing.
use Rattle.std.specs.Prelude.{ℕ, zero, suc, ◌+◌, ◌*◌, ◌/◌, ◌%◌, Bool, true, false, List, [], ◌∷◌, leb}
use Rattle.std.specs.Int.Bits.{bit_xor}

-- the 16 bits after a move up by one: where a 1 went out, the polynomial is added (XOR)
abbrev pub divided : Bool → ℕ → ℕ
divided true moved = bit_xor 0x1021 moved
divided false moved = moved

-- one bit of the division: the register moves up by one, and its highest bit goes out
unfoldable pub shifted : ℕ → ℕ
shifted c = divided (leb 0x8000 c) (c % 0x8000 * 2)

-- n bits
unfoldable pub shifted_by : ℕ → ℕ → ℕ
shifted_by zero c = c
shifted_by (suc n) c = shifted_by n (shifted c)

-- a byte is added to the high half of the register
unfoldable pub added : ℕ → ℕ → ℕ
added c x = bit_xor x (c / 256) * 256 + c % 256

-- one byte: added, then eight bits
unfoldable pub byte_in : ℕ → ℕ → ℕ
byte_in c x = shifted_by 8 (added c x)

-- some bytes, from a register that holds c
unfoldable pub crc_from : ℕ → List ℕ → ℕ
crc_from c [] = c
crc_from c (x ∷ xs) = crc_from (byte_in c x) xs

-- the CRC of some bytes
abbrev pub crc_of : List ℕ → ℕ
crc_of bytes = crc_from 0 bytes
