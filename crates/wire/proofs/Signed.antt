-- Laws of the CRC: of two runs of bytes, and that it has 16 bits. Assumes nothing.
use Rattle.std.proofs.Common.{◌≡◌, ℕ, zero, suc, ◌+◌, ◌*◌, ◌/◌, ◌%◌, ◌^◌, ◌<◌, Bool, true, false, leb, List, [], ◌∷◌, ◌++◌, refl, ap, ◌∙◌, add-one, arith, lit<}
use Rattle.std.specs.List.{fold}
use lib.Bits.{bit_xor, xor_lt, xor_block}
use Rattle.model.specs.Signature.{divided, shifted, shifted_by, added, byte_in, crc_from}

-- one run of bytes after another
pub crc_append : (c : ℕ) (a b : List ℕ) → crc_from c (a ++ b) ≡ crc_from (crc_from c a) b
unfolding crc_from
crc_append c [] b = refl
crc_append c (x ∷ a) b = crc_append (byte_in c x) a b

-- a fold over some bytes, as code makes it
pub crc_folded : (c : ℕ) (l : List ℕ) → crc_from c l ≡ fold byte_in c l
unfolding crc_from
crc_folded c [] = refl
crc_folded c (x ∷ l) = crc_folded (byte_in c x) l

-- a byte added by a shift to the high half
pub added_shifted : (c x : ℕ) → x < 256 → bit_xor (x * 256 % 65536) c ≡ added c x
unfolding added
added_shifted c x h =
    let moved : x * 256 % 65536 ≡ x * 2 ^ 8 + 0 = omega arith in
    let halves : c ≡ c / 256 * 2 ^ 8 + c % 256 = omega arith in
    ap (λ n. bit_xor n c) moved ∙ ap (λ n. bit_xor (x * 2 ^ 8 + 0) n) halves ∙ xor_block 8 x (c / 256) 0 (c % 256) (lit< tt) (omega arith)

-- a loop that shifts: before its first turn, and one turn more
pub shifted_none : (c : ℕ) → shifted_by 0 c ≡ c
unfolding shifted_by
shifted_none c = refl

pub shifted_more : (n c : ℕ) → shifted_by (n + 1) c ≡ shifted (shifted_by n c)
unfolding shifted_by
shifted_more zero c = refl
shifted_more (suc n) c = rw add-one (rw add-one at (shifted_more n (shifted c)))

divided_lt : (t : Bool) (moved : ℕ) → moved < 65536 → divided t moved < 65536
divided_lt true moved h = xor_lt 16 0x1021 moved (lit< tt) h
divided_lt false moved h = h

-- a shift leaves 16 bits, whatever stood in the register
pub shift_lt : (c : ℕ) → shifted c < 65536
unfolding shifted
shift_lt c = divided_lt (leb 0x8000 c) (c % 0x8000 * 2) (omega arith)

pub shifts_lt : (n c : ℕ) → c < 65536 → shifted_by n c < 65536
unfolding shifted_by
shifts_lt zero c h = h
shifts_lt (suc n) c h = shifts_lt n (shifted c) (shift_lt c)

pub byte_lt : (c x : ℕ) → byte_in c x < 65536
unfolding byte_in shifted_by
byte_lt c x = shifts_lt 7 (shifted (added c x)) (shift_lt (added c x))

pub crc_lt : (l : List ℕ) (c : ℕ) → c < 65536 → crc_from c l < 65536
unfolding crc_from
crc_lt [] c h = h
crc_lt (x ∷ l) c h = crc_lt l (byte_in c x) (byte_lt c x)
