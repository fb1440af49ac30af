-- Document 01, "Marked cases": the ten of them as one table, each by computation (ID 1 and the defaults). Assumes nothing.
use Prim.Native.Nat.{ℕ}
use mathlib.Core.Path.{◌≡◌, refl}
use mathlib.Core.Bool.{true, false}
use mathlib.Core.List.{List, [], ◌∷◌}
use lib.Ieee.{binary32, of_bits}
use Rattle.model.specs.declared.Integer.{Integer}
use Rattle.model.specs.Signature.{crc_of}
use Rattle.model.specs.Reading.{integer_of}
use Rattle.model.specs.Settings.{first_cob, second_cob}
use Rattle.model.specs.Store.{nothing, read}
use Rattle.model.specs.Parts.{pv_bits, integer_pv}
use Rattle.model.specs.Step.{zero_store}
use Rattle.model.proofs.Everything.{everything}
use Rattle.model.proofs.Replay.{asks, reads, writes, sample, after, plainly, last_of}

-- the integer PV of a PV with these bits
abbrev pub of_pv : ℕ → ℕ → Integer
of_pv bits digits = integer_of (record { 0 = of_bits binary32 bits }) digits

-- an Integer32 by its 32 bits, and one that is capped
abbrev pub whole : ℕ → Integer
whole bits = record { bits = bits; capped = false }

abbrev pub capped_at : ℕ → Integer
capped_at bits = record { bits = bits; capped = true }

-- what the last of some events sends first: CAN-ID and data
abbrev pub last_reply : List (List ℕ) → List ℕ
last_reply es = last_of (plainly es).log

-- a segment request with this first byte
abbrev pub segment : ℕ → List ℕ
segment command = asks 1 (command ∷ [])

-- the table
pub record Marked : Type 0 where
  -- (1) the SRDO's COB-IDs by default
  pub first_of_1 : first_cob 1 ≡ 0x101
  pub second_of_1 : second_cob 1 ≡ 0x102
  pub first_of_64 : first_cob 64 ≡ 0x17f
  pub second_of_64 : second_cob 64 ≡ 0x180
  pub first_of_65 : first_cob 65 ≡ 0x17f
  pub second_of_65 : second_cob 65 ≡ 0x180
  -- (2) 0.38 by digits
  pub digits_0 : of_pv 0x3ec28f5c 0 ≡ whole 0
  pub digits_2 : of_pv 0x3ec28f5c 2 ≡ whole 38
  pub digits_4 : of_pv 0x3ec28f5c 4 ≡ whole 3800
  -- (3) 0.125 and -0.125: halves go away from zero; FFFFFFF3h is -13
  pub half_above : of_pv 0x3e000000 2 ≡ whole 13
  pub half_below : of_pv 0xbe000000 2 ≡ whole 0xfffffff3
  -- (4) 1,000,000.0: the last digit too many caps it
  pub million_3 : of_pv 0x49742400 3 ≡ whole 1000000000
  pub million_4 : of_pv 0x49742400 4 ≡ capped_at 2147483647
  -- (5) FV 12000 is 80.0 bar
  pub eighty : pv_bits (plainly (sample 12000 ∷ [])).state ≡ 0x42a00000
  pub eight_thousand : integer_pv (plainly (sample 12000 ∷ [])).state ≡ whole 8000
  -- (6) a sub that is not there
  pub no_sub_lem : last_reply (reads 0x1800 3 ∷ []) ≡ 0x581 ∷ 0x80 ∷ 0x00 ∷ 0x18 ∷ 3 ∷ 0x11 ∷ 0x00 ∷ 0x09 ∷ 0x06 ∷ []
  -- (7) four bytes into 6132h:1
  pub four_bytes : last_reply (writes 4 0x6132 1 2 ∷ []) ≡ 0x581 ∷ 0x80 ∷ 0x32 ∷ 0x61 ∷ 1 ∷ 0x12 ∷ 0x00 ∷ 0x07 ∷ 0x06 ∷ []
  -- (8) an empty chip, whose CRC matches
  pub empty_chip : read zero_store ≡ nothing
  -- (9) the last segment of the name
  pub last_segment : last_reply (reads 0x1008 0 ∷ segment 0x60 ∷ segment 0x70 ∷ segment 0x60 ∷ []) ≡ 0x581 ∷ 0x0d ∷ 0x45 ∷ 0 ∷ 0 ∷ 0 ∷ 0 ∷ 0 ∷ 0 ∷ []
  -- (10) the CRC of `123456789`
  pub check_value : crc_of (0x31 ∷ 0x32 ∷ 0x33 ∷ 0x34 ∷ 0x35 ∷ 0x36 ∷ 0x37 ∷ 0x38 ∷ 0x39 ∷ []) ≡ 0x31c3

pub marked_cases : Marked
unfolding everything after
marked_cases =
    record {
      first_of_1 = refl;
      second_of_1 = refl;
      first_of_64 = refl;
      second_of_64 = refl;
      first_of_65 = refl;
      second_of_65 = refl;
      digits_0 = refl;
      digits_2 = refl;
      digits_4 = refl;
      half_above = refl;
      half_below = refl;
      million_3 = refl;
      million_4 = refl;
      eighty = refl;
      eight_thousand = refl;
      no_sub_lem = refl;
      four_bytes = refl;
      empty_chip = refl;
      last_segment = refl;
      check_value = refl;
    }
