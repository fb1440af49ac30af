-- Document 01, "Validity": what a signature covers, when a validity byte may be A5h, and which change sets it to 0. Assumes nothing.
-- Throughout, f gives the value of each parameter: those in force, or those of a record in the store.
use Rattle.std.specs.Prelude.{ℕ, ◌+◌, Bool, not, ◌&&◌, ◌||◌, List, [], ◌∷◌, ◌++◌, eqb}
use Rattle.model.specs.declared.Value.{Value}
use Rattle.model.specs.declared.Parameter.{Parameter}
use Rattle.model.specs.declared.Parameter.TheVariants.{P1301s1, P1301s2, P1301s3, P1301s5, P1301s6, P13FE, P13FF, P6121, P6123, P6124, P6132, P51FE, P51FF}
use Rattle.model.specs.declared.Group.{Group}
use Rattle.model.specs.declared.Group.TheVariants.{C, A}
use Rattle.model.specs.Bytes.{low_bytes}
use Rattle.model.specs.Signature.{crc_of}
use Rattle.model.specs.Values.{number_of}
use Rattle.model.specs.Settings.{row, rows, same, among, bytes_of, in_ranges}

-- ---- What is signed

-- the parameters that each signature covers, in the order in which they are signed
abbrev pub covered : Group → List Parameter
covered C = P1301s1 ∷ P1301s2 ∷ P1301s3 ∷ P1301s5 ∷ P1301s6 ∷ []
covered A = P6121 ∷ P6123 ∷ P6124 ∷ P6132 ∷ []

-- 13FFh:1 and 51FFh:1
abbrev pub signature_of : Group → Parameter
signature_of C = P13FF
signature_of A = P51FF

-- 13FEh and 51FEh
abbrev pub validity_of : Group → Parameter
validity_of C = P13FE
validity_of A = P51FE

-- 1381h:1 and 1381h:2
abbrev pub first_mapping : ℕ
first_mapping = 0x50300120

abbrev pub second_mapping : ℕ
second_mapping = 0x50300220

-- what C signs after its parameters: the number of mappings, and each behind its sub
abbrev pub mappings : Group → List ℕ
mappings C = 2 ∷ 1 ∷ low_bytes 4 first_mapping ++ (2 ∷ low_bytes 4 second_mapping)
mappings A = []

-- the signature of a group is the CRC of what it signs
unfoldable pub signs : Group → (Parameter → Value) → Bool
signs g f = eqb (number_of (f (signature_of g))) (crc_of (bytes_of (covered g) f ++ mappings g))

-- ---- The validity bytes

-- A5h in the validity byte says valid
abbrev pub a5h : ℕ
a5h = 0xa5

-- when it may be A5h: the signature is right, and in C the second COB-ID follows the first
unfoldable pub valid : Group → (Parameter → Value) → Bool
valid C f = signs C f && eqb (number_of (f P1301s6)) (number_of (f P1301s5) + 1)
valid A f = signs A f

-- it vouches: it is A5h
abbrev pub vouched : Group → (Parameter → Value) → Bool
vouched g f = eqb (number_of (f (validity_of g))) a5h

-- where it vouches, it does so rightly
abbrev pub honest : Group → (Parameter → Value) → Bool
honest g f = not (vouched g f) || valid g f

-- a group that may be in force, and may be saved
unfoldable pub sound : Group → (Parameter → Value) → Bool
sound g f = in_ranges (rows g) f && honest g f

-- ---- The forced change of a write

-- q is the validity byte that a change of p sets to 0: p is covered, or is the signature
unfoldable pub revokes : Parameter → Parameter → Bool
revokes p q = let g = (row p).group in same q (validity_of g) && (among (covered g) p || same p (signature_of g))

-- v has other bytes than f has there: a value written over itself is no change, and -0.0 over 0.0 is one
abbrev pub changes : Parameter → Value → (Parameter → Value) → Bool
changes p v f = not (eqb (number_of v) (number_of (f p)))
