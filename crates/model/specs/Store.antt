-- Document 01, "The store": the image of 64 bytes, its records, and what a load finds there. An absent record is the empty list. Assumes nothing.
use Rattle.std.specs.Prelude.{ℕ, ◌+◌, ◌-◌, Bool, true, false, cond, not, ◌&&◌, ◌||◌, List, [], ◌∷◌, ◌++◌, eqb, leb, length, replicate}
use Rattle.model.specs.declared.Value.{Value}
use Rattle.model.specs.declared.Parameter.{Parameter}
use Rattle.model.specs.declared.Parameter.TheVariants.{P1301s5, P1301s6, P13FE}
use Rattle.model.specs.declared.Group.{Group}
use Rattle.model.specs.declared.Group.TheVariants.{C, A}
use Rattle.model.specs.declared.Groups.{Groups}
use Rattle.model.specs.declared.Address.{Address}
use Rattle.model.specs.Bytes.{low_bytes, part, byte_at, number_at, same_bytes, within}
use Rattle.model.specs.Signature.{crc_of}
use Rattle.model.specs.Values.{width_of, typed}
use Rattle.model.specs.Settings.{row, rows, same, among, has, bytes_of}
use Rattle.model.specs.Validity.{sound}

-- ---- The records

-- N: Node-ID and bit index
abbrev pub record_n : Address → List ℕ
record_n a = a.id ∷ a.bit ∷ []

-- C begins with the ID that is active, and its rows follow in the order of the table; A is its rows alone
unfoldable pub record_of : Group → ℕ → (Parameter → Value) → List ℕ
record_of C id f = id ∷ bytes_of (rows C) f
record_of A id f = bytes_of (rows A) f

-- how long they are
abbrev pub size_n : ℕ
size_n = 2

abbrev pub size_of_record : Group → ℕ
size_of_record C = 21
size_of_record A = 17

-- where a group's rows begin in its record
abbrev pub rows_at : Group → ℕ
rows_at C = 1
rows_at A = 0

-- where p stands, when these rows stand one after the other from place `at` on
abbrev pub place_from : ℕ → List Parameter → Parameter → ℕ
place_from at [] p = at
place_from at (q ∷ qs) p = cond (same p q) at (place_from (at + width_of (row q).kind) qs p)

-- where a parameter stands in its group's record
unfoldable pub place_of : Parameter → ℕ
place_of p = place_from (rows_at (row p).group) (rows (row p).group) p

-- the value of a parameter in its group's record
unfoldable pub field : List ℕ → Parameter → Value
field r p = typed (row p).kind (number_at (place_of p) (width_of (row p).kind) r)

-- ---- Which records are accepted: those with every value in its range and no false validity byte. One that is not makes the whole image a bad one

-- a Node-ID
abbrev pub node_id : ℕ → Bool
node_id n = within 1 127 n

-- a bit index of the table of bit rates: 1 and 5 are reserved
abbrev pub bit_index : ℕ → Bool
bit_index n = leb n 8 && (not (eqb n 1) && not (eqb n 5))

-- the contents of a record
unfoldable pub sound_n : List ℕ → Bool
sound_n r = node_id (byte_at 0 r) && bit_index (byte_at 1 r)

unfoldable pub sound_record : Group → List ℕ → Bool
sound_record C r = node_id (byte_at 0 r) && sound C (field r)
sound_record A r = sound A (field r)

-- a record that is absent, or has its size and sound contents
unfoldable pub ok_n : List ℕ → Bool
ok_n r = eqb (length r) 0 || (eqb (length r) size_n && sound_n r)

unfoldable pub ok : Group → List ℕ → Bool
ok g r = eqb (length r) 0 || (eqb (length r) (size_of_record g) && sound_record g r)

-- ---- Building an image

-- a record's place in the trailer
unfoldable pub place_in : ℕ → List ℕ → ℕ
place_in at r = cond (eqb (length r) 0) 0xffff at

-- N, C and A side by side, and what is left of the first 56 bytes filled with zeros
unfoldable pub packed : List ℕ → List ℕ → List ℕ → List ℕ
packed n c a = n ++ c ++ a ++ replicate (56 - (length n + length c + length a)) 0

-- the trailer's places, of C, A and N
unfoldable pub placed : List ℕ → List ℕ → List ℕ → List ℕ
placed n c a =
    packed n c a
    ++ low_bytes 2 (place_in (length n) c)
    ++ low_bytes 2 (place_in (length n + length c) a)
    ++ low_bytes 2 (place_in 0 n)

-- the image: the CRC of all that comes last
unfoldable pub build : List ℕ → List ℕ → List ℕ → List ℕ
build n c a = let front = placed n c a in front ++ low_bytes 2 (crc_of front)

-- ---- Reading an image

-- what is saved: nothing, or the records N, C and A of a good store
pub data Saved : Type 0 where
  nothing : Saved
  good : (n c a : List ℕ) → Saved

-- the length of a record of k bytes whose place stands at `at`
unfoldable pub length_at : ℕ → ℕ → List ℕ → ℕ
length_at at k image = cond (eqb (number_at at 2 image) 0xffff) 0 k

-- the records, as far as the trailer says that they are there
unfoldable pub n_in : List ℕ → List ℕ
n_in image = part 0 (length_at 60 size_n image) image

unfoldable pub c_in : List ℕ → List ℕ
c_in image = part (length_at 60 size_n image) (length_at 56 (size_of_record C) image) image

unfoldable pub a_in : List ℕ → List ℕ
a_in image =
    part (length_at 60 size_n image + length_at 56 (size_of_record C) image) (length_at 58 (size_of_record A) image) image

-- a good image is the very one that its own records make, each of them accepted
unfoldable pub is_good : List ℕ → Bool
is_good image =
    same_bytes image (build (n_in image) (c_in image) (a_in image))
    && (ok_n (n_in image) && (ok C (c_in image) && ok A (a_in image)))

abbrev pub saved_if : Bool → List ℕ → List ℕ → List ℕ → Saved
saved_if true n c a = good n c a
saved_if false n c a = nothing

-- what 64 bytes have saved: their records where they are good, else none
unfoldable pub read : List ℕ → Saved
read image = saved_if (is_good image) (n_in image) (c_in image) (a_in image)

-- the saved N
abbrev pub saved_n : Saved → List ℕ
saved_n nothing = []
saved_n (good n c a) = n

-- the saved record of a group
abbrev pub saved : Group → Saved → List ℕ
saved g nothing = []
saved C (good n c a) = c
saved A (good n c a) = a

-- ---- Loading

-- the first of two runs of bytes, or the second where the first is empty
abbrev pub or_else : List ℕ → List ℕ → List ℕ
or_else [] other = other
or_else (x ∷ xs) other = x ∷ xs

-- the default of each parameter for an ID
abbrev pub default_for : ℕ → Parameter → Value
default_for id p = (row p).default id

-- the factory block for an ID: its C, then its A
unfoldable pub factory : ℕ → List ℕ
factory id = record_of C id (default_for id) ++ record_of A id (default_for id)

-- where a group stands in it
abbrev pub factory_place : Group → ℕ
factory_place C = 0
factory_place A = size_of_record C

-- the record that a load takes for a group: the saved one, else the one in a factory block
abbrev pub group_of : Group → List ℕ → Saved → List ℕ
group_of g block sv = or_else (saved g sv) (part (factory_place g) (size_of_record g) block)

-- with the factory block that is built for an ID
unfoldable pub group_from : Group → ℕ → Saved → List ℕ
group_from g id sv = group_of g (factory id) sv

-- the COB-ID rule ("NMT, time, SYNC"): what was chosen for one ID does not serve another. These come from the defaults where C was saved under
-- another ID than the one that becomes active; the default of 13FEh is 0
abbrev pub follows_id : Parameter → Bool
follows_id p = among (P1301s5 ∷ P1301s6 ∷ P13FE ∷ []) p

-- the value of a parameter at a load with the active ID
unfoldable pub loaded : ℕ → Saved → Parameter → Value
loaded id sv p =
    let r = group_from (row p).group id sv in
    cond (follows_id p && not (eqb (byte_at 0 r) id)) (default_for id p) (field r p)

-- Node-ID and bit index at a load: 1 and 3 where N is absent
unfoldable pub address_from : Saved → Address
address_from sv = let r = or_else (saved_n sv) (1 ∷ 3 ∷ []) in record { id = byte_at 0 r; bit = byte_at 1 r }

-- ---- Writing: an image is always built from all its records, so what a good store has besides goes into the next one

-- the record of a group, where r gives those of these groups and the others are kept
abbrev pub renewed_record : Groups → (Group → List ℕ) → Saved → Group → List ℕ
renewed_record gs r sv g = cond (has gs g) (r g) (saved g sv)

-- these groups with the records that r gives
unfoldable pub renewed : Groups → (Group → List ℕ) → Saved → List ℕ
renewed gs r sv = build (saved_n sv) (renewed_record gs r sv C) (renewed_record gs r sv A)

-- N with this pair
unfoldable pub readdressed : Address → Saved → List ℕ
readdressed a sv = build (record_n a) (saved C sv) (saved A sv)
