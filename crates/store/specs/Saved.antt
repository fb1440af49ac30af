-- What is saved, by the sizes of its records; a load from a block, and a write. Assumes nothing.
use Rattle.std.specs.Prelude.{ℕ, ◌+◌, ◌≡◌, Bool, true, false, cond, ◌&&◌, not, List, eqb}
use Rattle.model.specs.declared.Parameter.{Parameter}
use Rattle.model.specs.declared.Group.{Group}
use Rattle.model.specs.declared.Group.TheVariants.{C, A}
use Rattle.model.specs.Bytes.{part, byte_at}
use Rattle.model.specs.Settings.{row, same_group, Now, stays, becomes}
use Rattle.model.specs.Store.{size_of_record, field, is_good, read, saved_n, saved, or_else, default_for, group_of, factory_place, follows_id}
use Rattle.image.specs.declared.Sizes.{Sizes}
use Rattle.image.specs.declared.Records.{Records}
use Rattle.image.specs.Sizes.{sizes_in, Most, Within}

-- the sizes of what is saved: none where the image is not good
abbrev pub sizes_if : Bool → Sizes → Sizes
sizes_if true s = s
sizes_if false s = record { n = 0; c = 0; a = 0 }

-- s are the sizes of what is saved in an image
pub record Kept (image : List ℕ) (s : Sizes) : Type 0 where
  pub told : s ≡ sizes_if (is_good image) (sizes_in image)
  pub most : Most s

-- r are the records that are saved in an image, the parts of it that the sizes s say
pub record SavedIn (image : List ℕ) (s : Sizes) (r : Records) : Type 0 where
  pub n : r.n.now ≡ saved_n (read image)
  pub c : r.c.now ≡ saved C (read image)
  pub a : r.a.now ≡ saved A (read image)
  pub within : Within image s r
  pub most : Most s

-- a group at a load, by the sizes: of the store or, where it is empty there, of the factory block
abbrev pub part_for : Group → List ℕ → List ℕ → Sizes → List ℕ
part_for C store block s = or_else (part s.n s.c store) (part (factory_place C) (size_of_record C) block)
part_for A store block s = or_else (part (s.n + s.c) s.a store) (part (factory_place A) (size_of_record A) block)

-- r is the group at a load: which part of the two it is, and that it is the group
pub record GroupPart (g : Group) (store block : List ℕ) (s : Sizes) (r : List ℕ) : Type 0 where
  pub which : r ≡ part_for g store block s
  pub is_group : r ≡ group_of g block (read store)

-- the parameters of a group become those of its record, with the COB-ID rule for the active ID; the others stay
abbrev pub for_id : Group → ℕ → List ℕ → Parameter → Now
for_id g id r p =
    cond (same_group (row p).group g)
    (becomes (cond (follows_id p && not (eqb (byte_at 0 r) id)) (default_for id p) (field r p)))
    stays

-- the parameters of the COB-ID rule become their defaults; the others stay
abbrev pub cobs_of : ℕ → Parameter → Now
cobs_of id p = cond (follows_id p) (becomes (default_for id p)) stays
