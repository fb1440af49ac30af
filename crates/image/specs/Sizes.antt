-- An image by the sizes of its records. Assumes nothing.
use Rattle.std.specs.Prelude.{ℕ, ◌+◌, ◌≤◌, ◌≡◌, cond, List, eqb, length}
use Rattle.model.specs.declared.Group.TheVariants.{C, A}
use Rattle.model.specs.Bytes.{part}
use Rattle.model.specs.Store.{size_n, size_of_record, length_at}
use Rattle.image.specs.declared.Sizes.{Sizes}
use Rattle.image.specs.declared.Records.{Records}

-- the place of a record of this size, as the trailer has it
abbrev pub place_by : ℕ → ℕ → ℕ
place_by size at = cond (eqb size 0) 0xffff at

-- the sizes of the records that the trailer of an image tells
abbrev pub sizes_in : List ℕ → Sizes
sizes_in image =
    record {
      n = length_at 60 size_n image;
      c = length_at 56 (size_of_record C) image;
      a = length_at 58 (size_of_record A) image;
    }

-- each size is at most its record's
pub record Most (s : Sizes) : Type 0 where
  pub n : s.n ≤ size_n
  pub c : s.c ≤ size_of_record C
  pub a : s.a ≤ size_of_record A

-- s are those sizes
pub record Sized (image : List ℕ) (s : Sizes) : Type 0 where
  pub told : s ≡ sizes_in image
  pub most : Most s

-- r are the parts of an image that records of these sizes are
pub record Within (image : List ℕ) (s : Sizes) (r : Records) : Type 0 where
  pub n : r.n.now ≡ part 0 s.n image
  pub c : r.c.now ≡ part s.n s.c image
  pub a : r.a.now ≡ part (s.n + s.c) s.a image
  pub long_n : length r.n.now ≡ s.n
  pub long_c : length r.c.now ≡ s.c
  pub long_a : length r.a.now ≡ s.a
