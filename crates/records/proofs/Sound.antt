-- A group's soundness looks at that group alone, so it may be judged on settings that were decoded of a record. Assumes nothing.
use Prim.Native.Nat.{ℕ}
use mathlib.Core.Path.{◌≡◌, refl}
use mathlib.Core.List.{List}
use Rattle.model.specs.declared.Group.{Group}
use Rattle.model.specs.declared.Group.TheVariants.{C, A}
use Rattle.model.specs.declared.Settings.{Settings}
use Rattle.model.specs.Settings.{rows, in_force, altered, bytes_of, in_ranges}
use Rattle.model.specs.Validity.{signs, valid, sound}
use Rattle.model.specs.Store.{place_of, field}
use Rattle.records.specs.Decoded.{from_record}

pub sound_in : (g : Group) (r : List ℕ) (k : Settings) → sound g (in_force (altered (from_record g r) k)) ≡ sound g (field r)
unfolding sound in_ranges rows bytes_of signs valid field place_of
sound_in C r k = refl
sound_in A r k = refl
