-- Which records are accepted, by their size and contents. Assumes nothing.
use Rattle.std.specs.Prelude.{◌≡◌, ℕ, List, ◌||◌, ◌&&◌, eqb, length, refl}
use Rattle.model.specs.declared.Group.{Group}
use Rattle.model.specs.Store.{size_n, size_of_record, sound_n, sound_record, ok_n, ok}

pub ok_n_lem : (r : List ℕ) → ok_n r ≡ (eqb (length r) 0 || (eqb (length r) size_n && sound_n r))
unfolding ok_n
ok_n_lem r = refl

pub ok_lem : (g : Group) (r : List ℕ) → ok g r ≡ (eqb (length r) 0 || (eqb (length r) (size_of_record g) && sound_record g r))
unfolding ok
ok_lem g r = refl
