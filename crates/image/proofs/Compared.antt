-- The library's test of two arrays is the definition's. Assumes nothing.
use Rattle.std.proofs.Common.{◌≡◌, ℕ, ◌&&◌, List, [], ◌∷◌, nat_eq, refl, ap}
use lib.Pointwise.{pointwise}
use Rattle.model.specs.Bytes.{same_bytes}

pub compared : (x y : List ℕ) → pointwise nat_eq x y ≡ same_bytes x y
unfolding same_bytes
compared [] [] = refl
compared [] (b ∷ y) = refl
compared (a ∷ x) [] = refl
compared (a ∷ x) (b ∷ y) = ap (λ t. nat_eq a b && t) (compared x y)
