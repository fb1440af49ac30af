-- Choices: of several tests the first that holds decides. Document 01 words its refusals and its write checks so. Assumes nothing.
use Rattle.std.specs.Prelude.{Bool, cond, List, [], ◌∷◌}

infix 20 ◌⇒◌
-- a test, and what it gives
pub data Arm (A : Type 0) : Type 0 where
  ◌⇒◌ : Bool → A → Arm A

-- what the first test that holds gives, or else `otherwise`
unfoldable pub first_hit : {A : Type 0} → List (Arm A) → A → A
first_hit [] otherwise = otherwise
first_hit ((test ⇒ x) ∷ arms) otherwise = cond test x (first_hit arms otherwise)
