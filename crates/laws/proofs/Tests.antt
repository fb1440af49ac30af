-- Small laws of tests and choices, which the theorems lean on. Assumes nothing.
use mathlib.Core.Path.{◌≡◌, refl}
use mathlib.Core.Bool.{Bool, true, false, ◌&&◌, ◌||◌, not, cond, and-eq-true_iff}
use mathlib.Core.List.{List, [], ◌∷◌}
use Prim.Native.Nat.{ℕ, ◌≤◌}
use native.Mathlib.Omega.{arith}
use lib.Dec.{eqb, leb}
use borrow.Author.Tests.{eqb-false, leb-true}
use Rattle.model.specs.Choice.{Arm, ◌⇒◌, first_hit}
use Rattle.model.specs.Bytes.{within}

-- ---- one test

-- what holds of both ways, each with its test, holds of the choice
pub cond_case : {X : Type 0} (P : X → Type 0) (b : Bool) {x y : X} → (b ≡ true → P x) → (b ≡ false → P y) → P (cond b x y)
cond_case P true f g = f refl
cond_case P false f g = g refl

pub cond_ap : {X Y : Type 0} (f : X → Y) (b : Bool) (x y : X) → f (cond b x y) ≡ cond b (f x) (f y)
cond_ap f true x y = refl
cond_ap f false x y = refl

pub and_l : (a b : Bool) → a && b ≡ true → a ≡ true
and_l a b h = ((and-eq-true_iff a b).0 h).0

pub and_r : (a b : Bool) → a && b ≡ true → b ≡ true
and_r a b h = ((and-eq-true_iff a b).0 h).1

pub and_both : (a b : Bool) → a ≡ true → b ≡ true → a && b ≡ true
and_both a b h k = (and-eq-true_iff a b).1 (h, k)

pub and_false : (b : Bool) → b && false ≡ false
and_false true = refl
and_false false = refl

-- what either gives
pub or_case : {P : Type 0} (a b : Bool) → a || b ≡ true → (a ≡ true → P) → (b ≡ true → P) → P
or_case true b h f g = f refl
or_case false b h f g = g h

-- one implies the other
pub implies : (a b : Bool) → a ≡ true → not a || b ≡ true → b ≡ true
implies a b e h = rw e at h

-- where the first fails nothing is asked of the other
pub off : (a b : Bool) → a ≡ false → not a || b ≡ true
off a b e = rw e refl

pub within_is : (lo hi n : ℕ) → within lo hi n ≡ true → (lo ≤ n) × (n ≤ hi)
within_is lo hi n h = (leb-true lo n (and_l _ (leb n hi) h), leb-true n hi (and_r (leb lo n) _ h))

-- ---- a choice

-- P of each arm, where its test holds
abbrev pub Each : {X : Type 0} → (X → Type 0) → List (Arm X) → Type 0
Each P [] = Unit {0}
Each P ((test ⇒ x) ∷ arms) = (test ≡ true → P x) × Each P arms

pub hit_case : {X : Type 0} (P : X → Type 0) (arms : List (Arm X)) (otherwise : X) → Each P arms → P otherwise → P (first_hit arms otherwise)
unfolding first_hit
hit_case P [] d h k = k
hit_case P ((true ⇒ x) ∷ arms) d h k = h.0 refl
hit_case P ((false ⇒ x) ∷ arms) d h k = hit_case P arms d h.1 k

-- no test holds
abbrev pub NoneOf : {X : Type 0} → List (Arm X) → Type 0
NoneOf [] = Unit {0}
NoneOf ((test ⇒ x) ∷ arms) = (test ≡ false) × NoneOf arms

-- no arm whose test holds gives 0
abbrev pub telling : List (Arm ℕ) → Bool
telling [] = true
telling ((test ⇒ x) ∷ arms) = (not (eqb x 0) || not test) && telling arms

zero_told : (x : ℕ) (b : Bool) → (not (eqb x 0) || false) && b ≡ true → x ≡ 0 → ⊥
zero_told x b h e = go (eqb x 0) refl h
  where
    go : (t : Bool) → eqb x 0 ≡ t → (not t || false) && b ≡ true → ⊥
    go true p q = let z : ◌≡◌ {A = ℕ} 0 1 = cc in omega arith
    go false p q = eqb-false x 0 p e

-- then 0 comes only where no test holds
pub hit_zero : (arms : List (Arm ℕ)) → telling arms ≡ true → first_hit arms 0 ≡ 0 → NoneOf arms
unfolding first_hit
hit_zero [] n h = tt
hit_zero ((true ⇒ x) ∷ arms) n h = absurd (zero_told x (telling arms) n h)
hit_zero ((false ⇒ x) ∷ arms) n h = (refl, hit_zero arms (and_r (not (eqb x 0) || true) (telling arms) n) h)
