-- Loads: the factory block, and the groups one after the other. Assumes nothing.
use Prim.Native.Nat.{ℕ}
use mathlib.Core.Path.{◌≡◌, refl}
use mathlib.Core.List.{List, [], ◌++◌}
use native.Mathlib.Omega.{arith}
use lib.ListN.{length, length-append}
use Rattle.model.specs.declared.Parameter.{Parameter}
use Rattle.model.specs.declared.Parameter.TheVariants.{P1017, P1301s1, P1301s2, P1301s3, P1301s5, P1301s6, P1800s2, P1800s5, P13FE, P13FF, P2330, P6121, P6123, P6124, P6132, P51FE, P51FF}
use Rattle.model.specs.declared.Group.TheVariants.{C, A}
use Rattle.model.specs.declared.Groups.{Groups}
use Rattle.model.specs.declared.Groups.TheVariants.{Both, OnlyC, OnlyA}
use Rattle.model.specs.declared.Change.TheVariants.{Load}
use Rattle.model.specs.declared.Settings.{Settings}
use Rattle.model.specs.Settings.{in_force, altered, made}
use Rattle.model.specs.Store.{Saved, default_for, factory, group_of, group_from, loaded}
use Rattle.model.specs.Changes.{effect, applied}
use Rattle.wire.specs.Put.{put}
use Rattle.wire.proofs.Puts.{starts_none, starts_more, starts_all}
use Rattle.records.specs.Decoded.{from_record}
use Rattle.store.specs.Saved.{for_id}

-- ---- The defaults, as settings and back

default_at : (id : ℕ) (p : Parameter) → in_force (made (default_for id)) p ≡ default_for id p
default_at id P1017 = refl
default_at id P1301s1 = refl
default_at id P1301s2 = refl
default_at id P1301s3 = refl
default_at id P1301s5 = refl
default_at id P1301s6 = refl
default_at id P1800s2 = refl
default_at id P1800s5 = refl
default_at id P13FE = refl
default_at id P13FF = refl
default_at id P2330 = refl
default_at id P6121 = refl
default_at id P6123 = refl
default_at id P6124 = refl
default_at id P6132 = refl
default_at id P51FE = refl
default_at id P51FF = refl

pub defaults_in_force : (id : ℕ) → in_force (made (default_for id)) ≡ default_for id
defaults_in_force id = λ i p. default_at id p i

-- two writes of a block, each where the other ends
pub block : (s s₁ s₂ c a : List ℕ) → s₁ ≡ put 0 c s → s₂ ≡ put 21 a s₁ → length s ≡ 38 → length c ≡ 21 → length a ≡ 17 → s₂ ≡ c ++ a
block s s₁ s₂ c a e₁ e₂ e lc la =
    starts_all (c ++ a) s₂ 38
    (starts_more c a s₁ s₂ 38 21 (starts_more [] c s s₁ 38 0 (starts_none s 38 e) refl (omega arith) e₁) (omega arith) (omega arith) e₂)
    (omega (arith, length-append c a))

-- ---- The groups, each from its part, with the factory block for the active ID

pub only_c : {gs : Groups} (id : ℕ) (k : Settings) (sv : Saved) (block r : List ℕ) → gs ≡ OnlyC → block ≡ factory id
    → r ≡ group_of C block sv → altered (for_id C id r) k ≡ applied (Load gs id) k sv
unfolding applied effect loaded group_from
only_c id k sv block r e f g = rw (e, g, f)

pub only_a : {gs : Groups} (id : ℕ) (k : Settings) (sv : Saved) (block r : List ℕ) → gs ≡ OnlyA → block ≡ factory id
    → r ≡ group_of A block sv → altered (from_record A r) k ≡ applied (Load gs id) k sv
unfolding applied effect loaded group_from
only_a id k sv block r e f g = rw (e, g, f)

pub both : {gs : Groups} (id : ℕ) (k : Settings) (sv : Saved) (block r q : List ℕ) → gs ≡ Both → block ≡ factory id
    → r ≡ group_of C block sv → q ≡ group_of A block sv
    → altered (from_record A q) (altered (for_id C id r) k) ≡ applied (Load gs id) k sv
unfolding applied effect loaded group_from
both id k sv block r q e f g h = rw (e, g, h, f)
