-- What a change does to the saved parameters, said once: whatever holds of a value that is written, of 0 in a validity byte and of the values that
-- are loaded holds of every value that a change brings. Assumes nothing.
use mathlib.Core.Path.{◌≡◌, sym, subst}
use mathlib.Core.Bool.{true, ◌&&◌}
use Rattle.model.specs.declared.Value.{Value}
use Rattle.model.specs.declared.Value.TheVariants.{U8}
use Rattle.model.specs.declared.Parameter.{Parameter}
use Rattle.model.specs.declared.Group.{Group}
use Rattle.model.specs.declared.Change.{Change}
use Rattle.model.specs.declared.Change.TheVariants.{Keep, Write, Save, TakeOut, Load, SavePending}
use Rattle.model.specs.declared.Settings.{Settings}
use Rattle.model.specs.Settings.{row, same, has, in_force, Now, stays, becomes}
use Rattle.model.specs.Validity.{validity_of, revokes, changes}
use Rattle.model.specs.Store.{Saved, loaded}
use Rattle.model.specs.Changes.{effect, applied}
use Rattle.laws.proofs.Tests.{cond_case, and_l, and_r}
use Rattle.laws.proofs.Parameters.{same_eq, Typed, zero_fine, after, Becomes, altered_is}

-- P of each value that a change brings
abbrev pub Brings : (Parameter → Value → Type 0) → Saved → Change → Type 0
Brings P sv Keep = Unit {0}
Brings P sv (Write p v) = P p v
Brings P sv (Save gs) = Unit {0}
Brings P sv (TakeOut gs) = Unit {0}
Brings P sv (Load gs id) = (q : Parameter) → P q (loaded id sv q)
Brings P sv SavePending = Unit {0}

pub brings_map : (P Q : Parameter → Value → Type 0) → ((q : Parameter) (v : Value) → P q v → Q q v) → (sv : Saved) (c : Change)
    → Brings P sv c → Brings Q sv c
brings_map P Q f sv Keep h = tt
brings_map P Q f sv (Write p v) h = f p v h
brings_map P Q f sv (Save gs) h = tt
brings_map P Q f sv (TakeOut gs) h = tt
brings_map P Q f sv (Load gs id) h = λ q. f q (loaded id sv q) (h q)
brings_map P Q f sv SavePending h = tt

-- a forced change is one of a validity byte
pub revokes_validity : (p q : Parameter) → revokes p q ≡ true → same q (validity_of (row p).group) ≡ true
unfolding revokes
revokes_validity p q h = and_l _ _ h

-- the values after a change
abbrev pub new : Change → Settings → Saved → Parameter → Value
new c k sv q = after (effect c k sv q) (in_force k q)

module _ (P : Parameter → Value → Type 0) (zero : (g : Group) → P (validity_of g) (U8 0)) (k : Settings) (sv : Saved) where
  zero_in : (q : Parameter) (g : Group) → same q (validity_of g) ≡ true → P q (U8 0)
  zero_in q g e = subst (λ (p : Parameter). P p (U8 0)) (sym (same_eq q (validity_of g) e)) (zero g)

  pub effect_is : (c : Change) → Brings P sv c → (q : Parameter) → Becomes P q (effect c k sv q)
  unfolding effect
  effect_is Keep h q = tt
  effect_is (Write p v) h q =
      cond_case (Becomes P q) (same q p) (λ e. subst (λ (x : Parameter). P x v) (sym (same_eq q p e)) h)
      (λ _. cond_case (Becomes P q) (revokes p q && changes p v (in_force k))
      (λ e. zero_in q (row p).group (revokes_validity p q (and_l _ (changes p v (in_force k)) e))) (λ _. tt))
  effect_is (Save gs) h q = tt
  effect_is (TakeOut gs) h q =
      cond_case (Becomes P q) (has gs (row q).group && same q (validity_of (row q).group))
      (λ e. zero_in q (row q).group (and_r (has gs (row q).group) _ e)) (λ _. tt)
  effect_is (Load gs id) h q = cond_case (Becomes P q) (has gs (row q).group) (λ _. h q) (λ _. tt)
  effect_is SavePending h q = tt

  after_is : (q : Parameter) (n : Now) (v : Value) → Becomes P q n → P q v → P q (after n v)
  after_is q stays v h i = i
  after_is q (becomes w) v h i = h

  pub new_is : (c : Change) → Brings P sv c → ((q : Parameter) → P q (in_force k q)) → (q : Parameter) → P q (new c k sv q)
  new_is c h i q = after_is q (effect c k sv q) (in_force k q) (effect_is c h q) (i q)

zero_typed : (g : Group) → Typed (validity_of g) (U8 0)
zero_typed g = (zero_fine g).fits.kind

-- and these are in force then
pub applied_new : (c : Change) (k : Settings) (sv : Saved) → Brings Typed sv c → (q : Parameter) → in_force (applied c k sv) q ≡ new c k sv q
unfolding applied
applied_new c k sv h q = altered_is (effect c k sv) k (effect_is Typed zero_typed k sv c h) q
