-- A write in the two steps in which code makes it, parameter by parameter, is the one that the table's formula gives. Assumes nothing.
use mathlib.Core.Path.{◌≡◌, refl}
use mathlib.Core.Bool.{true, false, ◌&&◌}
use Rattle.std.proofs.Math.Bool.{and-true}
use Rattle.std.proofs.lemmas.Bool.{and_right}
use borrow.Author.Tests.{eq-eqb, ne_eqb}
use Rattle.model.specs.declared.Value.{Value}
use Rattle.model.specs.declared.Parameter.{Parameter}
use Rattle.model.specs.declared.Parameter.TheVariants.{P1017, P1301s1, P1301s2, P1301s3, P1301s5, P1301s6, P1800s2, P1800s5, P13FE, P13FF, P2330, P6121, P6123, P6124, P6132, P51FE, P51FF}
use Rattle.model.specs.declared.Change.TheVariants.{Write}
use Rattle.model.specs.declared.Settings.{Settings}
use Rattle.model.specs.Values.{number_of}
use Rattle.model.specs.Settings.{in_force}
use Rattle.model.specs.Validity.{revokes, changes}
use Rattle.model.specs.Store.{nothing}
use Rattle.model.specs.Changes.{effect, applied}
use Rattle.settings.specs.Put.{put, revoke}

-- a write in two steps
abbrev pub two_steps : Parameter → Value → Settings → Settings
two_steps p v k = let b = changes p v (in_force k) in revoke (revokes p P13FE && b) (revokes p P51FE && b) (put p v k)

pub in_two_steps : (p : Parameter) (v : Value) (k : Settings) → two_steps p v k ≡ applied (Write p v) k nothing
unfolding put revoke revokes effect applied
in_two_steps P1017 v k = refl
in_two_steps P1301s1 v k = refl
in_two_steps P1301s2 v k = refl
in_two_steps P1301s3 v k = refl
in_two_steps P1301s5 v k = refl
in_two_steps P1301s6 v k = refl
in_two_steps P1800s2 v k = refl
in_two_steps P1800s5 v k = refl
in_two_steps P13FE v k = refl
in_two_steps P13FF v k = refl
in_two_steps P2330 v k = refl
in_two_steps P6121 v k = refl
in_two_steps P6123 v k = refl
in_two_steps P6124 v k = refl
in_two_steps P6132 v k = refl
in_two_steps P51FE v k = refl
in_two_steps P51FF v k = refl

-- a write of what is in force revokes nothing
pub unchanged : (p : Parameter) (v : Value) (k : Settings) → number_of v ≡ number_of (in_force k p) → put p v k ≡ applied (Write p v) k nothing
unfolding revoke
unchanged p v k e =
    let b : changes p v (in_force k) ≡ false = rw (eq-eqb _ _ e) in
    rw (b, and_right (revokes p P13FE) false refl, and_right (revokes p P51FE) false refl) at (in_two_steps p v k)

-- any other revokes what p revokes
pub changed : (p : Parameter) (v : Value) (k : Settings) → (number_of v ≡ number_of (in_force k p) → ⊥)
    → revoke (revokes p P13FE) (revokes p P51FE) (put p v k) ≡ applied (Write p v) k nothing
changed p v k n =
    let b : changes p v (in_force k) ≡ true = rw (ne_eqb _ _ n) in
    rw (b, and-true (revokes p P13FE), and-true (revokes p P51FE)) at (in_two_steps p v k)
