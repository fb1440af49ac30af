-- One answer: for every input the promise of a public call leaves no second one, refusals included. Number, count, state, output and store are
-- each a function of the inputs. Assumes nothing.
use mathlib.Core.Path.{◌≡◌, sym, ◌∙◌}
use mathlib.Core.List.{List}
use Prim.Native.Nat.{ℕ}
use Rattle.model.specs.declared.Identity.{Identity}
use Rattle.model.specs.declared.State.{State}
use Rattle.model.specs.declared.Answer.{Answer}
use Rattle.model.specs.Step.{Answered, event_answer, power_on_answer, Gives}

-- all that a call hands back and leaves
abbrev whole : Answer → List ℕ → List ℕ → Answered
whole r ys zs = record { answer = r; output = ys; store = zs }

is_whole : {o : Answered} {r : Answer} {ys zs : List ℕ} → Gives o r ys zs → whole r ys zs ≡ o
is_whole g = λ i. record { answer = g.answer i; output = g.output i; store = g.store i }

pub one_answer : (e : List ℕ) (s : State) (out st : List ℕ) {r q : Answer} {ys zs ys' zs' : List ℕ}
    → Gives (event_answer e s out st) r ys zs → Gives (event_answer e s out st) q ys' zs' → whole r ys zs ≡ whole q ys' zs'
one_answer e s out st g h = is_whole g ∙ sym (is_whole h)

pub one_power_on : (i : Identity) (out st : List ℕ) {r q : Answer} {ys zs ys' zs' : List ℕ} → Gives (power_on_answer i out st) r ys zs
    → Gives (power_on_answer i out st) q ys' zs' → whole r ys zs ≡ whole q ys' zs'
one_power_on i out st g h = is_whole g ∙ sym (is_whole h)
