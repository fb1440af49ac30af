-- A call that is not refused: the output has room, the store has its size, and the state keeps the rules. Assumes nothing.
use mathlib.Core.Path.{◌≡◌, refl}
use mathlib.Core.Bool.{true}
use mathlib.Core.List.{List}
use Prim.Native.Nat.{ℕ, ◌≤◌}
use borrow.Author.Tests.{eqb-true, ltb-false, not-false}
use Rattle.model.specs.declared.State.{State}
use Rattle.model.specs.Rules.{rules}
use Rattle.model.specs.Step.{refusal, power_on_refusal}
use Rattle.laws.proofs.Tests.{hit_zero}

pub record Lent (out st : ℕ) : Type 0 where
  pub room : 48 ≤ out
  pub size : st ≡ 64

pub lent : (out st : ℕ) → power_on_refusal out st ≡ 0 → Lent out st
unfolding power_on_refusal
lent out st h =
    let n = hit_zero _ refl h in
    record { room = ltb-false out 48 n.0; size = eqb-true st 64 (not-false _ n.1.0) }

pub record Accepted (s : State) (out st : ℕ) : Type 0 where
  pub lent : Lent out st
  pub kept : rules s ≡ true

pub accepted : (e : List ℕ) (s : State) (out st : ℕ) → refusal e s out st ≡ 0 → Accepted s out st
unfolding refusal
accepted e s out st h =
    let n = (hit_zero _ refl h).1.1.1 in
    record {
      lent = record { room = ltb-false out 48 n.0; size = eqb-true st 64 (not-false _ n.1.0) };
      kept = not-false _ n.1.1.0;
    }
