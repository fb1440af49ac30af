-- `rules::refusal` meets its contract: the rows of the table in turn, by what the part before them answered. Assumes nothing.
use Rattle.std.proofs.Common.{rules, ◌≡◌, refl, sym, ◌∙◌, ℕ, Bool, true, false, not, ◌||◌, ◌&&◌, List, [], ◌∷◌, ◌++◌, cond}
use lib.Dec.{eqb}
use Rattle.model.specs.declared.State.{State}
use Rattle.model.specs.Choice.{Arm, ◌⇒◌, first_hit}
use Rattle.model.specs.Rules as Rules
use Rattle.model.specs.Step as Step
use Rattle.laws.proofs.Tests.{telling, and_r}
use Rattle.rules.specs.declared.Reason.{Reason}
use Rattle.rules.specs.Numbers.{number_of}
use Rattle.rules.proofs.Rows.{a_row}
use Rattle.rules.proofs.refusal.Goals as goal

-- the rows of two parts: those of the second where none of the first applies
in_turn : (xs ys : List (Arm ℕ)) (n : ℕ) → telling xs ≡ true → n ≡ first_hit xs 0 → first_hit (xs ++ ys) 0 ≡ cond (eqb n 0) (first_hit ys 0) n
unfolding first_hit
in_turn [] ys n t h = rw h
in_turn ((true ⇒ x) ∷ arms) ys n t h = rw h (first x (telling arms) t)
  where
    first : (x : ℕ) (b : Bool) → (not (eqb x 0) || false) && b ≡ true → x ≡ cond (eqb x 0) (first_hit ys 0) x
    first x b t = go (eqb x 0) t
      where
        go : (z : Bool) → (not z || false) && b ≡ true → x ≡ cond z (first_hit ys 0) x
        go true t = cc
        go false t = refl
in_turn ((false ⇒ x) ∷ arms) ys n t h = in_turn arms ys n (and_r (not (eqb x 0) || true) (telling arms) t) h

module _ (e : List ℕ) (s : State) (out st : ℕ) where
  by_event : (r : Reason) → number_of r ≡ first_hit (Step.by_event e) 0 → number_of r ≡ Step.refusal e s out st
  unfolding Step.refusal
  by_event r h = sym (in_turn (Step.by_event e) _ _ refl h ∙ rw (a_row r))

  -- where the event's own rows don't apply, what is lent and the state decide
  on : 0 ≡ first_hit (Step.by_event e) 0 → Step.refusal e s out st ≡ first_hit (Step.by_output out ++ (Step.by_store st ++ Step.by_state s)) 0
  unfolding Step.refusal
  on h = in_turn (Step.by_event e) _ _ refl h

  by_lent : 0 ≡ first_hit (Step.by_event e) 0 → (r : Reason) → number_of r ≡ Step.power_on_refusal out st → number_of r ≡ Step.refusal e s out st
  unfolding Step.power_on_refusal
  by_lent h r k = sym (on h ∙ in_turn (Step.by_output out ++ Step.by_store st) (Step.by_state s) _ refl k ∙ rw (a_row r))

  by_state : 0 ≡ first_hit (Step.by_event e) 0 → 0 ≡ Step.power_on_refusal out st → (kept : Bool) → kept ≡ Rules.rules s → cond (not kept) 6 0 ≡ Step.refusal e s out st
  unfolding Step.power_on_refusal first_hit
  by_state h k kept r = rw r (sym (on h ∙ in_turn (Step.by_output out ++ Step.by_store st) (Step.by_state s) _ refl k))

pub returns-in_err-event_refusal : goal.returns-in_err-event_refusal
returns-in_err-event_refusal c =
    let a = c.args in
    let h = by_event a.event.now a.s a.out a.store _ c.in_err-event_refusal.ensures in
    search rules

pub returns-in_err-power_on_refusal : goal.returns-in_err-power_on_refusal
returns-in_err-power_on_refusal c =
    let a = c.args in
    let h = by_lent a.event.now a.s a.out a.store c.in_ok-event_refusal.ensures _ c.in_err-power_on_refusal.ensures in
    search rules

pub returns-then-not-rules : goal.returns-then-not-rules
returns-then-not-rules c =
    let a = c.args in
    by_state a.event.now a.s a.out a.store c.in_ok-event_refusal.ensures c.in_ok-power_on_refusal.ensures false c.if-not-rules.ensures

pub returns : goal.returns
returns c =
    let a = c.args in
    by_state a.event.now a.s a.out a.store c.in_ok-event_refusal.ensures c.in_ok-power_on_refusal.ensures true c.if-not-rules.ensures
