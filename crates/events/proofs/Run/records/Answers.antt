-- `Run::records` meets its contract: whole records are cut off, and what is left is a short one or nothing. Assumes nothing.
use Rattle.std.proofs.Common.{sym, ◌∙◌, arith}
use Rattle.std.proofs.lemmas.Bool.{eqb-false, eqb-true}
use Rattle.events.proofs.Going.{far_none, far_cut, far_all, far_last}
use Rattle.events.proofs.Run.records.Goals as goal

pub loop-rest-init : goal.loop-rest-init
loop-rest-init c = far_none _ _

pub loop-rest-preserved : goal.loop-rest-preserved
loop-rest-preserved c = far_cut c.loop-rest.invariant c.loop-rest-test.true c.one.ensures

pub returns-then-not-is_empty : goal.returns-then-not-is_empty
returns-then-not-is_empty c =
    far_last c.loop-rest.invariant (omega (arith, c.loop-rest-test.false)) (eqb-false _ 0 (sym c.is_empty.ensures ∙ c.if-not-is_empty.true))
    c.one-then-not-is_empty.ensures

pub returns-else-not-is_empty : goal.returns-else-not-is_empty
returns-else-not-is_empty c = far_all c.loop-rest.invariant (eqb-true _ 0 (sym c.is_empty.ensures ∙ c.if-not-is_empty.false))
