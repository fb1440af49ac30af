-- `node::power_on` meets its contract: refused, the state that a store of zeros gives; else what `wake` gives. Assumes nothing.
use Rattle.std.proofs.Common.{refl, sym, ap}
use Rattle.model.specs.declared.Answer.{Answer}
use Rattle.rules.proofs.Accepted.{lent}
use Rattle.rules.proofs.Rows.{not_done}
use Rattle.node.proofs.Outcomes.{power_on_done, power_on_refused}
use Rattle.node.proofs.power_on.Goals as goal

pub returns-in-Err : goal.returns-in-Err
returns-in-Err c =
    rw (c.refused.ensures, c.into.ensures)
    (power_on_refused c.args.identity _ _ _ c.in-Err.ensures (not_done c.in-Err.reason) (ap (λ (r : Answer). r.state) c.wake-woken.ensures.answer))

pub unreachable-requires : goal.unreachable-requires
unreachable-requires c = c.in_default-as_array.ensures.cases (lent _ _ (sym c.in_default.ensures)).size

pub wake-requires : goal.wake-requires
wake-requires c = (lent _ _ (sym c.in_default.ensures)).room

pub returns : goal.returns
returns c =
    power_on_done c.args.identity _ c.args.store.now _ c.in_default.ensures refl (rw c.in-Some.ensures.cases.same at c.wake.ensures)
