-- `node::wake` meets its contract: a load from the state before a power-on, which keeps the rules. Assumes nothing.
use mathlib.Core.Path.{refl, ap}
use Rattle.model.specs.declared.Address.{Address}
use Rattle.model.specs.declared.Change.TheVariants.{Load}
use Rattle.model.specs.declared.Groups.TheVariants.{Both}
use Rattle.model.specs.declared.Service.TheVariants as Service
use Rattle.model.specs.Step as Step
use Rattle.node.proofs.Outcomes.{suits_load, fit_awake, load_leaves, gives_served, of_change}
use Rattle.node.proofs.wake.Goals as goal

pub turned-requires : goal.turned-requires
unfolding Step.heard
turned-requires c =
    let loads = rw c.read-contents.ensures at (ap (λ (a : Address). Load Both a.id) c.address.ensures) in (
      record {
        asks = Service.Nothing;
        heard = refl;
        suits = suits_load _ _ loads;
        sizes = rw c.read-contents.ensures at c.read-contents.result.kept;
        after = rw c.unborn-s.ensures (fit_awake c.args.identity _ _ loads);
      },
      c.requires,
    )

pub returns : goal.returns
unfolding Step.power_on Step.reply Step.heard
returns c =
    let i = c.args.identity in
    let st = c.args.store.now in
    let loads = rw c.read-contents.ensures at (ap (λ (a : Address). Load Both a.id) c.address.ensures) in
    of_change Service.Nothing (Step.unborn i) st _ loads
    (gives_served _ Service.Nothing (Step.unborn i) st refl refl refl refl (load_leaves i st _ loads)
    (rw c.unborn-s.ensures at (c.turned.ensures Service.Nothing refl)))
