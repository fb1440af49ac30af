-- `node::altered` meets its contract: what is sent, and then the store. Assumes nothing.
use mathlib.Core.Path.{refl}
use Rattle.node.proofs.Outcomes.{gives_served}
use Rattle.node.proofs.altered.Goals as goal

pub returns : goal.returns
returns c =
    let a = c.args in
    λ v heard other frames.
    gives_served a.asked.change v a.s a.store.now other frames refl refl c.store_after.ensures (c.turned-answer.ensures v heard)
