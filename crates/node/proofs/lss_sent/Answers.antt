-- `node::lss_sent` meets its contract: by whether the request is served. Assumes nothing.
use mathlib.Core.Path.{refl, ◌∙◌}
use borrow.Author.Tests.{eq-eqb, ne_eqb}
use Rattle.model.specs.Step as Step
use Rattle.wire.proofs.Lay.{start}
use Rattle.output.proofs.Ticks.{laid_as}
use Rattle.node.proofs.lss_sent.Goals as goal

pub returns-then-s-eq-PRE_OPERATIONAL : goal.returns-then-s-eq-PRE_OPERATIONAL
unfolding Step.reply Step.heard
returns-then-s-eq-PRE_OPERATIONAL c =
    let sent = c.replied.ensures in
    rw (eq-eqb _ _ c.if-s-eq-PRE_OPERATIONAL.true)
    (record { laid = laid_as sent.laid c.lss_reply.ensures; core = sent.core ∙ c.lss_served.ensures })

pub returns : goal.returns
unfolding Step.reply Step.heard
returns c = rw (ne_eqb _ _ c.if-s-eq-PRE_OPERATIONAL.false) (record { laid = start _; core = refl })
