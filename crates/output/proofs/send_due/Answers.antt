-- `output::send_due` meets its contract: the four frames, as the calls make them, are those of a tick, and none where nothing is due. Assumes nothing.
use native.Mathlib.Omega.{arith}
use Rattle.wire.proofs.Lay.{start, step}
use Rattle.time.proofs.Sent.{sent_at_tick}
use Rattle.output.proofs.Ticks.{laid_as, quiet}
use Rattle.output.proofs.send_due.Goals as goal

pub returns-then-not-any : goal.returns-then-not-any
returns-then-not-any c =
    (laid_as (start _) (quiet c.args.s c.args.due c.requires.1.0 (rw c.any.ensures at c.if-not-any.true)), omega arith)

pub returns : goal.returns
returns c =
    let one = c.emit-n1.ensures in
    let two = c.emit-n2.ensures in
    let three = c.emit-n3.ensures in
    let four = c.emit.ensures in
    let sent = step (step (step (step (start _) one) two) three) four in
    (laid_as sent (cc (sent_at_tick c.args.s c.args.due _ c.requires.1.0 c.reading_of-reading.ensures)), omega (arith, one.most, two.most, three.most, four.most))
