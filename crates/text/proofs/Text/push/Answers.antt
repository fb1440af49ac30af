-- `Text::push` meets its contract: a store is a text of one byte. Assumes nothing.
use Rattle.std.proofs.Common.{length-set, refl, arith}
use Rattle.text.proofs.Joined.{one_written}
use Rattle.text.proofs.Text.push.Goals as goal

pub returns : goal.returns
returns c =
    let t = c.args.self.now in
    let long = length-set t.bytes.now t.len c.args.b in
    record { same = refl; long = long; fits = omega (arith, long, c.requires); written = one_written t.bytes.now t.len c.args.b c.requires }
