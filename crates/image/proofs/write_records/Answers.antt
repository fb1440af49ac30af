-- `write_records` meets its contract: a writer that goes from front to end, in four writes. Assumes nothing.
use Rattle.image.proofs.Writes.{records_law}
use Rattle.image.proofs.write_records.Goals as goal

pub returns : goal.returns
returns c =
    let r = c.args.r in
    records_law c.args.out.now _ _ _ _ r.n.now r.c.now r.a.now c.told-out c.requires
    c.copy.ensures c.copy-2.ensures c.copy-3.ensures c.zeros.ensures
