-- `write::save` meets its contract: the records of the values in force. Assumes nothing.
use Rattle.model.specs.Store.{record_of, renewed}
use Rattle.store.proofs.write.save.Goals as goal

pub returns : goal.returns
unfolding renewed record_of
returns c = rw (c.encode-a.ensures c.args.k, c.encode-c.ensures c.args.k) at c.renew.ensures
