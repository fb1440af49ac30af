-- `load::load_a` meets its contract, by what is decoded. Assumes nothing.
use Rattle.store.proofs.load.load_a.Goals as goal

pub returns : goal.returns
returns c = c.decode.ensures c.args.k
