-- `saved::Contents::records` meets its contract: the sizes are those of what is saved. Assumes nothing.
use Rattle.store.proofs.Parts.{saved_in}
use Rattle.store.proofs.saved.Contents.records.Goals as goal

pub returns : goal.returns
returns c = saved_in _ _ _ c.args.self.kept c.records.ensures
