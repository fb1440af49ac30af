-- `Run::to_end` meets its contract: all that is handed over is the definition's text. Assumes nothing.
use Rattle.events.proofs.Output.{all_handed}
use Rattle.events.proofs.Run.to_end.Goals as goal

pub returns : goal.returns
returns c = all_handed c.whole_run-run.ensures c.close.ensures
