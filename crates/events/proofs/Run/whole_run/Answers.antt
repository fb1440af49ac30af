-- `Run::whole_run` meets its contract: the run begins with the power-on and goes on with all that was read. Assumes nothing.
use Rattle.std.proofs.Common.{refl}
use Rattle.events.proofs.Output.{whole_run}
use Rattle.events.proofs.Run.whole_run.Goals as goal

pub returns : goal.returns
returns c = whole_run _ c.begin-turn.ensures refl refl refl refl refl c.requires c.input.ensures
