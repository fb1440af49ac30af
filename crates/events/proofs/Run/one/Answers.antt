-- `Run::one` meets its contract: room, the number, and the call's lines behind what stays. Assumes nothing.
use Rattle.std.proofs.Common.{refl}
use Rattle.events.proofs.Going.{one_went}
use Rattle.events.proofs.Run.one.Goals as goal

pub returns : goal.returns
returns c = one_went c.with_room.ensures c.call-turn.ensures refl refl refl refl
