-- `Run::close` meets its contract: the last line stands behind what stays, and both are handed over. Assumes nothing.
use Rattle.std.proofs.Common.{refl, inr}
use Rattle.events.specs.Reads.{waits}
use Rattle.events.proofs.Going.{text_written, ended}
use Rattle.events.proofs.Run.close.Goals as goal

pub hand_over_all-requires : goal.hand_over_all-requires
hand_over_all-requires c =
    record { all = refl; due = inr (waits c.with_room.new.self, text_written c.end_line.ensures) }

pub returns : goal.returns
returns c = ended c.with_room.ensures c.end_line.ensures
