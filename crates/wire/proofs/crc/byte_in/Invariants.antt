-- `crc::byte_in` meets its contract. The invariant: as many shifts as there were turns. Assumes nothing.
use Rattle.std.proofs.Common.{◌≡◌}
use Rattle.model.specs.Signature.{added, shifted_by}
use Rattle.wire.proofs.crc.byte_in.Given as goal

abbrev pub invariant-loop : goal.invariant-loop
invariant-loop l = l.r ≡ shifted_by l.counter (added l.c l.x)
