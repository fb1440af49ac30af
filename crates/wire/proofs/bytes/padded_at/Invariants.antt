-- `bytes::padded_at` meets its contract. The invariant: the bytes below i are read. Assumes nothing.
use Rattle.std.proofs.Common.{◌≡◌, ℕ, ◌+◌, ◌<◌, length, get_or}
use Rattle.model.specs.Bytes.{byte_at}
use Rattle.wire.proofs.bytes.padded_at.Given as goal

abbrev pub invariant-loop-i : goal.invariant-loop-i
invariant-loop-i g l = record {
  long : length l.bytes ≡ g.row.N;
  read : (k : ℕ) → k < l.i → get_or l.bytes k 0 ≡ byte_at (l.at + k) l.s;
}
