-- `bytes::copy` meets its contract. The invariant: the first j bytes of src are stored in dst. Assumes nothing.
use Rattle.std.proofs.Common.{◌≡◌, take}
use Rattle.wire.proofs.Numbers.{stores}
use Rattle.wire.proofs.bytes.copy.Given as goal

abbrev pub invariant-loop-j : goal.invariant-loop-j
invariant-loop-j l = l.dst ≡ stores l.initial.dst l.at (take l.j l.src)
