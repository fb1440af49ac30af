-- The number of one byte is that byte. Assumes nothing.
use Prim.Native.Nat.{ℕ}
use mathlib.Core.Path.{◌≡◌}
use mathlib.Core.List.{List}
use lib.ListN.{get_or}
use native.Mathlib.Omega.{arith}
use Rattle.model.specs.Bytes.{as_number, part}
use Rattle.wire.proofs.Numbers.{get_law}

pub one_byte : (at : ℕ) (l : List ℕ) → as_number (part at 1 l) ≡ get_or l at 0
one_byte at l = omega (arith, get_law 1 at l)
