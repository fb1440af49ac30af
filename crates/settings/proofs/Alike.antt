-- What code does at once is what the table says byte by byte: a value's bytes with zeros after them. Assumes nothing.
use mathlib.Core.Path.{◌≡◌}
use Prim.Native.Nat.{ℕ}
use native.Mathlib.Omega.{arith}
use Rattle.std.proofs.lemmas.Grind.{common_steps}
use Rattle.model.specs.declared.Value.{Value}
use Rattle.model.specs.Bytes.{byte_at}
use Rattle.model.specs.Values.{encoded}
use Rattle.settings.specs.Four.{four_bytes}

-- each of the four bytes that `encode` gives is that byte of the value, and 0 past the value's own
pub four_bytes_lem : (v : Value) (i : ℕ) → byte_at i (four_bytes v) ≡ byte_at i (encoded v)
unfolding four_bytes
four_bytes_lem v i = grind (arith, common_steps)
