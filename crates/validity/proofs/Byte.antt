-- A byte that std makes of a number of one byte is the model's. Assumes nothing.
use Prim.Native.Nat.{ℕ, ◌<◌}
use mathlib.Core.Path.{◌≡◌}
use mathlib.Core.List.{List, [], ◌∷◌}
use lib.ListN.{get_or}
use native.Mathlib.Nat.{mod-eq_of_lt}
use Rattle.model.specs.Bytes.{low_bytes}

pub a_byte : (n : ℕ) (bs : List ℕ) → bs ≡ n ∷ [] → get_or bs 0 0 < 256 → bs ≡ low_bytes 1 n
unfolding low_bytes
a_byte n bs e in_range =
    let n_in_range : n < 256 = rw e at in_range in
    rw (mod-eq_of_lt n_in_range) e
