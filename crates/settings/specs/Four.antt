-- A value of up to four bytes, in four. Assumes nothing.
use Rattle.std.specs.Prelude.{ℕ, ◌-◌, List, ◌++◌, replicate}
use Rattle.model.specs.declared.Value.{Value}
use Rattle.model.specs.Values.{width_of, kind_of, encoded}

-- a value's bytes, and zeros after them
unfoldable pub four_bytes : Value → List ℕ
four_bytes v = encoded v ++ replicate (4 - width_of (kind_of v)) 0
