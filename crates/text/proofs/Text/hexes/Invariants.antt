-- `Text::hexes`: the first bytes are written. Assumes nothing.
use Rattle.std.proofs.Common.{◌*◌, take}
use Rattle.model.specs.Program.{hex_bytes}
use Rattle.text.specs.Written.{Wrote}
use Rattle.text.proofs.Text.hexes.Given as goal

abbrev pub invariant-loop-b : goal.invariant-loop-b
invariant-loop-b l = Wrote (2 * l.b-index) (hex_bytes (take l.b-index l.s)) l.initial.self l.self
