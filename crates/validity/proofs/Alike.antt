-- The ranges of a group: what code tests at once is what the table says row by row. Assumes nothing.
use mathlib.Core.Path.{◌≡◌, refl}
use mathlib.Core.Bool.{Bool, cond, ◌&&◌, and-true, and_assoc}
use Prim.Native.Nat.{◌≤◌}
use lib.Dec.{leb, leb-zero}
use borrow.Author.Tests.{le-leb}
use Rattle.model.specs.declared.Verdict.TheVariants.{Inside, Outside, Above, Below}
use Rattle.model.specs.declared.Group.TheVariants.{C, A}
use Rattle.model.specs.declared.Settings.{Settings}
use Rattle.model.specs.Reading.{judge_real}
use Rattle.model.specs.Settings.{odd_cob, even_cob, tpdo_type, rows, in_force, judge, is_inside, in_ranges}
use Rattle.reading.proofs.Ranges.{tested}

-- a verdict by one test
above : (b : Bool) → is_inside (cond b Inside Above) ≡ b
above b = tested b Above refl

below : (b : Bool) → is_inside (cond b Inside Below) ≡ b
below b = tested b Below refl

outside : (b : Bool) → is_inside (cond b Inside Outside) ≡ b
outside b = tested b Outside refl

-- C, by the rows that have a range; 1301h:2 and 1301h:3 end where their types do
pub ranges_c : (k : Settings) → k.communication.srdo.refresh ≤ 65535 → k.communication.srdo.validation ≤ 255
    → (leb k.communication.srdo.direction 1
    && leb 1 k.communication.srdo.refresh
    && leb 1 k.communication.srdo.validation
    && odd_cob k.communication.srdo.first
    && even_cob k.communication.srdo.second
    && tpdo_type k.communication.tpdo.kind)
    ≡ in_ranges (rows C) (in_force k)
unfolding rows in_ranges judge
ranges_c k r v =
    let s = k.communication.srdo in
    simp (le-leb s.refresh 65535 r, le-leb s.validation 255 v, leb-zero, above, below, outside, and-true, and_assoc)

-- and A
pub ranges_a : (k : Settings)
    → (leb k.application.autostart 1
    && is_inside (judge_real k.application.scaling.low)
    && is_inside (judge_real k.application.scaling.high)
    && is_inside (judge_real k.application.scaling.offset)
    && leb k.application.digits 4)
    ≡ in_ranges (rows A) (in_force k)
unfolding rows in_ranges judge
ranges_a k = simp (leb-zero, above, and-true, and_assoc)
