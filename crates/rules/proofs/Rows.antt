-- No row of the table of refusals has the number of a call that is done. Assumes nothing.
use Rattle.std.proofs.Common.{◌≡◌, refl, false}
use lib.Dec.{eqb}
use borrow.Author.Tests.{eqb-false}
use Rattle.rules.specs.declared.Reason.{Reason}
use Rattle.rules.specs.declared.Reason.TheVariants.{NotAnEvent, UnknownKind, BadFrame, ShortOutput, WrongStore, BrokenState}
use Rattle.rules.specs.Numbers.{number_of}

pub a_row : (r : Reason) → eqb (number_of r) 0 ≡ false
a_row NotAnEvent = refl
a_row UnknownKind = refl
a_row BadFrame = refl
a_row ShortOutput = refl
a_row WrongStore = refl
a_row BrokenState = refl

pub not_done : (r : Reason) → number_of r ≡ 0 → ⊥
not_done r e = eqb-false (number_of r) 0 (a_row r) e
