-- The numbers of the refusals: each row of the table by its name. Assumes nothing.
use Rattle.std.specs.Prelude.{ℕ, Result, Ok, Err}
use Rattle.model.specs.Step.{done, not_an_event, unknown_kind, bad_frame, short_output, wrong_store, broken_state}
use Rattle.rules.specs.declared.Reason.{Reason}
use Rattle.rules.specs.declared.Reason.TheVariants.{NotAnEvent, UnknownKind, BadFrame, ShortOutput, WrongStore, BrokenState}

-- the number of a row
abbrev pub number_of : Reason → ℕ
number_of NotAnEvent = not_an_event
number_of UnknownKind = unknown_kind
number_of BadFrame = bad_frame
number_of ShortOutput = short_output
number_of WrongStore = wrong_store
number_of BrokenState = broken_state

-- the number that a call is answered with: done where it is not refused
abbrev pub numbered : Result Unit Reason → ℕ
numbered (Ok _) = done
numbered (Err r) = number_of r
