-- The abort codes of document 01 for the aborts as code has them, and what a check says of the rest of them. Assumes nothing.
use Rattle.std.specs.Prelude.{◌≡◌, ℕ, cond, List, ◌++◌, eqb, Result, Ok, Err}
use Rattle.std.specs.Result.{result_and, result_map_both}
use Rattle.model.specs.declared.Change.{Change}
use Rattle.model.specs.Choice.{Arm, first_hit}
use Rattle.model.specs.Sdo.{wrong_toggle, unknown_command, no_object, no_sub, read_only, locked, too_long, too_short, invalid_value, too_high, too_low, wrong_word, not_valid, accepted}
use Rattle.dictionary.specs.declared.abort.AbortCode.{AbortCode}
use Rattle.dictionary.specs.declared.abort.AbortCode.TheVariants.{WrongToggle, UnknownCommand, NoObject, NoSub, ReadOnly, Locked, TooLong, TooShort, InvalidValue, TooHigh, TooLow, WrongWord, NotValid}

abbrev pub code_of : AbortCode → ℕ
code_of WrongToggle = wrong_toggle
code_of UnknownCommand = unknown_command
code_of NoObject = no_object
code_of NoSub = no_sub
code_of ReadOnly = read_only
code_of Locked = locked
code_of TooLong = too_long
code_of TooShort = too_short
code_of InvalidValue = invalid_value
code_of TooHigh = too_high
code_of TooLow = too_low
code_of WrongWord = wrong_word
code_of NotValid = not_valid

-- what code answers, with the number in the place of the abort code
abbrev pub coded : {A : Type 0} → Result A AbortCode → Result A ℕ
coded r = result_map_both (λ x. x) code_of r

-- the change where no check is broken, or else the code of the first that is
abbrev pub answered : List (Arm ℕ) → Change → Result Change ℕ
answered checks c = let code = first_hit checks accepted in cond (eqb code accepted) (Ok c) (Err code)

-- r tells whether one of these checks is broken; if none is, the rest decide
abbrev pub Tells : List (Arm ℕ) → Result Unit AbortCode → Type 0
Tells checks r = (rest : List (Arm ℕ)) (c : Change) → answered (checks ++ rest) c ≡ result_and (coded r) (answered rest c)
