-- An honest group vouches only where it is valid. Assumes nothing.
use mathlib.Core.Path.{sym}
use Rattle.validity.proofs.Parameters.is_honest.Goals as goal

pub returns-else-not-vouches : goal.returns-else-not-vouches
returns-else-not-vouches g c = λ k. rw (c.is_valid.ensures k, sym (c.vouches.ensures k), c.if-not-vouches.false)
