-- A sound group meets its definition, by the two calls. Assumes nothing.
use Rattle.model.specs.Validity.{sound}
use Rattle.validity.proofs.Parameters.is_sound.Goals as goal

pub returns : goal.returns
unfolding sound
returns g c = λ k. rw (c.in_range.ensures k, c.is_honest.ensures k)
