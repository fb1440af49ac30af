-- What a call that is done has sent, and EMCY as a state is judged. Assumes nothing.
use Rattle.std.specs.Prelude.{ℕ, ◌≡◌, List}
use Rattle.model.specs.declared.Frame.{Frame}
use Rattle.model.specs.declared.Core.{Core}
use Rattle.model.specs.declared.State.{State}
use Rattle.model.specs.declared.Answer.{Answer}
use Rattle.model.specs.Frames.{when, frames_of}
use Rattle.model.specs.Parts.{with_core, with_reported}
use Rattle.model.specs.Time.{emcy_due, emcy_frame}
use Rattle.model.specs.Step.{done, reported_after}
use Rattle.wire.specs.Laid.{Laid}
use Rattle.output.specs.declared.Reported.{Reported}
use Rattle.output.specs.declared.Sent.{Sent}

-- these frames went out, and this state comes back
pub record Done (fs : List Frame) (t : State) (xs ys : List ℕ) (r : Answer) : Type 0 where
  pub number : r.number ≡ done
  pub laid : Laid fs xs ys r.count
  pub state : r.state ≡ t

-- the same of an event that leaves the parameters: this core comes back
pub record Leaves (fs : List Frame) (c : Core) (xs ys : List ℕ) (r : Sent) : Type 0 where
  pub laid : Laid fs xs ys r.count
  pub core : r.core ≡ c

-- EMCY where it is due, and the state with the reported flag after that
abbrev pub emcy_of : State → List Frame
emcy_of t = when (emcy_due t) (emcy_frame t)

abbrev pub reported_now : State → State
reported_now t = with_core t (with_reported t.core (reported_after (emcy_due t) t))

pub record IsReported (t : State) (r : Reported) : Type 0 where
  pub emcy : frames_of r.emcy ≡ emcy_of t
  pub reported : r.reported ≡ reported_after (emcy_due t) t
