-- What the parts of the two calls give, and what they may count on. Assumes nothing.
use Rattle.std.specs.Prelude.{ℕ, ◌≡◌, List, ◌++◌, Option}
use Rattle.model.specs.declared.Service.{Service}
use Rattle.model.specs.declared.Change.{Change}
use Rattle.model.specs.declared.Frame.{Frame}
use Rattle.model.specs.declared.Core.{Core}
use Rattle.model.specs.declared.State.{State}
use Rattle.model.specs.declared.Answer.{Answer}
use Rattle.model.specs.Frames.{frames_of}
use Rattle.model.specs.Store.{read}
use Rattle.model.specs.Parts.{with_core}
use Rattle.model.specs.Step.{done, heard, booted, changed}
use Rattle.rules.specs.Fit.{Fit}
use Rattle.output.specs.declared.Sent.{Sent}
use Rattle.output.specs.Sent.{Done, emcy_of, reported_now}
use Rattle.step.specs.declared.ask.Asked.{Asked}
use Rattle.step.specs.Asked.{SizesFor, Suits}

-- the answer of a call that has left the parameters
abbrev pub left : Sent → State → Answer
left r s = record { number = done; count = r.count; state = with_core s r.core }

-- what `turned` may count on: h is the core after some service, which the change is made with
pub record Turning (a : Asked) (h : Core) (s : State) (st : List ℕ) : Type 0 where
  pub asks : Service
  pub heard : h ≡ heard asks s
  pub suits : Suits a.change
  pub sizes : SizesFor a.change st a.sizes
  pub after : Fit (changed a.change asks s (read st))

-- what `turned` comes to: the reply, the boot-up and EMCY went out, and the state after the change comes back
abbrev pub Turned : Change → Option Frame → Service → State → List ℕ → List ℕ → List ℕ → Answer → Type 0
Turned c q v s st xs ys r = let t = changed c v s (read st) in Done (frames_of q ++ (booted c ++ emcy_of t)) (reported_now t) xs ys r
