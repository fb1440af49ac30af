-- What `serve` asks of the state and what it ensures, and the values that it puts together. Assumes nothing.
use Rattle.std.specs.Prelude.{◌≡◌, true, ℕ, ◌≤◌, Result, Option, Some}
use Rattle.model.specs.declared.Change.{Change}
use Rattle.model.specs.declared.Change.TheVariants.{Keep}
use Rattle.model.specs.declared.Frame.{Frame}
use Rattle.model.specs.declared.SdoRequest.{SdoRequest}
use Rattle.model.specs.declared.State.{State}
use Rattle.model.specs.Frames.{frames_of}
use Rattle.model.specs.Parts.{id_of}
use Rattle.model.specs.Rules.{rule_upload}
use Rattle.model.specs.Sdo.{change_in, write_reply, sdo_change, sdo_reply}
use Rattle.sdo.specs.declared.serve.Served.{Served}

-- the state rules that a reply leans on: each follows from `rules`
pub record Ready (s : State) : Type 0 where
  pub id : id_of s ≤ 127
  pub digits : s.settings.application.digits ≤ 4
  pub upload : rule_upload s ≡ true

-- what a request comes to
pub record IsServed (request : SdoRequest) (s : State) (r : Served) : Type 0 where
  pub change : r.change ≡ sdo_change request s
  pub frames : frames_of r.reply ≡ sdo_reply request s

-- nothing changes, and this is the reply
abbrev pub told : Option Frame → Served
told q = record { change = Keep; reply = q }

-- a write that was checked
abbrev pub written : Result Change ℕ → ℕ → ℕ → State → Served
written c index sub s = record { change = change_in c; reply = Some (write_reply c index sub s) }
