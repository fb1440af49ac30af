-- What the state rules give to those who read a state. Assumes nothing.
use Rattle.std.specs.Prelude.{◌≤◌, ◌≡◌, true}
use Rattle.model.specs.declared.State.{State}
use Rattle.model.specs.Parts.{id_of}
use Rattle.model.specs.Time.{communication}
use Rattle.model.specs.Rules.{rule_upload}

-- bounds that keep every sum and every cast in range
pub record Fit (s : State) : Type 0 where
  pub id : id_of s ≤ 127
  pub pending : s.core.pending.id ≤ 127
  pub digits : s.settings.application.digits ≤ 4
  pub first : (communication s).srdo.first ≤ 0x180
  pub second : (communication s).srdo.second ≤ 0x180
  pub progress : s.core.lss.progress ≤ 3
  pub upload : rule_upload s ≡ true
