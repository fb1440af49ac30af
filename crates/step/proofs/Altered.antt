-- No LSS request alters the parameters. Assumes nothing.
use mathlib.Core.Path.{◌≡◌, refl}
use mathlib.Core.Bool.{false}
use Rattle.model.specs.declared.Change.{Change}
use Rattle.model.specs.declared.LssRequest.{LssRequest}
use Rattle.model.specs.declared.LssRequest.TheVariants.{SwitchMode, Select, SetNodeId, SetBitIndex, StorePending, AskIdentity, AskNodeId, OtherLss}
use Rattle.model.specs.declared.Service.TheVariants.{Lss}
use Rattle.model.specs.declared.State.{State}
use Rattle.model.specs.Store.{Saved}
use Rattle.model.specs.Parts.{is_pre_operational}
use Rattle.model.specs.Lss.{in_configuration, lss_change}
use Rattle.model.specs.Step.{change_of}
use Rattle.laws.proofs.Tests.{cond_case}
use Rattle.step.specs.Asked.{alters_of}

lss_leaves : (q : LssRequest) (s : State) → alters_of (lss_change q s) ≡ false
unfolding lss_change
lss_leaves (Select n number) s = refl
lss_leaves (SwitchMode mode) s = refl
lss_leaves (SetNodeId id) s = refl
lss_leaves (SetBitIndex table bit) s = refl
lss_leaves StorePending s = cond_case (λ (c : Change). alters_of c ≡ false) (in_configuration s) (λ _. refl) (λ _. refl)
lss_leaves (AskIdentity n) s = refl
lss_leaves AskNodeId s = refl
lss_leaves OtherLss s = refl

pub lss_unaltered : (q : LssRequest) (s : State) (sv : Saved) → alters_of (change_of (Lss q) s sv) ≡ false
unfolding change_of
lss_unaltered q s sv = cond_case (λ (c : Change). alters_of c ≡ false) (is_pre_operational s.core) (λ _. lss_leaves q s) (λ _. refl)
