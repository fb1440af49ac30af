-- A service that moves neither FV nor the NMT state makes no EMCY due. Assumes nothing.
use mathlib.Core.Path.{◌≡◌, sym}
use mathlib.Core.Bool.{Bool, true, false, false≢true}
use Rattle.model.specs.declared.Service.{Service}
use Rattle.model.specs.declared.Service.TheVariants.{Nothing, Tick, Sample, Nmt, Sync, Remote, Sdo, Lss}
use Rattle.model.specs.declared.Core.{Core}
use Rattle.model.specs.declared.State.{State}
use Rattle.model.specs.Parts.{with_core, is_operational, is_pre_operational}
use Rattle.model.specs.Time.{emcy_due, synced, remote_answered, answers_remote}
use Rattle.model.specs.Sdo.{serves}
use Rattle.model.specs.Rules.{rules}
use Rattle.model.specs.Step.{reports, heard}
use Rattle.laws.proofs.Tests.{cond_case}
use Rattle.laws.proofs.Count.{quiet_state}

-- the state after a service that leaves the parameters, but for EMCY
abbrev pub kept_in : Service → State → State
kept_in v s = with_core s (heard v s)

-- FV and the NMT state are what EMCY goes by
abbrev pub moves_of : Service → Bool
moves_of Nothing = false
moves_of Tick = false
moves_of (Sample fv) = true
moves_of (Nmt command to) = true
moves_of Sync = false
moves_of (Remote to) = false
moves_of (Sdo to r) = false
moves_of (Lss r) = false

abbrev Calm : State → Core → Type 0
Calm s c = emcy_due (with_core s c) ≡ false

pub calm : (v : Service) (s : State) → moves_of v ≡ false → reports v ≡ true → rules s ≡ true → emcy_due (kept_in v s) ≡ false
unfolding heard synced remote_answered emcy_due
calm Nothing s m t r = quiet_state s r
calm Tick s m t r = absurd (false≢true t)
calm (Sample fv) s m t r = absurd (false≢true (sym m))
calm (Nmt command to) s m t r = absurd (false≢true (sym m))
calm Sync s m t r = cond_case (Calm s) (is_operational s.core) (λ _. quiet_state s r) (λ _. quiet_state s r)
calm (Remote to) s m t r = cond_case (Calm s) (answers_remote to s) (λ _. quiet_state s r) (λ _. quiet_state s r)
calm (Sdo to q) s m t r = cond_case (Calm s) (serves to s) (λ _. quiet_state s r) (λ _. quiet_state s r)
calm (Lss q) s m t r = cond_case (Calm s) (is_pre_operational s.core) (λ _. quiet_state s r) (λ _. quiet_state s r)
