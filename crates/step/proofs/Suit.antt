-- Every change that a service makes suits its code: it is allowed. Assumes nothing.
use Rattle.model.specs.declared.Change.{Change}
use Rattle.model.specs.declared.Change.TheVariants.{Keep, Write, Save, TakeOut, Load, SavePending}
use Rattle.model.specs.declared.State.{State}
use Rattle.laws.proofs.Tests.{within_is}
use Rattle.laws.proofs.Allowed.{Allowed}
use Rattle.step.specs.Asked.{Suits}

pub suits : (c : Change) (s : State) → Allowed c s → Suits c
suits Keep s a = tt
suits (Write p x) s a = a.fine.fits.kind
suits (Save gs) s a = tt
suits (TakeOut gs) s a = tt
suits (Load gs id) s a = (within_is 1 127 id a.0).1
suits SavePending s a = tt
