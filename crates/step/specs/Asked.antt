-- What a service is asked, as code has it, and what a change must be for its code. Assumes nothing.
use Rattle.std.specs.Prelude.{ℕ, ◌≤◌, ◌≡◌, Bool, true, false, List, Option, Some, None}
use Rattle.model.specs.declared.Service.{Service}
use Rattle.model.specs.declared.Change.{Change}
use Rattle.model.specs.declared.Change.TheVariants.{Keep, Write, Save, TakeOut, Load, SavePending}
use Rattle.model.specs.declared.State.{State}
use Rattle.model.specs.Values.{kind_of}
use Rattle.model.specs.Settings.{row}
use Rattle.model.specs.Store.{read}
use Rattle.model.specs.Frames.{frames_of}
use Rattle.model.specs.Step.{change_of, reply}
use Rattle.image.specs.declared.Sizes.{Sizes}
use Rattle.store.specs.Saved.{Kept}
use Rattle.store.specs.declared.saved.Contents.{Contents}
use Rattle.step.specs.declared.ask.Asked.{Asked}

-- for a load there is something, of which this holds; no other change needs it
abbrev pub ForLoad : {A : Type 0} → (A → Type 0) → Change → Option A → Type 0
ForLoad holds Keep o = Unit {0}
ForLoad holds (Write p x) o = Unit {0}
ForLoad holds (Save gs) o = Unit {0}
ForLoad holds (TakeOut gs) o = Unit {0}
ForLoad holds (Load gs id) (Some x) = holds x
ForLoad holds (Load gs id) None = ⊥
ForLoad holds SavePending o = Unit {0}

-- the sizes of what is saved in the store
abbrev pub SizesFor : Change → List ℕ → Option Sizes → Type 0
SizesFor c st o = ForLoad (Kept st) c o

-- what the store holds
abbrev pub ReadFor : Change → List ℕ → Option Contents → Type 0
ReadFor c st o = ForLoad (λ (h : Contents). h.store.now ≡ st) c o

-- the change of a service, its reply, and the sizes
pub record IsAsked (v : Service) (s : State) (st : List ℕ) (r : Asked) : Type 0 where
  pub change : r.change ≡ change_of v s (read st)
  pub frames : frames_of r.reply ≡ reply v s
  pub sizes : SizesFor r.change st r.sizes

-- a write has a value of its parameter's type, and a load an ID of a node
abbrev pub Suits : Change → Type 0
Suits Keep = Unit {0}
Suits (Write p x) = kind_of x ≡ (row p).kind
Suits (Save gs) = Unit {0}
Suits (TakeOut gs) = Unit {0}
Suits (Load gs id) = id ≤ 127
Suits SavePending = Unit {0}

-- the changes that touch parameters
abbrev pub alters_of : Change → Bool
alters_of Keep = false
alters_of (Write p x) = true
alters_of (Save gs) = false
alters_of (TakeOut gs) = true
alters_of (Load gs id) = true
alters_of SavePending = false
