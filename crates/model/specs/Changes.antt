-- What an event does to the saved parameters and to the store. A change is the only way to either; what it does to a parameter is one formula
-- over the table. Document 01: "Dictionary" (1010h, 1011h), "Validity" (the forced changes), "NMT" (loads), "LSS" (17h), "The store". Assumes nothing.
use Rattle.std.specs.Prelude.{ℕ, cond, ◌&&◌, List, []}
use Rattle.model.specs.declared.Value.TheVariants.{U8}
use Rattle.model.specs.declared.Parameter.{Parameter}
use Rattle.model.specs.declared.Group.{Group}
use Rattle.model.specs.declared.Change.{Change}
use Rattle.model.specs.declared.Change.TheVariants.{Keep, Write, Save, TakeOut, Load, SavePending}
use Rattle.model.specs.declared.Settings.{Settings}
use Rattle.model.specs.declared.State.{State}
use Rattle.model.specs.Settings.{row, same, has, in_force, Now, stays, becomes, altered}
use Rattle.model.specs.Validity.{validity_of, revokes, changes}
use Rattle.model.specs.Store.{Saved, read, loaded, record_of, renewed, readdressed}
use Rattle.model.specs.Parts.{id_of}

-- ---- The parameters

-- a validity byte is set to 0
abbrev pub revoked : Now
revoked = becomes (U8 0)

-- what a change does to parameter q, where k is in force and sv is saved:
-- a write sets its parameter and, where that is a change, may force a validity byte to 0; a load word forces those of its groups to 0;
-- a load sets its groups, by the active ID; nothing else does anything
unfoldable pub effect : Change → Settings → Saved → Parameter → Now
effect Keep k sv q = stays
effect (Write p v) k sv q =
    cond (same q p) (becomes v) (cond (revokes p q && changes p v (in_force k)) revoked stays)
effect (Save gs) k sv q = stays
effect (TakeOut gs) k sv q = cond (has gs (row q).group && same q (validity_of (row q).group)) revoked stays
effect (Load gs id) k sv q = cond (has gs (row q).group) (becomes (loaded id sv q)) stays
effect SavePending k sv q = stays

-- the parameters after a change
unfoldable pub applied : Change → Settings → Saved → Settings
applied c k sv = altered (effect c k sv) k

-- ---- The store

-- the records of the values in force; C goes with the active ID
abbrev pub records_of : State → Group → List ℕ
records_of s g = record_of g (id_of s) (in_force s.settings)

-- the store after a change: a save puts records in, a load word takes them out, 17h puts the pending pair in
unfoldable pub stored : Change → State → List ℕ → List ℕ
stored Keep s st = st
stored (Write p v) s st = st
stored (Save gs) s st = renewed gs (records_of s) (read st)
stored (TakeOut gs) s st = renewed gs (λ g. []) (read st)
stored (Load gs id) s st = st
stored SavePending s st = readdressed s.core.pending (read st)
