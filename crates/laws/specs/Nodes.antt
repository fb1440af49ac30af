-- Wrong nodes: each is the node of document 01 with one thing wrong. And that node, as the theorems name it. Assumes nothing.
use Rattle.std.specs.Prelude.{ℕ, Bool, true, false, cond, List, [], ◌∷◌, eqb}
use Rattle.model.specs.declared.Value.TheVariants.{U8}
use Rattle.model.specs.declared.Parameter.{Parameter}
use Rattle.model.specs.declared.Parameter.TheVariants.{P51FE}
use Rattle.model.specs.declared.Change.{Change}
use Rattle.model.specs.declared.Change.TheVariants.{Keep, Write, Save, TakeOut, Load, SavePending}
use Rattle.model.specs.declared.Identity.{Identity}
use Rattle.model.specs.declared.Settings.{Settings}
use Rattle.model.specs.declared.State.{State}
use Rattle.model.specs.Frames.{kind_of_event}
use Rattle.model.specs.Settings.{same, in_force, stays, becomes, altered}
use Rattle.model.specs.Validity.{a5h}
use Rattle.model.specs.Store.{nothing, read, is_good}
use Rattle.model.specs.Parts.{state, with_core, with_addresses}
use Rattle.model.specs.Time.{srdo_first, srdo_second}
use Rattle.model.specs.Service.{service}
use Rattle.model.specs.Step.{Outcome, step, refusal, power_on, unknown_kind, zero_store, change_of}
use Rattle.model.specs.Run.{Node, right_node}

-- ---- Parts

-- a node that is wrong in what calls come to, if at all
abbrev pub serving : (List ℕ → State → List ℕ → Outcome) → Node
serving f = record { starts = power_on; numbers = refusal; serves = f }

-- a power-on that looks at no store, and says that it is node 1
abbrev pub blindly : Identity → List ℕ → Outcome
blindly i st = let o = power_on i zero_store in record { state = o.state; sent = o.sent; store = st }

-- an outcome with other settings
abbrev pub with_settings : Settings → Outcome → Outcome
with_settings k o = record { state = state o.state.identity k o.state.core; sent = o.sent; store = o.store }

-- a change that is a reset
abbrev pub is_load : Change → Bool
is_load Keep = false
is_load (Write p v) = false
is_load (Save gs) = false
is_load (TakeOut gs) = false
is_load (Load gs id) = true
is_load SavePending = false

-- ---- The wrong nodes

-- one whose first save is its last: a store that is good stays as it is
abbrev pub saves_once : Node
saves_once =
    serving (λ (e : List ℕ) (s : State) (st : List ℕ).
    let o = step e s st in
    record { state = o.state; sent = o.sent; store = cond (is_good st) st o.store })

-- one that does nothing, and loads nothing
abbrev pub idles : Node
idles = record { starts = blindly; numbers = refusal; serves = λ (e : List ℕ) (s : State) (st : List ℕ). record { state = s; sent = []; store = st } }

-- one that does not load at a power-on
abbrev pub starts_blindly : Node
starts_blindly = record { starts = blindly; numbers = refusal; serves = step }

-- one whose validity byte outlives a covered write
abbrev pub keeps_validity : Node
keeps_validity =
    serving (λ (e : List ℕ) (s : State) (st : List ℕ).
    let o = step e s st in
    let said = cond (eqb s.settings.application.valid a5h) (U8 a5h) (in_force o.state.settings P51FE) in
    with_settings (altered (λ (q : Parameter). cond (same q P51FE) (becomes said) stays) o.state.settings) o)

-- one whose resets bring back what is in force, and nobody saved
abbrev pub keeps_at_reset : Node
keeps_at_reset =
    serving (λ (e : List ℕ) (s : State) (st : List ℕ).
    let o = step e s st in
    cond (is_load (change_of (service e) s (read st))) (with_settings s.settings o) o)

-- one that refuses each reset, by 2
abbrev pub refuses_resets : Node
refuses_resets =
    record {
      starts = power_on;
      numbers = λ (e : List ℕ) (s : State) (room size : ℕ). cond (is_load (change_of (service e) s nothing)) unknown_kind (refusal e s room size);
      serves = step;
    }

-- one that takes no new ID at a reset communication, and boots up with the old one
abbrev pub keeps_its_id : Node
keeps_its_id =
    serving (λ (e : List ℕ) (s : State) (st : List ℕ). step e (with_core s (with_addresses s.core s.core.active s.core.active)) st)

-- one that sends its pair at every tick, signed or not
abbrev pub always_pairs : Node
always_pairs =
    serving (λ (e : List ℕ) (s : State) (st : List ℕ).
    let o = step e s st in
    cond (eqb (kind_of_event e) 2) (record { state = o.state; sent = srdo_first o.state ∷ srdo_second o.state ∷ []; store = o.store }) o)

-- ---- The node of document 01, under the names by which the history (proofs/History) and the pairs (proofs/Pairs) are proved of it: an edit that puts a
-- wrong one in its place has to be refused there

abbrev pub proved : Node
proved = right_node

abbrev pub paired : Node
paired = right_node
