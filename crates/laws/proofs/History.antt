-- The history of every saved parameter (the user's third demand). After any run from a power-on that is not refused, each of the seventeen
-- parameters is what the bus log alone says of it: the last accepted write since its group was loaded, else what was held at that load, else
-- the default, with the forced changes; so are active and pending Node-ID and bit index; and the store holds what the log says. Which calls are
-- refused and under which ID a load is done follows from the inputs: neither a line's number nor a boot-up is believed. The definitions are those
-- of the model's file History. Of the events nothing is supposed, and of the first store only that it is bytes. Assumes nothing.
use mathlib.Core.Path.{◌≡◌, refl, ap, ◌∙◌, subst, fun_ext}
use mathlib.Core.Bool.{true, false}
use mathlib.Core.List.{List, [], ◌∷◌}
use Prim.Native.Nat.{ℕ}
use lib.Dec.{eqb, lit≤}
use lib.ListN.{length}
use borrow.Author.Tests.{eqb-true, not-false}
use Rattle.model.specs.declared.Parameter.{Parameter}
use Rattle.model.specs.declared.Groups.TheVariants.{Both}
use Rattle.model.specs.declared.Change.{Change}
use Rattle.model.specs.declared.Change.TheVariants.{Keep, Load}
use Rattle.model.specs.declared.Service.{Service}
use Rattle.model.specs.declared.Service.TheVariants.{Nothing}
use Rattle.model.specs.declared.Identity.{Identity}
use Rattle.model.specs.declared.State.{State}
use Rattle.model.specs.Bytes.{Bytes}
use Rattle.model.specs.Choice.{first_hit}
use Rattle.model.specs.Settings.{in_force, made}
use Rattle.model.specs.Store.{Saved, read, default_for, address_from}
use Rattle.model.specs.Parts.{id_of}
use Rattle.model.specs.Service.{service}
use Rattle.model.specs.Changes.{effect, applied, stored}
use Rattle.model.specs.Rules.{rules}
use Rattle.model.specs.Step.{done, store_size, refusal, power_on_refusal, change_of, heard, served, step, unborn, power_on}
use Rattle.model.specs.Run.{Call, Line, called, World, begun_by, begun, after, continued_by, continued, run_by}
use Rattle.model.specs.History.{line_refusal, is_served, Addresses, addresses_of, service_deed, deed, service_pending, line_pending, moved, addresses, active_id, deeds, held_for, held_id_in, held_id, value, held}
use Rattle.laws.specs.Nodes.{proved}
use Rattle.laws.proofs.Tests.{cond_case, hit_zero}
use Rattle.laws.proofs.Parameters.{AllFit, all_typed, default_fine, made_is}
use Rattle.laws.proofs.Loading.{first_held, address_ok, address_held}
use Rattle.laws.proofs.Allowed.{Allowed, change_allowed}
use Rattle.laws.proofs.LookBack.{Agrees, agrees_after, pair_after_lem}
use Rattle.laws.proofs.Deeds.{served_id, served_deed, served_pending, served_addresses}
use Rattle.laws.proofs.RulesKept.{begun_rules, continued_rules}
use Rattle.laws.proofs.StoreSize.{begun_store, accepted_size, continued_size}

-- ---- which calls are refused

-- a call that is not refused has a state that keeps the rules
pub refusal_rules : (e : List ℕ) (s : State) (room size : ℕ) → refusal e s room size ≡ done → rules s ≡ true
unfolding refusal
refusal_rules e s room size h = let n = hit_zero _ refl h in not-false _ n.1.1.1.1.1.0

-- with such a state and a store of its size, the number follows from the event's bytes and the output's length
pub refusal_told : (e : List ℕ) (s : State) (room size : ℕ) → rules s ≡ true → size ≡ store_size → refusal e s room size ≡ line_refusal e room
unfolding refusal line_refusal first_hit
refusal_told e s room size r h = rw (h, r) refl

-- ---- one call

-- what a world has to be: its settings, active ID and store are what the deeds of its log say, and its addresses are what the log says
pub record Told (sv : Saved) (w : World) : Type 0 where
  pub agrees : Agrees sv w.state.settings (id_of w.state) w.store (deeds sv w.log)
  pub places : addresses_of w.state.core (read w.store) ≡ addresses sv w.log
  pub keeps : rules w.state ≡ true
  pub size : length w.store ≡ store_size

-- the number of a call
pub told_refusal : (sv : Saved) (c : Call) (w : World) → Told sv w
    → refusal c.event w.state c.room (length w.store) ≡ line_refusal c.event c.room
told_refusal sv c w h = refusal_told c.event w.state c.room (length w.store) h.keeps h.size

-- a change that is carried out is one more deed
pub served_agrees : (sv : Saved) (s : State) (st : List ℕ) (ds : List Change) (c : Change) (v : Service) → Allowed c s
    → Agrees sv s.settings (id_of s) st ds
    → Agrees sv (served c v s st).state.settings (id_of (served c v s st).state) (served c v s st).store (c ∷ ds)
unfolding served
served_agrees sv s st ds c v a h = rw (served_id c v s st a) (agrees_after sv s st ds h c a)

-- the deed that the log tells of it is the change that was made
pub told_deed : (sv : Saved) (e : List ℕ) (w : World) → Told sv w
    → service_deed (addresses sv w.log) (service e) (step e w.state w.store).sent ≡ change_of (service e) w.state (read w.store)
unfolding step
told_deed sv e w h =
    subst
    (λ (a : Addresses). service_deed a (service e) (served (change_of (service e) w.state (read w.store)) (service e) w.state w.store).sent
    ≡ change_of (service e) w.state (read w.store))
    h.places (served_deed (service e) w.state w.store h.keeps)

-- a served call
module _ (sv : Saved) (c : Call) (w : World) (h : Told sv w) (e : line_refusal c.event c.room ≡ done) where
  abbrev v : Service
  v = service c.event

  abbrev made_change : Change
  made_change = change_of v w.state (read w.store)

  abbrev next : World
  next = after c (proved.serves c.event w.state w.store) w.log

  allowed : Allowed made_change w.state
  allowed = change_allowed w.state w.store h.keeps v

  next_agrees : Agrees sv next.state.settings (id_of next.state) next.store (deeds sv next.log)
  unfolding step deeds deed
  next_agrees = rw (e, told_deed sv c.event w h) (served_agrees sv w.state w.store (deeds sv w.log) made_change v allowed h.agrees)

  next_places : addresses_of next.state.core (read next.store) ≡ addresses sv next.log
  unfolding step addresses deed line_pending
  next_places =
      let o = served made_change v w.state w.store in
      let p : service_pending v o.sent w.state.core.pending ≡ (heard v w.state).pending = served_pending v w.state w.store h.keeps in
      rw (e, told_deed sv c.event w h, ← h.places, p)
      (served_addresses made_change v w.state w.store (pair_after_lem sv w.state w.store (deeds sv w.log) h.agrees made_change allowed))

-- a refused one
module _ (sv : Saved) (c : Call) (w : World) (h : Told sv w) (e : eqb (line_refusal c.event c.room) done ≡ false) where
  abbrev line : Line
  line = called c.event c.room (line_refusal c.event c.room) []

  same_agrees : Agrees sv w.state.settings (id_of w.state) w.store (deeds sv (line ∷ w.log))
  unfolding deeds deed applied effect stored
  same_agrees = rw e (agrees_after sv w.state w.store (deeds sv w.log) h.agrees Keep tt)

  same_places : addresses_of w.state.core (read w.store) ≡ addresses sv (line ∷ w.log)
  unfolding addresses deed line_pending moved
  same_places = rw e h.places

-- either
abbrev Fine : Saved → World → Type 0
Fine sv x =
    Agrees sv x.state.settings (id_of x.state) x.store (deeds sv x.log) × (addresses_of x.state.core (read x.store) ≡ addresses sv x.log)

fine_next : (sv : Saved) (c : Call) (w : World) → Told sv w → Fine sv (continued_by proved c w)
fine_next sv c w h =
    rw (told_refusal sv c w h)
    (cond_case (Fine sv) (is_served c.event c.room)
    (λ e. let z = eqb-true _ done e in (next_agrees sv c w h z, next_places sv c w h z))
    (λ e. (same_agrees sv c w h e, same_places sv c w h e)))

pub told_next : (sv : Saved) (c : Call) (w : World) → Told sv w → Told sv (continued_by proved c w)
unfolding continued
told_next sv c w h =
    let f = fine_next sv c w h in
    record { agrees = f.0; places = f.1; keeps = continued_rules c w h.keeps; size = continued_size c w h.size }

pub told_run : (sv : Saved) (cs : List Call) (w : World) → Told sv w → Told sv (run_by proved cs w)
told_run sv [] w h = h
told_run sv (c ∷ cs) w h = told_run sv cs (continued_by proved c w) (told_next sv c w h)

-- ---- the power-on

first_fits : AllFit (default_for 1)
first_fits q = (default_fine q 1 (lit≤ tt) (lit≤ tt)).fits

-- before it: the store as it is, and settings that nobody sees
pub unborn_agrees : (i : Identity) (st : List ℕ) → Bytes st → Agrees (read st) (unborn i).settings 1 st []
unfolding value active_id held held_id
unborn_agrees i st b =
    record {
      values = made_is (default_for 1) (all_typed (default_for 1) first_fits);
      id_is = refl;
      helds = λ q. refl;
      held_id_lem = refl;
      fits = λ q. rw (made_is (default_for 1) (all_typed (default_for 1) first_fits) q) (first_fits q);
      fits_held = first_held st b;
    }

module _ (i : Identity) (room : ℕ) (st : List ℕ) (e : power_on_refusal room (length st) ≡ done) (b : Bytes st) where
  abbrev load : Change
  load = Load Both (address_from (read st)).id

  begun_agrees : let w = begun_by proved i room st in Agrees (read st) w.state.settings (id_of w.state) w.store (deeds (read st) w.log)
  unfolding begun power_on deeds deed addresses
  begun_agrees =
      rw (e, ← (address_held (read st)))
      (served_agrees (read st) (unborn i) st [] load Nothing ((address_ok st).0, refl) (unborn_agrees i st b))

  begun_places : let w = begun_by proved i room st in addresses_of w.state.core (read w.store) ≡ addresses (read st) w.log
  unfolding begun power_on deed addresses line_pending stored heard
  begun_places = rw (e, ← (address_held (read st))) (served_addresses load Nothing (unborn i) st refl)

  pub told_begun : Told (read st) (begun_by proved i room st)
  unfolding begun
  told_begun =
      record {
        agrees = begun_agrees;
        places = begun_places;
        keeps = begun_rules i room st;
        size = ap length (begun_store i room st) ∙ accepted_size room (length st) e;
      }

-- ---- THE THEOREM

-- the world after a power-on with this room for output and this store, and then these calls, of the node of document 01 (`proved` is that one)
abbrev pub ran : Identity → ℕ → List ℕ → List Call → World
ran i room st cs = run_by proved cs (begun_by proved i room st)

module _ (i : Identity) (room : ℕ) (st : List ℕ) (cs : List Call) (accepted : power_on_refusal room (length st) ≡ done) (bytes : Bytes st) where
  all_told : Told (read st) (ran i room st cs)
  all_told = told_run (read st) cs (begun_by proved i room st) (told_begun i room st accepted bytes)

  -- each parameter is what the log says
  pub history : (q : Parameter) → in_force (ran i room st cs).state.settings q ≡ value (read st) q (deeds (read st) (ran i room st cs).log)
  history q = all_told.agrees.values q

  -- so all the settings are
  pub history_whole : (ran i room st cs).state.settings
      ≡ made (λ (q : Parameter). value (read st) q (deeds (read st) (ran i room st cs).log))
  history_whole = ap made (fun_ext history)

  -- Node-ID and bit index, active and pending, and the pair that the store holds, are what the log says
  pub history_addresses : addresses_of (ran i room st cs).state.core (read (ran i room st cs).store) ≡ addresses (read st) (ran i room st cs).log
  history_addresses = all_told.places

  -- the active ID is that of the last load
  pub history_id : id_of (ran i room st cs).state ≡ active_id (deeds (read st) (ran i room st cs).log)
  history_id = all_told.agrees.id_is

  -- the store holds for each parameter what the log says
  pub ledger : (q : Parameter) → held_for (read (ran i room st cs).store) q ≡ held (read st) q (deeds (read st) (ran i room st cs).log)
  ledger q = all_told.agrees.helds q

  -- and so for the ID that C was saved with
  pub ledger_id : held_id_in (read (ran i room st cs).store) ≡ held_id (read st) (deeds (read st) (ran i room st cs).log)
  ledger_id = all_told.agrees.held_id_lem

  -- the number of one more call follows from its event and its output's length
  pub number_told : (c : Call)
      → refusal c.event (ran i room st cs).state c.room (length (ran i room st cs).store) ≡ line_refusal c.event c.room
  number_told c = told_refusal (read st) c (ran i room st cs) all_told
