-- The user's third demand as a whole, of the world after a run, of a node, and of a single event. Assumes nothing.
use Rattle.std.specs.Prelude.{Option, ℕ, ◌≡◌, true, List, [], ◌∷◌, length}
use Rattle.model.specs.declared.Parameter.{Parameter}
use Rattle.model.specs.declared.Groups.TheVariants.{Both, OnlyC}
use Rattle.model.specs.declared.Change.{Change}
use Rattle.model.specs.declared.Change.TheVariants.{Load, SavePending}
use Rattle.model.specs.declared.Service.{Service}
use Rattle.model.specs.declared.Service.TheVariants.{Nmt, Sdo, Lss}
use Rattle.model.specs.declared.SdoRequest.TheVariants as R
use Rattle.model.specs.declared.LssRequest.TheVariants.{StorePending}
use Rattle.model.specs.declared.Frame.{Frame}
use Rattle.model.specs.declared.Identity.{Identity}
use Rattle.model.specs.declared.Settings.{Settings}
use Rattle.model.specs.declared.State.{State}
use Rattle.model.specs.Bytes.{Bytes}
use Rattle.model.specs.Settings.{in_force}
use Rattle.model.specs.Store.{Saved, read, address_from}
use Rattle.model.specs.Parts.{id_of}
use Rattle.model.specs.Dictionary.{find}
use Rattle.model.specs.Service.{service, lss_store}
use Rattle.model.specs.Changes.{applied, stored}
use Rattle.model.specs.Nmt.{is_for, reset_node_command, reset_communication_command, boot_up}
use Rattle.model.specs.Sdo.{asked, acknowledged}
use Rattle.model.specs.Lss.{answered}
use Rattle.model.specs.Step.{done, refusal, power_on_refusal}
use Rattle.model.specs.Run.{Call, World, Node, begun_by, run_by}
use Rattle.model.specs.History.{line_refusal, addresses_of, addresses, deeds, held_for, held_id_in, held_id, value, held}
use Rattle.model.specs.Pairs.{SafeLog}

-- ---- Of a world, where at first sv was saved

-- each saved parameter, the three pairs of Node-ID and bit index, what the store holds for each parameter and the ID that it holds with C are what
-- the log says; every safety frame of the log stands in a pair; and the number of one more call follows from its bytes and its output's length,
-- so that no call is ever refused by 5 or 6
pub record Demanded (sv : Saved) (w : World) : Type 0 where
  pub values : (q : Parameter) → in_force w.state.settings q ≡ value sv q (deeds sv w.log)
  pub places : addresses_of w.state.core (read w.store) ≡ addresses sv w.log
  pub helds : (q : Parameter) → held_for (read w.store) q ≡ held sv q (deeds sv w.log)
  pub held_id_lem : held_id_in (read w.store) ≡ held_id sv (deeds sv w.log)
  pub pairs : SafeLog sv w.log
  pub number : (c : Call) → refusal c.event w.state c.room (length w.store) ≡ line_refusal c.event c.room

-- ---- Of a node

-- from a power-on that is not refused, over any first store of bytes, any identity, any calls
abbrev pub Meets : Node → Type 0
Meets node =
    (i : Identity) (room : ℕ) (st : List ℕ) (cs : List Call) → power_on_refusal room (length st) ≡ done → Bytes st
    → Demanded (read st) (run_by node cs (begun_by node i room st))

-- ---- Of an event: nothing is written by halves

-- these frames, which answer the service v in the state s with sv saved, begin with the frame that accepts a request for the change c: 60h of a
-- download, the boot-up of a reset with the ID that it makes active, or 17h's answer
pub data Accepts (v : Service) (s : State) (sv : Saved) : Change → List Frame → Type 0 where
  written : (index sub : ℕ) (size : Option ℕ) (d : ℕ) {fs : List Frame} → v ≡ Sdo (id_of s) (R.Download index sub size d)
      → Accepts v s sv (asked (find index sub) d) (acknowledged index sub s ∷ fs)
  reset_node : (to : ℕ) {fs : List Frame} → v ≡ Nmt reset_node_command to → is_for to (id_of s) ≡ true
      → Accepts v s sv (Load Both (address_from sv).id) (boot_up (address_from sv).id ∷ fs)
  reset_communication : (to : ℕ) {fs : List Frame} → v ≡ Nmt reset_communication_command to → is_for to (id_of s) ≡ true
      → Accepts v s sv (Load OnlyC s.core.pending.id) (boot_up s.core.pending.id ∷ fs)
  pending : {fs : List Frame} → v ≡ Lss StorePending → Accepts v s sv SavePending (answered (lss_store ∷ 0 ∷ []) ∷ fs)

-- an event e in the state s over the store st leaves the settings k and the store zs, and sends these frames: no saved parameter and no byte of the
-- store changes; or a request is accepted, and both are what its change makes of them
pub data Whole (e : List ℕ) (s : State) (st : List ℕ) (k : Settings) (zs : List ℕ) (fs : List Frame) : Type 0 where
  untouched : k ≡ s.settings → zs ≡ st → Whole e s st k zs fs
  carried_out : (c : Change) → Accepts (service e) s (read st) c fs → k ≡ applied c s.settings (read st) → zs ≡ stored c s st
      → Whole e s st k zs fs
