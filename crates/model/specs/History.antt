-- The user's third demand: what the bus log alone says of every saved parameter, of Node-ID and bit index, and of what the store holds for each.
-- Nothing here looks at the node's state. Believed of a line are the event's bytes, the output's length and the first frame, as far as that accepts a
-- request; not its number, and not the ID of a boot-up. First the deed of each line, then the look back over the deeds, newest first. Assumes nothing.
use Rattle.std.specs.Prelude.{ℕ, ◌+◌, Bool, false, cond, not, ◌&&◌, List, [], ◌∷◌, ◌++◌, eqb}
use Rattle.model.specs.declared.Value.{Value}
use Rattle.model.specs.declared.Value.TheVariants.{U8}
use Rattle.model.specs.declared.Parameter.{Parameter}
use Rattle.model.specs.declared.Group.TheVariants.{C}
use Rattle.model.specs.declared.Groups.TheVariants.{Both, OnlyC, OnlyA}
use Rattle.model.specs.declared.Change.{Change}
use Rattle.model.specs.declared.Change.TheVariants.{Keep, Write, Save, TakeOut, Load, SavePending}
use Rattle.model.specs.declared.Service.{Service}
use Rattle.model.specs.declared.Service.TheVariants.{Nothing, Tick, Sample, Nmt, Sync, Remote, Sdo, Lss}
use Rattle.model.specs.declared.SdoRequest.{SdoRequest}
use Rattle.model.specs.declared.SdoRequest.TheVariants as R
use Rattle.model.specs.declared.LssRequest.{LssRequest}
use Rattle.model.specs.declared.LssRequest.TheVariants.{SwitchMode, Select, SetNodeId, SetBitIndex, StorePending, AskIdentity, AskNodeId, OtherLss}
use Rattle.model.specs.declared.Address.{Address}
use Rattle.model.specs.declared.Frame.{Frame}
use Rattle.model.specs.declared.Core.{Core}
use Rattle.model.specs.Choice.{◌⇒◌, first_hit}
use Rattle.model.specs.Bytes.{byte_at}
use Rattle.model.specs.Frames.{sdo_replies, lss_answers}
use Rattle.model.specs.Settings.{row, same, has}
use Rattle.model.specs.Validity.{validity_of, revokes, changes}
use Rattle.model.specs.Store.{Saved, saved_n, saved, field, default_for, follows_id}
use Rattle.model.specs.Parts.{address}
use Rattle.model.specs.Dictionary.{find}
use Rattle.model.specs.Service.{service, lss_node_id, lss_bit_index, lss_store}
use Rattle.model.specs.Nmt.{is_for, reset_node_command, reset_communication_command}
use Rattle.model.specs.Sdo.{asked}
use Rattle.model.specs.Step.{done, by_event, by_output}
use Rattle.model.specs.Run.{Line, powered, called}

-- ---- Which calls are served

-- the refusal of a call, by its event's bytes and its output's length: in a run the store keeps its size and the state its rules, so that 5 and 6
-- never come
unfoldable pub line_refusal : List ℕ → ℕ → ℕ
line_refusal e room = first_hit (by_event e ++ by_output room) done

abbrev pub is_served : List ℕ → ℕ → Bool
is_served e room = eqb (line_refusal e room) done

-- ---- Node-ID and bit index

-- what a store holds, for a parameter, for N or for the ID of C: nothing, or something
pub data Held (X : Type 0) : Type 0 where
  absent : Held X
  kept : X → Held X

-- in a record
abbrev pub held_in : {X : Type 0} → (List ℕ → X) → List ℕ → Held X
held_in f [] = absent
held_in f (b ∷ bs) = kept (f (b ∷ bs))

-- the pair in N
unfoldable pub held_address : Saved → Held Address
held_address sv = held_in (λ (r : List ℕ). address (byte_at 0 r) (byte_at 1 r)) (saved_n sv)

-- what reset node and power-on take: the pair that is held, else 1 and 3
unfoldable pub or_factory : Held Address → Address
or_factory absent = address 1 3
or_factory (kept a) = a

-- the three pairs of Node-ID and bit index: the active, the pending and the stored one
pub record Addresses : Type 0 where
  pub active : Address
  pub pending : Address
  pub stored : Held Address

abbrev pub three : Address → Address → Held Address → Addresses
three a p n = record { active = a; pending = p; stored = n }

-- those that a node has, which the theorem sets against what the log tells
abbrev pub addresses_of : Core → Saved → Addresses
addresses_of c sv = three c.active c.pending (held_address sv)

-- ---- The deed of a line: what was done, by the request and the first frame that followed it

-- what the first frame makes of a request, where there is one; else nothing was done
abbrev pub by_first : {X : Type 0} → X → (Frame → X) → List Frame → X
by_first otherwise made [] = otherwise
by_first otherwise made (f ∷ fs) = made f

-- a write is acknowledged by 60h on the CAN-ID of the node that it is sent to
abbrev pub acknowledges : ℕ → Frame → Bool
acknowledges to f = eqb f.id (sdo_replies + to) && eqb f.d0 0x60

-- 11h, 13h and 17h are accepted by an answer that names them, with error 0
abbrev pub accepts : ℕ → Frame → Bool
accepts command f = eqb f.id lss_answers && (eqb f.d0 command && eqb f.d1 0)

-- of SDO requests to the active ID an acknowledged download alone is a deed
unfoldable pub sdo_deed : ℕ → SdoRequest → Frame → Change
sdo_deed to (R.Download index sub size d) f = cond (acknowledges to f) (asked (find index sub) d) Keep
sdo_deed to (R.Upload index sub) f = Keep
sdo_deed to (R.UploadSegment toggle) f = Keep
sdo_deed to R.ClientAbort f = Keep
sdo_deed to R.DownloadSegment f = Keep
sdo_deed to (R.Unknown index sub) f = Keep

-- of LSS requests an accepted 17h alone is one
unfoldable pub lss_deed : LssRequest → Frame → Change
lss_deed (Select n number) f = Keep
lss_deed (SwitchMode mode) f = Keep
lss_deed (SetNodeId id) f = Keep
lss_deed (SetBitIndex table bit) f = Keep
lss_deed StorePending f = cond (accepts lss_store f) SavePending Keep
lss_deed (AskIdentity n) f = Keep
lss_deed AskNodeId f = Keep
lss_deed OtherLss f = Keep

-- a reset that is sent to all or to the active ID is a load, whatever the node answers: reset node under the stored ID, else 1, and reset
-- communication under the pending one
unfoldable pub reset_deed : Addresses → ℕ → ℕ → Change
reset_deed a command to =
    cond (is_for to a.active.id)
    (first_hit
    ((eqb command reset_node_command ⇒ Load Both (or_factory a.stored).id)
    ∷ (eqb command reset_communication_command ⇒ Load OnlyC a.pending.id)
    ∷ [])
    Keep)
    Keep

unfoldable pub service_deed : Addresses → Service → List Frame → Change
service_deed a Nothing fs = Keep
service_deed a Tick fs = Keep
service_deed a (Sample fv) fs = Keep
service_deed a (Nmt command to) fs = reset_deed a command to
service_deed a Sync fs = Keep
service_deed a (Remote to) fs = Keep
service_deed a (Sdo to r) fs = cond (eqb to a.active.id) (by_first Keep (sdo_deed to r) fs) Keep
service_deed a (Lss r) fs = by_first Keep (lss_deed r) fs

-- the deed of a line, with the addresses that the older lines tell: the power-on is a load of both groups, and a call that is refused does nothing
unfoldable pub deed : Addresses → Line → Change
deed a (powered room number sent) = Load Both (or_factory a.stored).id
deed a (called event room number sent) = cond (is_served event room) (service_deed a (service event) sent) Keep

-- ---- The addresses that the log tells

-- the pending pair after an LSS request and its answer
unfoldable pub lss_pending : LssRequest → Address → Frame → Address
lss_pending (Select n number) p f = p
lss_pending (SwitchMode mode) p f = p
lss_pending (SetNodeId id) p f = cond (accepts lss_node_id f) (address id p.bit) p
lss_pending (SetBitIndex table bit) p f = cond (accepts lss_bit_index f) (address p.id bit) p
lss_pending StorePending p f = p
lss_pending (AskIdentity n) p f = p
lss_pending AskNodeId p f = p
lss_pending OtherLss p f = p

unfoldable pub service_pending : Service → List Frame → Address → Address
service_pending Nothing fs p = p
service_pending Tick fs p = p
service_pending (Sample fv) fs p = p
service_pending (Nmt command to) fs p = p
service_pending Sync fs p = p
service_pending (Remote to) fs p = p
service_pending (Sdo to r) fs p = p
service_pending (Lss r) fs p = by_first p (lss_pending r p) fs

-- after a line
unfoldable pub line_pending : Line → Address → Address
line_pending (powered room number sent) p = p
line_pending (called event room number sent) p = cond (is_served event room) (service_pending (service event) sent p) p

-- the three after a deed, where its request leaves the pending pair p: a load of both groups under an ID makes that ID active and pending, with the
-- stored bit index; a load of C makes it so too, and leaves the bit indexes; 17h stores the pending pair
unfoldable pub moved : Change → Address → Addresses → Addresses
moved Keep p a = three a.active p a.stored
moved (Write q v) p a = three a.active p a.stored
moved (Save gs) p a = three a.active p a.stored
moved (TakeOut gs) p a = three a.active p a.stored
moved (Load Both id) p a = let bit = (or_factory a.stored).bit in three (address id bit) (address id bit) a.stored
moved (Load OnlyC id) p a = three (address id a.active.bit) (address id a.pending.bit) a.stored
moved (Load OnlyA id) p a = a
moved SavePending p a = three a.active p (kept a.pending)

-- before the power-on: what the first store holds
abbrev pub first_addresses : Saved → Addresses
first_addresses sv = three (address 1 3) (address 1 3) (held_address sv)

-- after a log, newest line first
unfoldable pub addresses : Saved → List Line → Addresses
addresses sv [] = first_addresses sv
addresses sv (l ∷ ls) = let a = addresses sv ls in moved (deed a l) (line_pending l a.pending) a

-- the deeds of a log, newest first; each is read with the addresses that the older lines tell
unfoldable pub deeds : Saved → List Line → List Change
deeds sv [] = []
deeds sv (l ∷ ls) = deed (addresses sv ls) l ∷ deeds sv ls

-- ---- The look back

-- the active ID is the last load's
unfoldable pub active_id : List Change → ℕ
active_id [] = 1
active_id (Keep ∷ ds) = active_id ds
active_id (Write p v ∷ ds) = active_id ds
active_id (Save gs ∷ ds) = active_id ds
active_id (TakeOut gs ∷ ds) = active_id ds
active_id (Load gs id ∷ ds) = id
active_id (SavePending ∷ ds) = active_id ds

-- what is saved for a parameter, and the ID that C was saved with
unfoldable pub held_for : Saved → Parameter → Held Value
held_for sv q = held_in (λ (r : List ℕ). field r q) (saved (row q).group sv)

abbrev pub head_of : List ℕ → ℕ
head_of [] = 0
head_of (b ∷ bs) = b

unfoldable pub held_id_in : Saved → Held ℕ
held_id_in sv = held_in head_of (saved C sv)

-- the ID that is held with C: the active one at its last save
unfoldable pub held_id : Saved → List Change → Held ℕ
held_id sv [] = held_id_in sv
held_id sv (Keep ∷ ds) = held_id sv ds
held_id sv (Write p v ∷ ds) = held_id sv ds
held_id sv (Save gs ∷ ds) = cond (has gs C) (kept (active_id ds)) (held_id sv ds)
held_id sv (TakeOut gs ∷ ds) = cond (has gs C) absent (held_id sv ds)
held_id sv (Load gs id ∷ ds) = held_id sv ds
held_id sv (SavePending ∷ ds) = held_id sv ds

-- an ID is held, and it is another one
abbrev pub is_other : Held ℕ → ℕ → Bool
is_other absent id = false
is_other (kept n) id = not (eqb n id)

-- what a load with an ID gives: what is held, else the default; and the default where the COB-ID rule says so
unfoldable pub at_load : Parameter → ℕ → Held Value → Held ℕ → Value
at_load q id absent c = default_for id q
at_load q id (kept v) c = cond (follows_id q && is_other c id) (default_for id q) v

unfoldable mutual
  -- the value of parameter q: its last accepted write since its group was loaded, else what was held for it at that load, else the default,
  -- with the forced changes: a changed covered value or signature, a load word, and the COB-ID rule
  pub value : Saved → Parameter → List Change → Value
  value sv q [] = default_for 1 q
  value sv q (Keep ∷ ds) = value sv q ds
  value sv q (Write p v ∷ ds) =
      cond (same q p) v (cond (revokes p q && changes p v (λ (r : Parameter). value sv r ds)) (U8 0) (value sv q ds))
  value sv q (Save gs ∷ ds) = value sv q ds
  value sv q (TakeOut gs ∷ ds) = cond (has gs (row q).group && same q (validity_of (row q).group)) (U8 0) (value sv q ds)
  value sv q (Load gs id ∷ ds) = cond (has gs (row q).group) (at_load q id (held sv q ds) (held_id sv ds)) (value sv q ds)
  value sv q (SavePending ∷ ds) = value sv q ds

  -- what the store holds for q: its value at the last save of its group, nothing after a load word, and what was saved at first before either
  pub held : Saved → Parameter → List Change → Held Value
  held sv q [] = held_for sv q
  held sv q (Keep ∷ ds) = held sv q ds
  held sv q (Write p v ∷ ds) = held sv q ds
  held sv q (Save gs ∷ ds) = cond (has gs (row q).group) (kept (value sv q ds)) (held sv q ds)
  held sv q (TakeOut gs ∷ ds) = cond (has gs (row q).group) absent (held sv q ds)
  held sv q (Load gs id ∷ ds) = held sv q ds
  held sv q (SavePending ∷ ds) = held sv q ds
