-- Document 01, "LSS (CiA 305)": selection by identity, and what is asked in configuration. Assumes nothing.
use Rattle.std.specs.Prelude.{ℕ, ◌+◌, Bool, true, false, cond, ◌&&◌, ◌||◌, List, [], ◌∷◌, eqb}
use Rattle.model.specs.declared.LssRequest.{LssRequest}
use Rattle.model.specs.declared.LssRequest.TheVariants.{SwitchMode, Select, SetNodeId, SetBitIndex, StorePending, AskIdentity, AskNodeId, OtherLss}
use Rattle.model.specs.declared.Change.{Change}
use Rattle.model.specs.declared.Change.TheVariants.{Keep, SavePending}
use Rattle.model.specs.declared.Identity.{Identity}
use Rattle.model.specs.declared.Address.{Address}
use Rattle.model.specs.declared.Selection.{Selection}
use Rattle.model.specs.declared.Frame.{Frame}
use Rattle.model.specs.declared.Core.{Core}
use Rattle.model.specs.declared.State.{State}
use Rattle.model.specs.Choice.{◌⇒◌, first_hit}
use Rattle.model.specs.Bytes.{low_bytes}
use Rattle.model.specs.Frames.{full, when, lss_answers}
use Rattle.model.specs.Service.{lss_node_id, lss_bit_index, lss_store, lss_identity, lss_active_id}
use Rattle.model.specs.Store.{node_id, bit_index}
use Rattle.model.specs.Parts.{with_addresses, with_lss, address, selection, id_of}

-- ---- Selection

-- the four numbers of the identity, from 0
unfoldable pub identity_part : ℕ → Identity → ℕ
identity_part n i = first_hit ((eqb n 0 ⇒ i.vendor) ∷ (eqb n 1 ⇒ i.product) ∷ (eqb n 2 ⇒ i.revision) ∷ []) i.serial

-- a number that matches and is the next one; the first counts as next at any time
unfoldable pub matches : ℕ → ℕ → State → Bool
matches n number s = eqb number (identity_part n s.identity) && (eqb n 0 || eqb n s.core.lss.progress)

-- the last of the four selects the node
abbrev pub selects : ℕ → ℕ → State → Bool
selects n number s = eqb n 3 && matches n number s

-- the progress after a number: back to none where it doesn't match
unfoldable pub selection_after : ℕ → ℕ → State → Selection
selection_after n number s =
    let now = s.core.lss.configuration in
    cond (matches n number s) (cond (eqb n 3) (selection true 0) (selection now (n + 1))) (selection now 0)

-- mode 0 is waiting, 1 configuration; another changes nothing
unfoldable pub mode_after : ℕ → Bool → Bool
mode_after mode now = first_hit ((eqb mode 0 ⇒ false) ∷ (eqb mode 1 ⇒ true) ∷ []) now

-- the LSS state after a request: the next number alone carries the selection on, and after any other request it begins at the first number again
unfoldable pub lss_after : LssRequest → State → Selection
lss_after (Select n number) s = selection_after n number s
lss_after (SwitchMode mode) s = selection (mode_after mode s.core.lss.configuration) 0
lss_after (SetNodeId id) s = selection s.core.lss.configuration 0
lss_after (SetBitIndex table bit) s = selection s.core.lss.configuration 0
lss_after StorePending s = selection s.core.lss.configuration 0
lss_after (AskIdentity n) s = selection s.core.lss.configuration 0
lss_after AskNodeId s = selection s.core.lss.configuration 0
lss_after OtherLss s = selection s.core.lss.configuration 0

-- ---- What is asked in configuration

abbrev pub in_configuration : State → Bool
in_configuration s = s.core.lss.configuration

-- a bit index of the only table there is
abbrev pub bit_in_table : ℕ → ℕ → Bool
bit_in_table table bit = eqb table 0 && bit_index bit

-- the pending pair, with another ID or another bit index where that is allowed
unfoldable pub pending_after : LssRequest → State → Address
pending_after (Select n number) s = s.core.pending
pending_after (SwitchMode mode) s = s.core.pending
pending_after (SetNodeId id) s =
    cond (in_configuration s && node_id id) (address id s.core.pending.bit) s.core.pending
pending_after (SetBitIndex table bit) s =
    cond (in_configuration s && bit_in_table table bit) (address s.core.pending.id bit) s.core.pending
pending_after StorePending s = s.core.pending
pending_after (AskIdentity n) s = s.core.pending
pending_after AskNodeId s = s.core.pending
pending_after OtherLss s = s.core.pending

-- 17h writes the pending pair into the store
unfoldable pub lss_change : LssRequest → State → Change
lss_change (Select n number) s = Keep
lss_change (SwitchMode mode) s = Keep
lss_change (SetNodeId id) s = Keep
lss_change (SetBitIndex table bit) s = Keep
lss_change StorePending s = cond (in_configuration s) SavePending Keep
lss_change (AskIdentity n) s = Keep
lss_change AskNodeId s = Keep
lss_change OtherLss s = Keep

-- ---- The answers

-- eight bytes, zeros after these
abbrev pub answered : List ℕ → Frame
answered d = full lss_answers d

-- the error byte
abbrev pub error_unless : Bool → ℕ
error_unless true = 0
error_unless false = 1

-- 44h tells that the last number matched, in waiting too; all else is answered in configuration alone
unfoldable pub lss_reply : LssRequest → State → List Frame
lss_reply (Select n number) s = when (selects n number s) (answered (0x44 ∷ []))
lss_reply (SwitchMode mode) s = []
lss_reply (SetNodeId id) s = when (in_configuration s) (answered (lss_node_id ∷ error_unless (node_id id) ∷ []))
lss_reply (SetBitIndex table bit) s = when (in_configuration s) (answered (lss_bit_index ∷ error_unless (bit_in_table table bit) ∷ []))
lss_reply StorePending s = when (in_configuration s) (answered (lss_store ∷ 0 ∷ []))
lss_reply (AskIdentity n) s = when (in_configuration s) (answered ((lss_identity + n) ∷ low_bytes 4 (identity_part n s.identity)))
lss_reply AskNodeId s = when (in_configuration s) (answered (lss_active_id ∷ id_of s ∷ []))
lss_reply OtherLss s = []

-- the core after a request
abbrev pub lss_served : LssRequest → State → Core
lss_served r s = with_lss (with_addresses s.core s.core.active (pending_after r s)) (lss_after r s)
