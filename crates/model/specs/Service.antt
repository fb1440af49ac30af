-- What an event asks, by its bytes alone: no state is looked at here. Document 01, the opening sentences of "SDO", "NMT, time, SYNC" and "LSS".
-- Assumes nothing.
use Rattle.std.specs.Prelude.{Option, Some, None, ℕ, ◌+◌, ◌-◌, ◌/◌, ◌%◌, Bool, cond, ◌&&◌, List, [], ◌∷◌, eqb}
use Rattle.model.specs.declared.Service.{Service}
use Rattle.model.specs.declared.Service.TheVariants.{Nothing, Tick, Sample, Nmt, Sync, Remote, Sdo, Lss}
use Rattle.model.specs.declared.SdoRequest.{SdoRequest}
use Rattle.model.specs.declared.SdoRequest.TheVariants.{Download, Upload, UploadSegment, ClientAbort, DownloadSegment, Unknown}
use Rattle.model.specs.declared.LssRequest.{LssRequest}
use Rattle.model.specs.declared.LssRequest.TheVariants.{SwitchMode, Select, SetNodeId, SetBitIndex, StorePending, AskIdentity, AskNodeId, OtherLss}
use Rattle.model.specs.Choice.{◌⇒◌, first_hit}
use Rattle.model.specs.Bytes.{within}
use Rattle.model.specs.Frames.{kind_of_event, sample_in, can_id, flag_in, length_in, data_at, data_number, sync_id, tpdos, sdo_requests, lss_requests}

-- ---- SDO

-- the size that a download's first byte indicates, where it indicates one: 4 less its unused bytes
unfoldable pub size_in : ℕ → Option ℕ
size_in b = cond (eqb (b % 2) 1) (Some (4 - b / 4 % 4)) None

-- by the top three bits of byte 0; index, sub and the four data bytes follow it. A download must be expedited; bits that a request does not use
-- are ignored
abbrev pub sdo_by : ℕ → ℕ → ℕ → ℕ → SdoRequest
sdo_by first index sub four =
    first_hit
    ((eqb (first / 32) 0 ⇒ DownloadSegment)
    ∷ (eqb (first / 32) 1 && eqb (first / 2 % 2) 1 ⇒ Download index sub (size_in first) four)
    ∷ (eqb (first / 32) 2 ⇒ Upload index sub)
    ∷ (eqb (first / 32) 3 ⇒ UploadSegment (first / 16 % 2))
    ∷ (eqb (first / 32) 4 ⇒ ClientAbort)
    ∷ [])
    (Unknown index sub)

unfoldable pub sdo_request : List ℕ → SdoRequest
sdo_request e = sdo_by (data_at 0 e) (data_number 1 2 e) (data_at 3 e) (data_number 4 4 e)

-- ---- LSS

-- the command bytes; those of the identity begin a run of four, for its numbers in order
abbrev pub lss_mode : ℕ
lss_mode = 0x04

abbrev pub lss_node_id : ℕ
lss_node_id = 0x11

abbrev pub lss_bit_index : ℕ
lss_bit_index = 0x13

abbrev pub lss_store : ℕ
lss_store = 0x17

abbrev pub lss_select : ℕ
lss_select = 0x40

abbrev pub lss_identity : ℕ
lss_identity = 0x5a

abbrev pub lss_active_id : ℕ
lss_active_id = 0x5e

-- one of a run of four
abbrev pub of_four : ℕ → ℕ → Bool
of_four first command = within first (first + 3) command

-- by byte 0; the bytes after it, two of them or a number of four, are what the command takes
abbrev pub lss_by : ℕ → ℕ → ℕ → ℕ → LssRequest
lss_by command one two number =
    first_hit
    ((eqb command lss_mode ⇒ SwitchMode one)
    ∷ (of_four lss_select command ⇒ Select (command - lss_select) number)
    ∷ (eqb command lss_node_id ⇒ SetNodeId one)
    ∷ (eqb command lss_bit_index ⇒ SetBitIndex one two)
    ∷ (eqb command lss_store ⇒ StorePending)
    ∷ (of_four lss_identity command ⇒ AskIdentity (command - lss_identity))
    ∷ (eqb command lss_active_id ⇒ AskNodeId)
    ∷ [])
    OtherLss

unfoldable pub lss_request : List ℕ → LssRequest
lss_request e = lss_by (data_at 0 e) (data_at 1 e) (data_at 2 e) (data_number 1 4 e)

-- ---- Frames and events

-- a CAN-ID of one of the 127 nodes, above some base
abbrev pub of_node : ℕ → ℕ → Bool
of_node base id = within (base + 1) (base + 127) id

-- a remote frame: only those on a TPDO's CAN-ID mean anything
unfoldable pub remote_service : ℕ → Service
remote_service id = cond (of_node tpdos id) (Remote (id - tpdos)) Nothing

-- a frame: each service has its CAN-ID and length
unfoldable pub frame_service : List ℕ → Service
frame_service e =
    first_hit
    ((eqb (flag_in e) 1 ⇒ remote_service (can_id e))
    ∷ (eqb (can_id e) 0 && eqb (length_in e) 2 ⇒ Nmt (data_at 0 e) (data_at 1 e))
    ∷ (eqb (can_id e) sync_id && eqb (length_in e) 0 ⇒ Sync)
    ∷ (of_node sdo_requests (can_id e) && eqb (length_in e) 8 ⇒ Sdo (can_id e - sdo_requests) (sdo_request e))
    ∷ (eqb (can_id e) lss_requests && eqb (length_in e) 8 ⇒ Lss (lss_request e))
    ∷ [])
    Nothing

-- an event
unfoldable pub service : List ℕ → Service
service e =
    first_hit
    ((eqb (kind_of_event e) 2 ⇒ Tick) ∷ (eqb (kind_of_event e) 3 ⇒ Sample (record { 0 = sample_in e })) ∷ [])
    (frame_service e)
