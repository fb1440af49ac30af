-- Document 01, "Events, frames and the answer": the state rules, and no others. Assumes nothing.
use Rattle.std.specs.Prelude.{ℕ, Bool, cond, not, ◌&&◌, ◌||◌, eqb, leb, ltb}
use Rattle.model.specs.declared.Group.TheVariants.{C, A}
use Rattle.model.specs.declared.Upload.{Upload}
use Rattle.model.specs.declared.State.{State}
use Rattle.model.specs.Bytes.{within}
use Rattle.model.specs.Settings.{rows, in_force, in_ranges}
use Rattle.model.specs.Validity.{honest}
use Rattle.model.specs.Store.{node_id, bit_index}
use Rattle.model.specs.Parts.{is_stopped, is_operational, is_pre_operational, capped}
use Rattle.model.specs.Time.{communication, differ}
use Rattle.model.specs.Nmt.{start_obeyed}

-- the Node-ID and the pending one
unfoldable pub rule_ids : State → Bool
rule_ids s = node_id s.core.active.id && node_id s.core.pending.id

-- the bit index and the pending one
unfoldable pub rule_bits : State → Bool
rule_bits s = bit_index s.core.active.bit && bit_index s.core.pending.bit

-- one of the three NMT states
unfoldable pub rule_nmt : State → Bool
rule_nmt s = is_stopped s.core || (is_operational s.core || is_pre_operational s.core)

-- every parameter in range
unfoldable pub rule_ranges : State → Bool
rule_ranges s = in_ranges (rows C) (in_force s.settings) && in_ranges (rows A) (in_force s.settings)

-- no false validity byte
unfoldable pub rule_honest : State → Bool
rule_honest s = honest C (in_force s.settings) && honest A (in_force s.settings)

-- Operational only with parameters that Start would accept
unfoldable pub rule_start : State → Bool
rule_start s = not (is_operational s.core) || start_obeyed s.settings

-- the reported flag tells whether the reading is capped, unless Stopped
unfoldable pub rule_reported : State → Bool
rule_reported s = is_stopped s.core || not (differ (capped s) s.core.reported)

-- LSS configuration in Pre-operational alone, and a progress of at most three numbers
unfoldable pub rule_lss : State → Bool
rule_lss s = (not s.core.lss.configuration || is_pre_operational s.core) && leb s.core.lss.progress 3

-- SYNCs are counted below a type of 1..240, and by no other type
unfoldable pub rule_sync : State → Bool
rule_sync s =
    cond (within 1 240 (communication s).tpdo.kind) (ltb s.core.tpdo.syncs (communication s).tpdo.kind) (eqb s.core.tpdo.syncs 0)

-- an upload that stands at a byte, with a toggle
abbrev pub stands : ℕ → ℕ → Upload → Bool
stands at toggle u = eqb u.at at && eqb u.toggle toggle

-- an open upload is before one of the name's three segments
unfoldable pub rule_upload : State → Bool
rule_upload s =
    let u = s.core.upload in
    not u.busy || (stands 0 0 u || (stands 7 1 u || stands 14 0 u))

-- all of them
unfoldable pub rules : State → Bool
rules s =
    rule_ids s
    && (rule_bits s
    && (rule_nmt s
    && (rule_ranges s && (rule_honest s && (rule_start s && (rule_reported s && (rule_lss s && (rule_sync s && rule_upload s))))))))
