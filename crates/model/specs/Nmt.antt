-- Document 01, "NMT, time, SYNC", its first paragraph: NMT commands and resets. Assumes nothing.
use Rattle.std.specs.Prelude.{ℕ, ◌+◌, Bool, false, cond, not, ◌&&◌, ◌||◌, [], ◌∷◌, eqb}
use Rattle.model.specs.declared.Group.TheVariants.{C, A}
use Rattle.model.specs.declared.Groups.{Groups}
use Rattle.model.specs.declared.Groups.TheVariants.{Both, OnlyC, OnlyA}
use Rattle.model.specs.declared.Change.{Change}
use Rattle.model.specs.declared.Change.TheVariants.{Keep, Load}
use Rattle.model.specs.declared.Settings.{Settings}
use Rattle.model.specs.declared.Frame.{Frame}
use Rattle.model.specs.declared.Selection.{Selection}
use Rattle.model.specs.declared.Core.{Core}
use Rattle.model.specs.declared.State.{State}
use Rattle.model.specs.Choice.{◌⇒◌, first_hit}
use Rattle.model.specs.Frames.{frame, heartbeats}
use Rattle.model.specs.Settings.{in_force}
use Rattle.model.specs.Validity.{vouched}
use Rattle.model.specs.Store.{Saved, address_from}
use Rattle.model.specs.Parts.{with_addresses, with_nmt, with_reported, with_fv, with_lss, with_upload, address, no_selection, no_upload, id_of, stopped, operational, pre_operational, is_operational, is_pre_operational}
use Rattle.model.specs.Time.{restart_heartbeat, restart_tpdo, restart_srdo}

-- ---- The commands

abbrev pub start_command : ℕ
start_command = 1

abbrev pub stop_command : ℕ
stop_command = 2

abbrev pub pre_operational_command : ℕ
pre_operational_command = 128

abbrev pub reset_node_command : ℕ
reset_node_command = 129

abbrev pub reset_communication_command : ℕ
reset_communication_command = 130

-- a command is for the node with its ID, or for all
abbrev pub is_for : ℕ → ℕ → Bool
is_for to id = eqb to 0 || eqb to id

-- ---- Start, Stop and Pre-operational

-- a node that is no longer Pre-operational has no LSS session: it is back in waiting, and numbers that matched are forgotten
unfoldable pub lss_left : Core → Selection
lss_left c = cond (is_pre_operational c) no_selection c.lss

-- into another NMT state than Pre-operational
abbrev pub leave_for : ℕ → Core → Core
leave_for n c = with_nmt (with_lss c (lss_left c)) n

-- Start asks for 51FEh to vouch and, with an SRDO that is on, for 13FEh too
unfoldable pub start_obeyed : Settings → Bool
start_obeyed k = vouched A (in_force k) && (eqb k.communication.srdo.direction 0 || vouched C (in_force k))

-- on the way into Operational TPDO and SRDO begin anew; a node that is there already stays as it is
unfoldable pub start : Settings → Core → Core
start k c = cond (not (is_operational c) && start_obeyed k) (restart_srdo (restart_tpdo (leave_for operational c))) c

-- a node that is stopped has no upload open
unfoldable pub stop : Core → Core
stop c = with_upload (leave_for stopped c) no_upload

-- the command Pre-operational; it ends nothing
abbrev pub pre_operational_core : Core → Core
pre_operational_core c = with_nmt c pre_operational

-- what a command other than a reset does
unfoldable pub obeyed : ℕ → Settings → Core → Core
obeyed command k c =
    first_hit
    ((eqb command start_command ⇒ start k c)
    ∷ (eqb command stop_command ⇒ stop c)
    ∷ (eqb command pre_operational_command ⇒ pre_operational_core c)
    ∷ [])
    c

-- a command for another node does nothing
unfoldable pub commanded : ℕ → ℕ → State → Core
commanded command to s = cond (is_for to (id_of s)) (obeyed command s.settings s.core) s.core

-- ---- Resets: they are loads, which come with the ID that becomes active

-- reset node loads both groups, under the ID saved in N; reset communication loads C, under the pending ID
unfoldable pub reset_asked : ℕ → State → Saved → Change
reset_asked command s sv =
    first_hit
    ((eqb command reset_node_command ⇒ Load Both (address_from sv).id)
    ∷ (eqb command reset_communication_command ⇒ Load OnlyC s.core.pending.id)
    ∷ [])
    Keep

unfoldable pub nmt_change : ℕ → ℕ → State → Saved → Change
nmt_change command to s sv = cond (is_for to (id_of s)) (reset_asked command s sv) Keep

-- where A is loaded too FV goes to 0, and the saved pair is active and pending; else the bit indexes stay
unfoldable pub readied : Groups → ℕ → Saved → Core → Core
readied Both id sv c = with_fv (with_addresses c (address id (address_from sv).bit) (address id (address_from sv).bit)) (record { 0 = 0 })
readied OnlyC id sv c = with_addresses c (address id c.active.bit) (address id c.pending.bit)
readied OnlyA id sv c = c

-- the rest of the state as a fresh start has it: Pre-operational, nothing open, nothing reported, and all counting begins at the present clock
unfoldable pub cleared : Core → Core
cleared c =
    restart_srdo (restart_tpdo (restart_heartbeat (with_reported (with_upload (with_lss (pre_operational_core c) no_selection) no_upload) false)))

-- Start by itself, where 2330h is 1
unfoldable pub auto_start : Settings → Core → Core
auto_start k c = cond (eqb k.application.autostart 1) (start k c) c

-- the core after a load, with the parameters that were loaded
unfoldable pub reset : Groups → ℕ → Saved → Settings → Core → Core
reset gs id sv k c = auto_start k (cleared (readied gs id sv c))

-- the boot-up: a data byte 0, where a heartbeat has the NMT state
abbrev pub boot_up : ℕ → Frame
boot_up id = frame (heartbeats + id) (0 ∷ [])
