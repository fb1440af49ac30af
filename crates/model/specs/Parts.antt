-- The state of document 01: its parts anew, and what is read off it. Assumes nothing.
use Rattle.std.specs.Prelude.{ℕ, ◌-◌, Bool, true, false, cond, eqb}
use Rattle.std.specs.Float.{binary32}
use Rattle.std.specs.Float.Ieee.{to_bits}
use Rattle.model.specs.declared.Fv.{Fv}
use Rattle.model.specs.declared.Pv.{Pv}
use Rattle.model.specs.declared.Integer.{Integer}
use Rattle.model.specs.declared.Identity.{Identity}
use Rattle.model.specs.declared.Settings.{Settings}
use Rattle.model.specs.declared.Address.{Address}
use Rattle.model.specs.declared.Timers.{Timers}
use Rattle.model.specs.declared.Sending.{Sending}
use Rattle.model.specs.declared.Selection.{Selection}
use Rattle.model.specs.declared.Upload.{Upload}
use Rattle.model.specs.declared.Core.{Core}
use Rattle.model.specs.declared.State.{State}
use Rattle.model.specs.Reading.{pv_of, integer_of}

-- ---- The state with one part anew

-- from its parts
abbrev pub state : Identity → Settings → Core → State
state i k c = record { identity = i; settings = k; core = c }

abbrev pub with_core : State → Core → State
with_core s c = state s.identity s.settings c

-- all that no save keeps, from its parts
abbrev pub core : Address → Address → ℕ → Bool → Fv → Timers → Sending → Selection → Upload → Core
core active pending nmt reported fv times tpdo lss upload =
    record {
      active = active;
      pending = pending;
      nmt = nmt;
      reported = reported;
      fv = fv;
      timers = times;
      tpdo = tpdo;
      lss = lss;
      upload = upload;
    }

-- with another active and pending pair of Node-ID and bit index
abbrev pub with_addresses : Core → Address → Address → Core
with_addresses c a p = core a p c.nmt c.reported c.fv c.timers c.tpdo c.lss c.upload

abbrev pub with_nmt : Core → ℕ → Core
with_nmt c n = core c.active c.pending n c.reported c.fv c.timers c.tpdo c.lss c.upload

abbrev pub with_reported : Core → Bool → Core
with_reported c r = core c.active c.pending c.nmt r c.fv c.timers c.tpdo c.lss c.upload

abbrev pub with_fv : Core → Fv → Core
with_fv c f = core c.active c.pending c.nmt c.reported f c.timers c.tpdo c.lss c.upload

abbrev pub with_timers : Core → Timers → Core
with_timers c t = core c.active c.pending c.nmt c.reported c.fv t c.tpdo c.lss c.upload

abbrev pub with_tpdo : Core → Sending → Core
with_tpdo c d = core c.active c.pending c.nmt c.reported c.fv c.timers d c.lss c.upload

abbrev pub with_lss : Core → Selection → Core
with_lss c l = core c.active c.pending c.nmt c.reported c.fv c.timers c.tpdo l c.upload

abbrev pub with_upload : Core → Upload → Core
with_upload c u = core c.active c.pending c.nmt c.reported c.fv c.timers c.tpdo c.lss u

-- ---- The parts anew

-- Node-ID and bit index
abbrev pub address : ℕ → ℕ → Address
address id bit = record { id = id; bit = bit }

-- the clock, and the starts of heartbeat, TPDO and SRDO
abbrev pub timers : ℕ → ℕ → ℕ → ℕ → Timers
timers clock heartbeat tpdo srdo = record { clock = clock; heartbeat = heartbeat; tpdo = tpdo; srdo = srdo }

-- SYNCs counted, and whether there is a new sample
abbrev pub sending : ℕ → Bool → Sending
sending n b = record { syncs = n; sample = b }

-- whether in configuration, and the progress
abbrev pub selection : Bool → ℕ → Selection
selection b n = record { configuration = b; progress = n }

-- in waiting, nothing matched yet
abbrev pub no_selection : Selection
no_selection = selection false 0

-- an upload that is open at a byte, with a toggle
abbrev pub open_upload : ℕ → ℕ → Upload
open_upload at toggle = record { busy = true; at = at; toggle = toggle }

-- none is open
abbrev pub no_upload : Upload
no_upload = record { busy = false; at = 0; toggle = 0 }

-- ---- What is read off it

-- the active Node-ID
abbrev pub id_of : State → ℕ
id_of s = s.core.active.id

-- the NMT states, by the number that a heartbeat tells
abbrev pub stopped : ℕ
stopped = 4

abbrev pub operational : ℕ
operational = 5

abbrev pub pre_operational : ℕ
pre_operational = 127

abbrev pub is_stopped : Core → Bool
is_stopped c = eqb c.nmt stopped

abbrev pub is_operational : Core → Bool
is_operational c = eqb c.nmt operational

abbrev pub is_pre_operational : Core → Bool
is_pre_operational c = eqb c.nmt pre_operational

-- ---- Document 01, "Readings": made anew from FV and the parameters whenever they are asked for

-- PV
abbrev pub pv : State → Pv
pv s = pv_of s.settings.application.scaling s.core.fv

-- the integer PV
abbrev pub integer_pv : State → Integer
integer_pv s = integer_of (pv s) s.settings.application.digits

-- the present reading is capped
abbrev pub capped : State → Bool
capped s = (integer_pv s).capped

-- the bits of PV (5030h:1), and their inverse (5030h:2)
abbrev pub pv_bits : State → ℕ
pv_bits s = to_bits binary32 (pv s).0

abbrev pub pv_inverse : State → ℕ
pv_inverse s = 0xffffffff - pv_bits s

-- the error register (1001h)
unfoldable pub error_register : State → ℕ
error_register s = cond (capped s) 0x81 0
