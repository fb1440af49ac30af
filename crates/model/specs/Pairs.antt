-- The user's third demand, its second half: what a safety pair is, and when every safety frame of a log stands in one. The CAN-IDs 101h..180h are
-- those of safety frames. Assumes nothing.
use Rattle.std.specs.Prelude.{ℕ, ◌+◌, ◌-◌, ◌≡◌, Bool, true, false, cond, List, [], ◌∷◌}
use Rattle.std.specs.Float.{binary32}
use Rattle.std.specs.Float.Ieee.{to_bits}
use Rattle.model.specs.declared.Parameter.{Parameter}
use Rattle.model.specs.declared.Group.{Group}
use Rattle.model.specs.declared.Group.TheVariants.{A}
use Rattle.model.specs.declared.Change.{Change}
use Rattle.model.specs.declared.Change.TheVariants.{Keep, Write, Save, TakeOut, Load, SavePending}
use Rattle.model.specs.declared.Service.{Service}
use Rattle.model.specs.declared.Service.TheVariants.{Nothing, Tick, Sample, Nmt, Sync, Remote, Sdo, Lss}
use Rattle.model.specs.declared.Fv.{Fv}
use Rattle.model.specs.declared.Frame.{Frame}
use Rattle.model.specs.declared.Settings.{Settings}
use Rattle.model.specs.Bytes.{low_bytes, within}
use Rattle.model.specs.Reading.{pv_of, integer_of}
use Rattle.model.specs.Frames.{frame}
use Rattle.model.specs.Settings.{has, in_force, made}
use Rattle.model.specs.Validity.{signs}
use Rattle.model.specs.Store.{Saved}
use Rattle.model.specs.Service.{service}
use Rattle.model.specs.Run.{Line, powered, called, sent_in}
use Rattle.model.specs.History.{is_served, service_deed, addresses, deeds, value}

-- ---- A pair

-- the CAN-IDs of safety frames
abbrev pub safety : Frame → Bool
safety f = within 0x101 0x180 f.id

-- the bits of PV, of settings and FV
abbrev pub bits_of : Settings → Fv → ℕ
bits_of k fv = to_bits binary32 (pv_of k.application.scaling fv).0

-- frames a and b are a pair in the answer to v, with the settings k and FV in force: v is a tick; a carries the bits of PV on 1301h:5, and b
-- their inverse on 1301h:6; both signatures are the CRCs of the values in force; the second COB-ID follows the first; and the reading is not
-- capped (as that of an infinity or a NaN would be)
pub record Pair (v : Service) (k : Settings) (fv : Fv) (a b : Frame) : Type 0 where
  pub in_tick : v ≡ Tick
  pub first : a ≡ frame k.communication.srdo.first (low_bytes 4 (bits_of k fv))
  pub second : b ≡ frame k.communication.srdo.second (low_bytes 4 (0xffffffff - bits_of k fv))
  pub signed : (g : Group) → signs g (in_force k) ≡ true
  pub follows : k.communication.srdo.second ≡ k.communication.srdo.first + 1
  pub not_capped : (integer_of (pv_of k.application.scaling fv) k.application.digits).capped ≡ false

-- in these frames each that has such a CAN-ID stands in a pair
pub data Safe (v : Service) (k : Settings) (fv : Fv) : List Frame → Type 0 where
  none : Safe v k fv []
  other : {a : Frame} {fs : List Frame} → safety a ≡ false → Safe v k fv fs → Safe v k fv (a ∷ fs)
  pair : {a b : Frame} {fs : List Frame} → Pair v k fv a b → Safe v k fv fs → Safe v k fv (a ∷ b ∷ fs)

-- ---- FV, as the log tells it

abbrev pub zero_fv : Fv
zero_fv = record { 0 = 0 }

-- after a service
abbrev pub sampled_in : Service → Fv → Fv
sampled_in Nothing old = old
sampled_in Tick old = old
sampled_in (Sample fv) old = fv
sampled_in (Nmt command to) old = old
sampled_in Sync old = old
sampled_in (Remote to) old = old
sampled_in (Sdo to r) old = old
sampled_in (Lss r) old = old

-- and after the deed that it did: a load of A sets it to 0
abbrev pub fv_after : Change → Service → Fv → Fv
fv_after Keep v old = sampled_in v old
fv_after (Write p x) v old = sampled_in v old
fv_after (Save gs) v old = sampled_in v old
fv_after (TakeOut gs) v old = sampled_in v old
fv_after (Load gs id) v old = cond (has gs A) zero_fv old
fv_after SavePending v old = sampled_in v old

-- the last sample since A was last loaded, else 0
unfoldable pub fv_of : Saved → List Line → Fv
fv_of sv [] = zero_fv
fv_of sv (powered room number sent ∷ ls) = zero_fv
fv_of sv (called event room number sent ∷ ls) =
    cond (is_served event room) (fv_after (service_deed (addresses sv ls) (service event) sent) (service event) (fv_of sv ls)) (fv_of sv ls)

-- ---- A log

-- the service of a line; a power-on has none
abbrev pub service_in : Line → Service
service_in (powered room number sent) = Nothing
service_in (called event room number sent) = service event

-- the settings that a log tells
abbrev pub settings_told : Saved → List Line → Settings
settings_told sv log = made (λ (q : Parameter). value sv q (deeds sv log))

-- each line, by what the log said when it was written
abbrev pub SafeLog : Saved → List Line → Type 0
SafeLog sv [] = Unit {0}
SafeLog sv (l ∷ ls) = Safe (service_in l) (settings_told sv (l ∷ ls)) (fv_of sv (l ∷ ls)) (sent_in l) × SafeLog sv ls
