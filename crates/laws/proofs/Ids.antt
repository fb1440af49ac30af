-- The CAN-IDs of the frames that the node sends. SDO replies are on the node's own; and every frame of an event, from a state that keeps the rules, or of
-- a power-on has a CAN-ID of 11 bits. Assumes nothing.
use mathlib.Core.Path.{◌≡◌, refl}
use mathlib.Core.Bool.{Bool, true, false, cond, ◌&&◌, not}
use mathlib.Core.List.{List, [], ◌∷◌, ◌++◌}
use Prim.Native.Nat.{ℕ, ◌+◌, ◌%◌, ◌≤◌}
use native.Mathlib.Omega.{arith}
use lib.Dec.{eqb}
use Rattle.std.proofs.Common.{Result, Ok, Err}
use Rattle.model.specs.declared.Parameter.TheVariants.{P1301s5, P1301s6}
use Rattle.model.specs.declared.Group.TheVariants.{C}
use Rattle.model.specs.declared.Groups.TheVariants.{Both}
use Rattle.model.specs.declared.Change.{Change}
use Rattle.model.specs.declared.Change.TheVariants.{Keep, Write, Save, TakeOut, Load, SavePending}
use Rattle.model.specs.declared.Entry.{Entry}
use Rattle.model.specs.declared.Missing.{Missing}
use Rattle.model.specs.declared.Content.{Content}
use Rattle.model.specs.declared.Content.TheVariants.{Text, Plain}
use Rattle.model.specs.declared.Service.{Service}
use Rattle.model.specs.declared.Service.TheVariants.{Nothing, Tick, Sample, Nmt, Sync, Remote, Sdo, Lss}
use Rattle.model.specs.declared.SdoRequest.{SdoRequest}
use Rattle.model.specs.declared.SdoRequest.TheVariants as R
use Rattle.model.specs.declared.LssRequest.{LssRequest}
use Rattle.model.specs.declared.LssRequest.TheVariants.{SwitchMode, Select, SetNodeId, SetBitIndex, StorePending, AskIdentity, AskNodeId, OtherLss}
use Rattle.model.specs.declared.Verdict.TheVariants.{Inside, Outside}
use Rattle.model.specs.declared.Frame.{Frame}
use Rattle.model.specs.declared.Identity.{Identity}
use Rattle.model.specs.declared.State.{State}
use Rattle.model.specs.Frames.{when, sdo_replies, tpdos}
use Rattle.model.specs.Bytes.{within}
use Rattle.model.specs.Settings.{in_force, rows, in_ranges, judge, is_inside, odd_cob, even_cob}
use Rattle.model.specs.Validity.{honest, sound}
use Rattle.model.specs.Store.{read, address_from}
use Rattle.model.specs.Parts.{id_of, is_operational, is_pre_operational, capped}
use Rattle.model.specs.Dictionary.{find, content_of}
use Rattle.model.specs.Service.{service}
use Rattle.model.specs.Time.{communication, sends_at, sync_sends, answers_remote, clocked, heartbeat_due, tpdo_due, srdo_due, heartbeat_frame, tpdo_frame, srdo_first, srdo_second, tick_frames, sync_frames, remote_frames, emcy_due, emcy_frame}
use Rattle.model.specs.Sdo.{read_from, uploaded, sends_segment, segment_reply, checked_write, write_reply, sdo_reply, serves}
use Rattle.model.specs.Lss.{answered, lss_reply}
use Rattle.model.specs.Rules.{rules}
use Rattle.model.specs.Step.{change_of, reply, booted, changed, reports, served, step, unborn, power_on}
use Rattle.laws.proofs.Tests.{cond_case, and_l, within_is}
use Rattle.laws.proofs.Parameters.{in_rows, range_at}
use Rattle.laws.proofs.Loading.{address_ok}
use Rattle.laws.proofs.Allowed.{Allowed, id_ok, sound_ok, change_allowed}
use Rattle.laws.proofs.Deeds.{served_id_most}
use Rattle.laws.proofs.RulesKept.{unborn_rules}

-- ---- SDO replies

pub read_id : (f : Result Entry Missing) (index sub : ℕ) (s : State) → (read_from f index sub s).id ≡ sdo_replies + id_of s
read_id (Err m) index sub s = refl
read_id (Ok e) index sub s = go (content_of e s)
  where
    go : (c : Content) → (uploaded c index sub s).id ≡ sdo_replies + id_of s
    go Text = refl
    go (Plain x) = refl

pub write_id : (c : Result Change ℕ) (index sub : ℕ) (s : State) → (write_reply c index sub s).id ≡ sdo_replies + id_of s
write_id (Ok c) index sub s = refl
write_id (Err code) index sub s = refl

pub segment_id : (toggle : ℕ) (s : State) → (segment_reply toggle s).id ≡ sdo_replies + id_of s
unfolding segment_reply
segment_id toggle s = cond_case (λ (f : Frame). f.id ≡ sdo_replies + id_of s) (sends_segment toggle s.core.upload) (λ _. refl) (λ _. refl)

-- ---- 11 bits

-- each frame has a CAN-ID of 11 bits
abbrev pub Ids : List Frame → Type 0
Ids [] = Unit {0}
Ids (f ∷ fs) = (f.id ≤ 0x7ff) × Ids fs

ids_append : (xs ys : List Frame) → Ids xs → Ids ys → Ids (xs ++ ys)
ids_append [] ys h k = k
ids_append (f ∷ fs) ys h k = (h.0, ids_append fs ys h.1 k)

when_id : (b : Bool) (f : Frame) → f.id ≤ 0x7ff → Ids (when b f)
when_id true f h = (h, tt)
when_id false f h = tt

-- the node's own CAN-IDs, above a base
own : (id base : ℕ) → id ≤ 127 → base ≤ 0x700 → base + id ≤ 0x7ff
own id base h k = omega arith

id_most : (s : State) → rules s ≡ true → id_of s ≤ 127
id_most s r = (within_is 1 127 (id_of s) (id_ok s r)).1

sdo_ids : (q : SdoRequest) (s : State) → id_of s ≤ 127 → Ids (sdo_reply q s)
unfolding sdo_reply
sdo_ids (R.Download index sub size d) s h = (rw (write_id (checked_write (find index sub) size d s) index sub s) (omega arith), tt)
sdo_ids (R.Upload index sub) s h = (rw (read_id (find index sub) index sub s) (omega arith), tt)
sdo_ids (R.UploadSegment toggle) s h = (rw (segment_id toggle s) (omega arith), tt)
sdo_ids R.ClientAbort s h = tt
sdo_ids R.DownloadSegment s h = (omega arith, tt)
sdo_ids (R.Unknown index sub) s h = (omega arith, tt)

answer_id : (b : Bool) (d : List ℕ) → Ids (when b (answered d))
answer_id b d = when_id b (answered d) (omega arith)

lss_ids : (q : LssRequest) (s : State) → Ids (lss_reply q s)
unfolding lss_reply
lss_ids (Select n number) s = search answer_id
lss_ids (SwitchMode mode) s = tt
lss_ids (SetNodeId id) s = search answer_id
lss_ids (SetBitIndex table bit) s = search answer_id
lss_ids StorePending s = search answer_id
lss_ids (AskIdentity n) s = search answer_id
lss_ids AskNodeId s = search answer_id
lss_ids OtherLss s = tt

boot_ids : (c : Change) (s : State) → Allowed c s → Ids (booted c)
boot_ids Keep s a = tt
boot_ids (Write p x) s a = tt
boot_ids (Save gs) s a = tt
boot_ids (TakeOut gs) s a = tt
boot_ids (Load gs id) s a = let h = (within_is 1 127 id a.0).1 in (omega arith, tt)
boot_ids SavePending s a = tt

-- a value of a set is in it
in_set : (b : Bool) → is_inside (cond b Inside Outside) ≡ true → b ≡ true
in_set true h = refl
in_set false h = h

-- the SRDO's COB-IDs, by their ranges
cob_ids : (s : State) → rules s ≡ true → ((communication s).srdo.first ≤ 0x7ff) × ((communication s).srdo.second ≤ 0x7ff)
unfolding sound judge
cob_ids s r =
    let f = (communication s).srdo.first in
    let g = (communication s).srdo.second in
    let h = and_l (in_ranges (rows C) (in_force s.settings)) (honest C (in_force s.settings)) (sound_ok s r C) in
    let odd = range_at (rows C) (in_force s.settings) P1301s5 (in_rows P1301s5) h in
    let even = range_at (rows C) (in_force s.settings) P1301s6 (in_rows P1301s6) h in
    let a = (within_is 0x101 0x17f f (and_l (within 0x101 0x17f f) (eqb (f % 2) 1) (in_set (odd_cob f) odd))).1 in
    let b = (within_is 0x102 0x180 g (and_l (within 0x102 0x180 g) (eqb (g % 2) 0) (in_set (even_cob g) even))).1 in
    (omega arith, omega arith)

tick_ids : (s : State) → rules s ≡ true → Ids (tick_frames s)
unfolding tick_frames tpdo_frame srdo_first srdo_second
tick_ids s r =
    let t = clocked s in
    let h : id_of s ≤ 127 = id_most s r in
    let pair = srdo_due t && not (capped t) in
    ids_append (when (heartbeat_due t) (heartbeat_frame t)) _ (when_id (heartbeat_due t) (heartbeat_frame t) (omega arith))
    (ids_append (when (tpdo_due t) (tpdo_frame t)) _ (when_id (tpdo_due t) (tpdo_frame t) (omega arith))
    (ids_append (when pair (srdo_first t)) _ (when_id pair (srdo_first t) (cob_ids s r).0) (when_id pair (srdo_second t) (cob_ids s r).1)))

reply_ids : (v : Service) (s : State) → rules s ≡ true → Ids (reply v s)
unfolding reply sync_frames remote_frames tpdo_frame
reply_ids Nothing s r = tt
reply_ids Tick s r = tick_ids s r
reply_ids (Sample fv) s r = tt
reply_ids (Nmt command to) s r = tt
reply_ids Sync s r =
    when_id (is_operational s.core && sync_sends (sends_at s) (communication s).tpdo.kind s.core.tpdo) (tpdo_frame s) (own (id_of s) tpdos (id_most s r) (omega arith))
reply_ids (Remote to) s r = when_id (answers_remote to s) (tpdo_frame s) (own (id_of s) tpdos (id_most s r) (omega arith))
reply_ids (Sdo to q) s r = cond_case Ids (serves to s) (λ _. sdo_ids q s (id_most s r)) (λ _. tt)
reply_ids (Lss q) s r = cond_case Ids (is_pre_operational s.core) (λ _. lss_ids q s) (λ _. tt)

emcy_id : (b : Bool) (t : State) → id_of t ≤ 127 → Ids (when b (emcy_frame t))
unfolding emcy_frame
emcy_id b t h = when_id b (emcy_frame t) (omega arith)

served_ids : (c : Change) (v : Service) (s : State) (st : List ℕ) → Allowed c s → rules s ≡ true → Ids (served c v s st).sent
unfolding served
served_ids c v s st a r =
    let t = changed c v s (read st) in
    ids_append (reply v s) _ (reply_ids v s r)
    (ids_append (booted c) _ (boot_ids c s a) (emcy_id (reports v && emcy_due t) t (served_id_most c v s st a r)))

-- THE THEOREM
pub step_ids : (e : List ℕ) (s : State) (st : List ℕ) → rules s ≡ true → Ids (step e s st).sent
unfolding step
step_ids e s st r = served_ids (change_of (service e) s (read st)) (service e) s st (change_allowed s st r (service e)) r

pub power_on_ids : (i : Identity) (st : List ℕ) → Ids (power_on i st).sent
unfolding power_on
power_on_ids i st = served_ids (Load Both (address_from (read st)).id) Nothing (unborn i) st ((address_ok st).0, refl) (unborn_rules i)
