-- Safety pairs. Over any run, a frame with a CAN-ID in 101h..180h stands in a pair that one tick sends: the first carries the bits of PV on
-- 1301h:5, the second their inverse on 1301h:6; and at that moment both signatures are the CRCs of the values in force, 1301h:6 is 1301h:5 + 1,
-- and the reading is not capped. No other frame of the node has such a CAN-ID. Assumes nothing.
use mathlib.Core.Path.{◌≡◌, refl}
use mathlib.Core.Bool.{Bool, true, false, ◌&&◌, ◌||◌, not}
use mathlib.Core.List.{List, [], ◌∷◌, ◌++◌}
use Prim.Native.Nat.{ℕ, ◌+◌, ◌-◌, ◌^◌, ◌≤◌, ◌<◌}
use native.Mathlib.Omega.{arith}
use lib.Dec.{eqb, leb}
use lib.ListN.{length}
use lib.Ieee.{binary32}
use lib.Ieee.Bits.{to_bits-lt}
use lib.Ieee.Fits.{add-fits}
use borrow.Author.Tests.{eqb-true, lt-leb, not-true}
use Rattle.model.specs.declared.Group.{Group}
use Rattle.model.specs.declared.Group.TheVariants.{C, A}
use Rattle.model.specs.declared.Groups.TheVariants.{Both}
use Rattle.model.specs.declared.Change.{Change}
use Rattle.model.specs.declared.Change.TheVariants.{Keep, Write, Save, TakeOut, Load, SavePending}
use Rattle.model.specs.declared.Service.{Service}
use Rattle.model.specs.declared.Service.TheVariants.{Nothing, Tick, Sample, Nmt, Sync, Remote, Sdo, Lss}
use Rattle.model.specs.declared.SdoRequest.{SdoRequest}
use Rattle.model.specs.declared.SdoRequest.TheVariants as R
use Rattle.model.specs.declared.LssRequest.{LssRequest}
use Rattle.model.specs.declared.LssRequest.TheVariants.{SwitchMode, Select, SetNodeId, SetBitIndex, StorePending, AskIdentity, AskNodeId, OtherLss}
use Rattle.model.specs.declared.Fv.{Fv}
use Rattle.model.specs.declared.Frame.{Frame}
use Rattle.model.specs.declared.Identity.{Identity}
use Rattle.model.specs.declared.Settings.{Settings}
use Rattle.model.specs.declared.State.{State}
use Rattle.model.specs.Bytes.{within}
use Rattle.model.specs.Reading.{pv_of}
use Rattle.model.specs.Frames.{when, sdo_replies, heartbeats, tpdos, emcys}
use Rattle.model.specs.Settings.{in_force, rows, in_ranges}
use Rattle.model.specs.Validity.{signs, valid, vouched, honest, sound}
use Rattle.model.specs.Store.{read, address_from}
use Rattle.model.specs.Parts.{id_of, is_operational, is_pre_operational, capped}
use Rattle.model.specs.Dictionary.{find}
use Rattle.model.specs.Service.{service}
use Rattle.model.specs.Changes.{effect, applied}
use Rattle.model.specs.Time.{communication, sends_at, sync_sends, answers_remote, clocked, heartbeat_due, tpdo_due, srdo_due, heartbeat_frame, tpdo_frame, srdo_first, srdo_second, ticked, tick_frames, sync_frames, remote_frames, emcy_due, emcy_frame}
use Rattle.model.specs.Nmt.{start_obeyed}
use Rattle.model.specs.Sdo.{checked_write, sdo_reply, serves}
use Rattle.model.specs.Lss.{answered, lss_reply}
use Rattle.model.specs.Rules.{rules}
use Rattle.model.specs.Step.{done, refusal, power_on_refusal, change_of, reply, booted, heard, core_after, changed, reports, served, step, unborn, power_on}
use Rattle.model.specs.Run.{Call, Line, sent_in, World, begun, continued_by, continued}
use Rattle.model.specs.Pairs.{safety, bits_of, Safe, none, other, pair}
use Rattle.laws.specs.Nodes.{paired}
use Rattle.laws.proofs.Ids.{read_id, write_id, segment_id}
use Rattle.laws.proofs.Tests.{cond_case, and_l, and_r, and_false, implies, within_is}
use Rattle.laws.proofs.Loading.{address_ok}
use Rattle.laws.proofs.Allowed.{id_ok, sound_ok, change_allowed}
use Rattle.laws.proofs.Deeds.{served_id_most}
use Rattle.laws.proofs.CoreRules.{start_ok}
use Rattle.laws.proofs.RulesKept.{unborn_rules, begun_rules, continued_rules}

-- ---- the bits of PV

-- they are 32, so that taking them from FFFFFFFFh inverts each
pub bits_fit : (k : Settings) (fv : Fv) → bits_of k fv < 2 ^ 32
unfolding pv_of
bits_fit k fv = to_bits-lt binary32 _ (add-fits binary32 _ _)

pub inverse_of : (k : Settings) (fv : Fv) → bits_of k fv + (0xffffffff - bits_of k fv) ≡ 0xffffffff
inverse_of k fv = let h : bits_of k fv < 2 ^ 32 = bits_fit k fv in omega arith

-- ---- frames with other CAN-IDs

above : (id : ℕ) → 0x180 < id → within 0x101 0x180 id ≡ false
above id h = rw (lt-leb id 0x180 h) (and_false (leb 0x101 id))

below : (id : ℕ) → id < 0x101 → within 0x101 0x180 id ≡ false
below id h = rw (lt-leb 0x101 id h) refl

module _ (v : Service) (k : Settings) (fv : Fv) where
  when_other : (b : Bool) (a : Frame) → safety a ≡ false → Safe v k fv (when b a)
  when_other true a h = other h none
  when_other false a h = none

  safe_append : {xs ys : List Frame} → Safe v k fv xs → Safe v k fv ys → Safe v k fv (xs ++ ys)
  safe_append none j = j
  safe_append (other h t) j = other h (safe_append t j)
  safe_append (pair p t) j = pair p (safe_append t j)

  safe_boot : (c : Change) → Safe v k fv (booted c)
  safe_boot Keep = none
  safe_boot (Write p x) = none
  safe_boot (Save gs) = none
  safe_boot (TakeOut gs) = none
  safe_boot (Load gs id) = other (above (heartbeats + id) (omega arith)) none
  safe_boot SavePending = none

  -- SDO
  reply_above : (s : State) (id : ℕ) → id ≡ sdo_replies + id_of s → within 0x101 0x180 id ≡ false
  reply_above s id e = above id (omega arith)

  safe_sdo : (r : SdoRequest) (s : State) → Safe v k fv (sdo_reply r s)
  unfolding sdo_reply
  safe_sdo (R.Download index sub size d) s = other (reply_above s _ (write_id (checked_write (find index sub) size d s) index sub s)) none
  safe_sdo (R.Upload index sub) s = other (reply_above s _ (read_id (find index sub) index sub s)) none
  safe_sdo (R.UploadSegment toggle) s = other (reply_above s _ (segment_id toggle s)) none
  safe_sdo R.ClientAbort s = none
  safe_sdo R.DownloadSegment s = other (reply_above s _ refl) none
  safe_sdo (R.Unknown index sub) s = other (reply_above s _ refl) none

  -- LSS
  answer_other : (b : Bool) (d : List ℕ) → Safe v k fv (when b (answered d))
  answer_other b d = when_other b (answered d) refl

  safe_lss : (r : LssRequest) (s : State) → Safe v k fv (lss_reply r s)
  unfolding lss_reply
  safe_lss (Select n number) s = search answer_other
  safe_lss (SwitchMode mode) s = none
  safe_lss (SetNodeId id) s = search answer_other
  safe_lss (SetBitIndex table bit) s = search answer_other
  safe_lss StorePending s = search answer_other
  safe_lss (AskIdentity n) s = search answer_other
  safe_lss AskNodeId s = search answer_other
  safe_lss OtherLss s = none

-- ---- the pair itself

-- an SRDO is due only with both validity bytes A5h, and so with both groups valid
due_valid : (s : State) → rules s ≡ true → srdo_due (clocked s) ≡ true → (g : Group) → valid g (in_force s.settings) ≡ true
unfolding srdo_due start_obeyed sound
due_valid s r d g = go g
  where
    on : eqb (communication s).srdo.direction 1 ≡ true
    on = search (and_l, and_r)

    obeyed : start_obeyed s.settings ≡ true
    obeyed = implies (is_operational s.core) _ (and_l (is_operational s.core) _ d) (start_ok s r)

    honestly : (h : Group) → honest h (in_force s.settings) ≡ true
    honestly h = and_r (in_ranges (rows h) (in_force s.settings)) (honest h (in_force s.settings)) (sound_ok s r h)

    vouched_c : vouched C (in_force s.settings) ≡ true
    vouched_c =
        rw (eqb-true (communication s).srdo.direction 1 on)
        at (and_r (vouched A (in_force s.settings)) (eqb (communication s).srdo.direction 0 || vouched C (in_force s.settings)) obeyed)

    go : (h : Group) → valid h (in_force s.settings) ≡ true
    go C = implies (vouched C (in_force s.settings)) _ vouched_c (honestly C)
    go A = implies (vouched A (in_force s.settings)) _ (and_l (vouched A (in_force s.settings)) _ obeyed) (honestly A)

signs_of : (g : Group) (s : State) → valid g (in_force s.settings) ≡ true → signs g (in_force s.settings) ≡ true
unfolding valid
signs_of C s h = and_l (signs C (in_force s.settings)) _ h
signs_of A s h = h

follows_of : (s : State) → valid C (in_force s.settings) ≡ true → (communication s).srdo.second ≡ (communication s).srdo.first + 1
unfolding valid
follows_of s h = eqb-true _ _ (and_r (signs C (in_force s.settings)) (eqb (communication s).srdo.second ((communication s).srdo.first + 1)) h)

-- a TPDO is above them: Node-IDs begin at 1
tpdo_other : (s : State) → rules s ≡ true → within 0x101 0x180 (tpdos + id_of s) ≡ false
tpdo_other s r = let i = within_is 1 127 (id_of s) (id_ok s r) in above (tpdos + id_of s) (omega arith)

-- the frames of a tick: the SRDO goes out as a pair or not at all
safe_tick : (s : State) → rules s ≡ true → Safe Tick s.settings s.core.fv (tick_frames s)
unfolding tick_frames tpdo_frame srdo_first srdo_second
safe_tick s r =
    let t = clocked s in
    safe_append _ _ _ (when_other _ _ _ (heartbeat_due t) (heartbeat_frame t) (above (heartbeats + id_of s) (omega arith)))
    (safe_append _ _ _ (when_other _ _ _ (tpdo_due t) (tpdo_frame t) (tpdo_other s r)) (go (srdo_due t && not (capped t)) refl))
  where
    go : (b : Bool) → srdo_due (clocked s) && not (capped (clocked s)) ≡ b
        → Safe Tick s.settings s.core.fv (when b (srdo_first (clocked s)) ++ when b (srdo_second (clocked s)))
    go true e =
        let d = and_l (srdo_due (clocked s)) (not (capped (clocked s))) e in
        pair (record {
          in_tick = refl;
          first = refl;
          second = refl;
          signed = λ g. signs_of g s (due_valid s r d g);
          follows = follows_of s (due_valid s r d C);
          not_capped = not-true _ (and_r (srdo_due (clocked s)) (not (capped (clocked s))) e);
        }) none
    go false e = none

-- ---- an event, with what is in force after it

-- a tick changes neither settings nor FV
tick_after : (s : State) (st : List ℕ) → rules s ≡ true
    → Safe Tick (served Keep Tick s st).state.settings (served Keep Tick s st).state.core.fv (tick_frames s)
unfolding served core_after heard ticked applied effect
tick_after s st r = safe_tick s r

safe_reply : (v : Service) (s : State) (st : List ℕ) → rules s ≡ true
    → let o = served (change_of v s (read st)) v s st in Safe v o.state.settings o.state.core.fv (reply v s)
unfolding reply change_of sync_frames remote_frames tpdo_frame
safe_reply Nothing s st r = none
safe_reply Tick s st r = tick_after s st r
safe_reply (Sample fv) s st r = none
safe_reply (Nmt command to) s st r = none
safe_reply Sync s st r =
    when_other _ _ _ (is_operational s.core && sync_sends (sends_at s) (communication s).tpdo.kind s.core.tpdo) (tpdo_frame s) (tpdo_other s r)
safe_reply (Remote to) s st r = when_other _ _ _ (answers_remote to s) (tpdo_frame s) (tpdo_other s r)
safe_reply (Sdo to q) s st r = cond_case (Safe (Sdo to q) _ _) (serves to s) (λ _. safe_sdo _ _ _ q s) (λ _. none)
safe_reply (Lss q) s st r = cond_case (Safe (Lss q) _ _) (is_pre_operational s.core) (λ _. safe_lss _ _ _ q s) (λ _. none)

-- an EMCY is below them: Node-IDs end at 127
emcy_other : (v : Service) (k : Settings) (fv : Fv) (b : Bool) (t : State) → id_of t ≤ 127 → Safe v k fv (when b (emcy_frame t))
unfolding emcy_frame
emcy_other v k fv b t h = when_other v k fv b (emcy_frame t) (below (emcys + id_of t) (omega arith))

-- THE THEOREM for one event
pub step_safe : (e : List ℕ) (s : State) (st : List ℕ) → rules s ≡ true
    → let o = step e s st in Safe (service e) o.state.settings o.state.core.fv o.sent
unfolding step
step_safe e s st r =
    let v = service e in
    let c = change_of v s (read st) in
    let t = changed c v s (read st) in
    let o = served c v s st in
    unfold served in
    safe_append v o.state.settings o.state.core.fv (safe_reply v s st r)
    (safe_append v o.state.settings o.state.core.fv (safe_boot v o.state.settings o.state.core.fv c)
    (emcy_other v o.state.settings o.state.core.fv (reports v && emcy_due t) t (served_id_most c v s st (change_allowed s st r v) r)))

-- ---- runs

-- the frames of a log's newest line
abbrev pub newest : List Line → List Frame
newest [] = []
newest (l ∷ ls) = sent_in l

-- what the newest line sent, with what is in force after it
abbrev pub SafeIn : Service → World → Type 0
SafeIn v w = Safe v w.state.settings w.state.core.fv (newest w.log)

-- each call of a run
abbrev pub SafeRun : List Call → World → Type 0
SafeRun [] w = Unit {0}
SafeRun (c ∷ cs) w = SafeIn (service c.event) (continued_by paired c w) × SafeRun cs (continued_by paired c w)

pub continued_safe : (c : Call) (w : World) → rules w.state ≡ true → SafeIn (service c.event) (continued_by paired c w)
continued_safe c w r =
    cond_case (SafeIn (service c.event)) (eqb (refusal c.event w.state c.room (length w.store)) done)
    (λ _. step_safe c.event w.state w.store r) (λ _. none)

run_safe : (cs : List Call) (w : World) → rules w.state ≡ true → SafeRun cs w
unfolding continued
run_safe [] w r = tt
run_safe (c ∷ cs) w r = (continued_safe c w r, run_safe cs (continued_by paired c w) (continued_rules c w r))

pub power_on_safe : (i : Identity) (st : List ℕ) → let o = power_on i st in Safe Nothing o.state.settings o.state.core.fv o.sent
unfolding power_on
power_on_safe i st =
    let c = Load Both (address_from (read st)).id in
    let t = changed c Nothing (unborn i) (read st) in
    let o = served c Nothing (unborn i) st in
    unfold served reply in
    safe_append Nothing o.state.settings o.state.core.fv (safe_boot Nothing o.state.settings o.state.core.fv c)
    (emcy_other Nothing o.state.settings o.state.core.fv (emcy_due t) t (served_id_most c Nothing (unborn i) st ((address_ok st).0, refl) (unborn_rules i)))

pub begun_safe : (i : Identity) (room : ℕ) (st : List ℕ) → SafeIn Nothing (begun i room st)
unfolding begun
begun_safe i room st = cond_case (SafeIn Nothing) (eqb (power_on_refusal room (length st)) done) (λ _. power_on_safe i st) (λ _. none)

-- THE THEOREM: the power-on and every call of every run
pub pairs : (i : Identity) (room : ℕ) (st : List ℕ) (cs : List Call) → SafeIn Nothing (begun i room st) × SafeRun cs (begun i room st)
pairs i room st cs = (begun_safe i room st, run_safe cs (begun i room st) (begun_rules i room st))
