-- The rules of the part of the state that no save keeps: each service and each reset keeps them. Assumes nothing.
use mathlib.Core.Path.{◌≡◌, refl}
use mathlib.Core.Bool.{Bool, true, false, ◌&&◌, ◌||◌, not, cond}
use mathlib.Core.List.{List}
use mathlib.Core.Logic.{◌⊎◌, inl, inr, ⊎_elim}
use Prim.Native.Nat.{ℕ, ◌+◌, ◌-◌, ◌≤◌}
use native.Mathlib.Omega.{arith}
use Rattle.std.specs.Prelude.{Option, Some, None}
use lib.Dec.{eqb, leb, ltb}
use borrow.Author.Tests.{eqb-true, eqb-false, leb-true, le-leb, leb-false, lt-ltb}
use Rattle.std.proofs.Common.{Result, Ok, Err}
use Rattle.model.specs.declared.Groups.{Groups}
use Rattle.model.specs.declared.Groups.TheVariants.{Both, OnlyC, OnlyA}
use Rattle.model.specs.declared.Timer.{Timer}
use Rattle.model.specs.declared.Timer.TheVariants.{Heartbeat, Tpdo, Srdo}
use Rattle.model.specs.declared.Transmission.{Transmission}
use Rattle.model.specs.declared.Transmission.TheVariants.{OnSample, OnSyncs, OnRemote, Timed, Never}
use Rattle.model.specs.declared.Entry.{Entry}
use Rattle.model.specs.declared.Entry.TheVariants.{Fixed, Name, Shown, Setting, SaveWord, LoadWord}
use Rattle.model.specs.declared.Missing.{Missing}
use Rattle.model.specs.declared.Service.{Service}
use Rattle.model.specs.declared.Service.TheVariants.{Nothing, Tick, Sample, Nmt, Sync, Remote, Sdo, Lss}
use Rattle.model.specs.declared.SdoRequest.{SdoRequest}
use Rattle.model.specs.declared.SdoRequest.TheVariants as R
use Rattle.model.specs.declared.LssRequest.{LssRequest}
use Rattle.model.specs.declared.LssRequest.TheVariants.{SwitchMode, Select, SetNodeId, SetBitIndex, StorePending, AskIdentity, AskNodeId, OtherLss}
use Rattle.model.specs.declared.Address.{Address}
use Rattle.model.specs.declared.Selection.{Selection}
use Rattle.model.specs.declared.Sending.{Sending}
use Rattle.model.specs.declared.Upload.{Upload}
use Rattle.model.specs.declared.Settings.{Settings}
use Rattle.model.specs.declared.Core.{Core}
use Rattle.model.specs.declared.State.{State}
use Rattle.model.specs.Bytes.{within}
use Rattle.model.specs.Store.{node_id, bit_index, Saved, read}
use Rattle.model.specs.Parts.{id_of, no_selection, open_upload, no_upload, operational, pre_operational, stopped, is_operational, is_pre_operational}
use Rattle.model.specs.Dictionary.{find}
use Rattle.model.specs.Time.{communication, restart, ticked, transmission, sends_at, sync_counted, synced, answers_remote, remote_answered}
use Rattle.model.specs.Nmt.{is_for, lss_left, start_obeyed, start, stop, obeyed, commanded, readied, cleared, auto_start, reset}
use Rattle.model.specs.Sdo.{segment_sent, sends_segment, opened, upload_after, serves}
use Rattle.model.specs.Lss.{identity_part, matches, selection_after, lss_after, in_configuration, bit_in_table, pending_after}
use Rattle.model.specs.Rules.{rules, rule_ids, rule_bits, rule_nmt, rule_start, rule_lss, rule_sync, stands, rule_upload}
use Rattle.model.specs.Step.{heard}
use Rattle.laws.proofs.Tests.{cond_case, and_l, and_r, and_both, hit_case, within_is}
use Rattle.laws.proofs.Loading.{address_ok}

-- ---- the rules that look at this part alone

abbrev pub IdsOk : Address → Address → Type 0
IdsOk a p = node_id a.id && node_id p.id ≡ true

abbrev pub BitsOk : Address → Address → Type 0
BitsOk a p = bit_index a.bit && bit_index p.bit ≡ true

abbrev pub NmtOk : ℕ → Type 0
NmtOk n = eqb n stopped || (eqb n operational || eqb n pre_operational) ≡ true

abbrev pub LssOk : ℕ → Selection → Type 0
LssOk n l = (not l.configuration || eqb n pre_operational) && leb l.progress 3 ≡ true

abbrev pub UploadOk : Upload → Type 0
UploadOk u = not u.busy || (stands 0 0 u || (stands 7 1 u || stands 14 0 u)) ≡ true

pub record Parts (a p : Address) (n : ℕ) (l : Selection) (u : Upload) : Type 0 where
  pub ids : IdsOk a p
  pub bits : BitsOk a p
  pub nmt : NmtOk n
  pub lss : LssOk n l
  pub upload : UploadOk u

abbrev pub CoreOk : Core → Type 0
CoreOk c = Parts c.active c.pending c.nmt c.lss c.upload

pub core_ok : (s : State) → rules s ≡ true → CoreOk s.core
unfolding rules rule_ids rule_bits rule_nmt rule_lss rule_upload
core_ok s r =
    record {
      ids = and_l (rule_ids s) _ r;
      bits = search (and_l, and_r) depth 12;
      nmt = search (and_l, and_r) depth 12;
      lss = search (and_l, and_r) depth 12;
      upload = search (and_l, and_r) depth 12;
    }

-- ---- the rules that look at the parameters too

-- Operational only with parameters that Start would accept
abbrev pub StartOk : Settings → Core → Type 0
StartOk k c = not (is_operational c) || start_obeyed k ≡ true

-- SYNCs counted below a type of 1..240, and by no other
abbrev pub SyncOk : ℕ → ℕ → Type 0
SyncOk kind n = cond (within 1 240 kind) (ltb n kind) (eqb n 0) ≡ true

abbrev pub CountOk : ℕ → Core → Type 0
CountOk kind c = SyncOk kind c.tpdo.syncs

pub start_ok : (s : State) → rules s ≡ true → StartOk s.settings s.core
unfolding rules rule_start
start_ok s r = search (and_l, and_r) depth 12

pub sync_ok : (s : State) → rules s ≡ true → CountOk (communication s).tpdo.kind s.core
unfolding rules rule_sync
sync_ok s r = search (and_l, and_r) depth 12

-- ---- NMT

or_true : (b : Bool) → b || true ≡ true
or_true true = refl
or_true false = refl

-- LSS is left for any other state
left_ok : (n : ℕ) (c : Core) → LssOk c.nmt c.lss → LssOk n (lss_left c)
unfolding lss_left
left_ok n c h = go (is_pre_operational c) h
  where
    none : (a p : Bool) → (not a || false) && p ≡ true → (not a || eqb n pre_operational) && p ≡ true
    none true p h = cc
    none false p h = h

    go : (b : Bool) → (not c.lss.configuration || b) && leb c.lss.progress 3 ≡ true → LssOk n (cond b no_selection c.lss)
    go true h = refl
    go false h = none c.lss.configuration (leb c.lss.progress 3) h

start_core : (k : Settings) (c : Core) → CoreOk c → CoreOk (start k c)
unfolding start
start_core k c h =
    cond_case CoreOk (not (is_operational c) && start_obeyed k)
    (λ _. record { ids = h.ids; bits = h.bits; nmt = refl; lss = left_ok operational c h.lss; upload = h.upload })
    (λ _. h)

start_start : (k : Settings) (c : Core) → StartOk k c → StartOk k (start k c)
unfolding start
start_start k c h =
    cond_case (StartOk k) (not (is_operational c) && start_obeyed k) (λ e. and_r (not (is_operational c)) _ e) (λ _. h)

pub zero_sync : (kind : ℕ) → SyncOk kind 0
zero_sync kind = go (within 1 240 kind) refl
  where
    go : (b : Bool) → within 1 240 kind ≡ b → cond b (ltb 0 kind) (eqb 0 0) ≡ true
    go true e = lt-ltb 0 kind (within_is 1 240 kind e).0
    go false e = refl

start_sync : (kind : ℕ) (k : Settings) (c : Core) → CountOk kind c → CountOk kind (start k c)
unfolding start
start_sync kind k c h =
    cond_case (CountOk kind) (not (is_operational c) && start_obeyed k) (λ _. zero_sync kind) (λ _. h)

-- ---- SDO: the open upload

opened_ok : (f : Result Entry Missing) → UploadOk (opened f)
opened_ok (Err m) = refl
opened_ok (Ok (Fixed v)) = refl
opened_ok (Ok Name) = refl
opened_ok (Ok (Shown l)) = refl
opened_ok (Ok (Setting p)) = refl
opened_ok (Ok (SaveWord gs)) = refl
opened_ok (Ok (LoadWord gs)) = refl

three : (a b c : Bool) → a || (b || c) ≡ true → (a ≡ true) ⊎ ((b ≡ true) ⊎ (c ≡ true))
three true b c h = inl refl
three false true c h = inr (inl refl)
three false false c h = inr (inr h)

-- after a segment the upload stands before the next, or is closed
segment_ok : (u : Upload) → u.busy ≡ true → UploadOk u → UploadOk (segment_sent u)
unfolding segment_sent
segment_ok u b h = ⊎_elim (next 0 0 refl) (λ e. ⊎_elim (next 7 1 refl) (next 14 0 refl) e) (three (stands 0 0 u) (stands 7 1 u) (stands 14 0 u) (rw b at h))
  where
    next : (at toggle : ℕ) → UploadOk (cond (leb 15 (at + 7)) no_upload (open_upload (at + 7) (1 - toggle))) → stands at toggle u ≡ true
        → UploadOk (cond (leb 15 (u.at + 7)) no_upload (open_upload (u.at + 7) (1 - u.toggle)))
    next at toggle k e =
        rw (eqb-true u.at at (and_l _ (eqb u.toggle toggle) e), eqb-true u.toggle toggle (and_r (eqb u.at at) _ e)) k

upload_ok : (r : SdoRequest) (u : Upload) → UploadOk u → UploadOk (upload_after r u)
unfolding upload_after
upload_ok (R.Download index sub size d) u h = refl
upload_ok (R.Upload index sub) u h = opened_ok (find index sub)
upload_ok (R.UploadSegment toggle) u h = cond_case UploadOk (sends_segment toggle u) (λ e. segment_ok u (and_l u.busy (eqb toggle u.toggle) e) h) (λ _. refl)
upload_ok R.ClientAbort u h = refl
upload_ok R.DownloadSegment u h = refl
upload_ok (R.Unknown index sub) u h = refl

-- ---- LSS

pre_lss : (b p : Bool) → p ≡ true → (not b || true) && p ≡ true
pre_lss b p h = and_both _ p (or_true (not b)) h

-- at most three numbers of the identity have matched
progress_ok : (r : LssRequest) (s : State) → leb s.core.lss.progress 3 ≡ true → leb (lss_after r s).progress 3 ≡ true
unfolding lss_after selection_after matches
progress_ok (Select n number) s h =
    cond_case (λ (x : Selection). leb x.progress 3 ≡ true) (eqb number (identity_part n s.identity) && (eqb n 0 || eqb n s.core.lss.progress))
    (λ m. cond_case (λ (x : Selection). leb x.progress 3 ≡ true) (eqb n 3) (λ _. refl) (λ e. le-leb (n + 1) 3 (next e (and_r (eqb number (identity_part n s.identity)) _ m))))
    (λ _. refl)
  where
    next : eqb n 3 ≡ false → eqb n 0 || eqb n s.core.lss.progress ≡ true → n + 1 ≤ 3
    next e m = go (eqb n 0) refl m
      where
        go : (b : Bool) → eqb n 0 ≡ b → b || eqb n s.core.lss.progress ≡ true → n + 1 ≤ 3
        go true d k = let z = eqb-true n 0 d in omega arith
        go false d k =
            let p = eqb-true n s.core.lss.progress k in
            let l = leb-true s.core.lss.progress 3 h in
            let x = eqb-false n 3 e in
            omega arith
progress_ok (SwitchMode mode) s h = refl
progress_ok (SetNodeId id) s h = refl
progress_ok (SetBitIndex table bit) s h = refl
progress_ok StorePending s h = refl
progress_ok (AskIdentity n) s h = refl
progress_ok AskNodeId s h = refl
progress_ok OtherLss s h = refl

pending_kept : (r : LssRequest) (s : State) → CoreOk s.core
    → IdsOk s.core.active (pending_after r s) × BitsOk s.core.active (pending_after r s)
unfolding pending_after
pending_kept (Select n number) s h = (h.ids, h.bits)
pending_kept (SwitchMode mode) s h = (h.ids, h.bits)
pending_kept (SetNodeId id) s h =
    cond_case (λ (a : Address). IdsOk s.core.active a × BitsOk s.core.active a) (in_configuration s && node_id id)
    (λ e. (and_both _ (node_id id) (and_l (node_id (id_of s)) (node_id s.core.pending.id) h.ids) (and_r (in_configuration s) _ e), h.bits))
    (λ _. (h.ids, h.bits))
pending_kept (SetBitIndex table bit) s h =
    cond_case (λ (a : Address). IdsOk s.core.active a × BitsOk s.core.active a) (in_configuration s && bit_in_table table bit)
    (λ e. (h.ids, and_both _ (bit_index bit) (and_l (bit_index s.core.active.bit) (bit_index s.core.pending.bit) h.bits) (and_r (eqb table 0) (bit_index bit) (and_r (in_configuration s) (bit_in_table table bit) e))))
    (λ _. (h.ids, h.bits))
pending_kept StorePending s h = (h.ids, h.bits)
pending_kept (AskIdentity n) s h = (h.ids, h.bits)
pending_kept AskNodeId s h = (h.ids, h.bits)
pending_kept OtherLss s h = (h.ids, h.bits)

-- ---- every service

pub heard_core : (v : Service) (s : State) → CoreOk s.core → CoreOk (heard v s)
unfolding heard ticked commanded obeyed stop synced remote_answered
heard_core Nothing s h = h
heard_core Tick s h = h
heard_core (Sample fv) s h = h
heard_core (Nmt command to) s h =
    cond_case CoreOk (is_for to (id_of s))
    (λ _. hit_case CoreOk _ _ (
      (λ _. start_core s.settings s.core h),
      (
        (λ _. record { ids = h.ids; bits = h.bits; nmt = refl; lss = left_ok stopped s.core h.lss; upload = refl }),
        ((λ _. record { ids = h.ids; bits = h.bits; nmt = refl; lss = pre_lss s.core.lss.configuration _ (and_r (not s.core.lss.configuration || is_pre_operational s.core) _ h.lss); upload = h.upload }), tt),
      ),
    ) h)
    (λ _. h)
heard_core Sync s h = cond_case CoreOk (is_operational s.core) (λ _. h) (λ _. h)
heard_core (Remote to) s h = cond_case CoreOk (answers_remote to s) (λ _. h) (λ _. h)
heard_core (Sdo to r) s h =
    cond_case CoreOk (serves to s)
    (λ _. record { ids = h.ids; bits = h.bits; nmt = h.nmt; lss = h.lss; upload = upload_ok r s.core.upload h.upload })
    (λ _. h)
heard_core (Lss r) s h =
    cond_case CoreOk (is_pre_operational s.core)
    (λ e. record {
      ids = (pending_kept r s h).0;
      bits = (pending_kept r s h).1;
      nmt = h.nmt;
      lss = rw e (pre_lss (lss_after r s).configuration _ (progress_ok r s (and_r (not s.core.lss.configuration || is_pre_operational s.core) _ h.lss)));
      upload = h.upload;
    })
    (λ _. h)

pub heard_start : (v : Service) (s : State) → StartOk s.settings s.core → StartOk s.settings (heard v s)
unfolding heard ticked commanded obeyed stop synced remote_answered
heard_start Nothing s h = h
heard_start Tick s h = h
heard_start (Sample fv) s h = h
heard_start (Nmt command to) s h =
    cond_case (StartOk s.settings) (is_for to (id_of s))
    (λ _. hit_case (StartOk s.settings) _ _ ((λ _. start_start s.settings s.core h), ((λ _. refl), ((λ _. refl), tt))) h)
    (λ _. h)
heard_start Sync s h = cond_case (StartOk s.settings) (is_operational s.core) (λ _. h) (λ _. h)
heard_start (Remote to) s h = cond_case (StartOk s.settings) (answers_remote to s) (λ _. h) (λ _. h)
heard_start (Sdo to r) s h = cond_case (StartOk s.settings) (serves to s) (λ _. h) (λ _. h)
heard_start (Lss r) s h = cond_case (StartOk s.settings) (is_pre_operational s.core) (λ _. h) (λ _. h)

-- only types 1..240 count
on_syncs : (kind : ℕ) → transmission kind ≡ OnSyncs → within 1 240 kind ≡ true
unfolding transmission
on_syncs kind =
    hit_case (λ (t : Transmission). t ≡ OnSyncs → within 1 240 kind ≡ true) _ _
    ((λ _ e. cc), ((λ t e. t), ((λ _ e. cc), ((λ _ e. cc), tt))))
    (λ e. cc)

counted_ok : (t : Transmission) (kind : ℕ) (d : Sending) → transmission kind ≡ t → SyncOk kind d.syncs
    → SyncOk kind (sync_counted t kind d).syncs
counted_ok OnSample kind d e h = h
counted_ok OnSyncs kind d e h =
    cond_case (λ (x : Sending). SyncOk kind x.syncs) (leb kind (d.syncs + 1)) (λ _. zero_sync kind)
    (λ k. rw (on_syncs kind e) (lt-ltb (d.syncs + 1) kind (leb-false kind (d.syncs + 1) k)))
counted_ok OnRemote kind d e h = h
counted_ok Timed kind d e h = h
counted_ok Never kind d e h = h

pub heard_sync : (v : Service) (s : State) → CountOk (communication s).tpdo.kind s.core
    → CountOk (communication s).tpdo.kind (heard v s)
unfolding heard ticked commanded obeyed stop synced remote_answered
heard_sync Nothing s h = h
heard_sync Tick s h = h
heard_sync (Sample fv) s h = h
heard_sync (Nmt command to) s h =
    cond_case (CountOk (communication s).tpdo.kind) (is_for to (id_of s))
    (λ _. hit_case (CountOk (communication s).tpdo.kind) _ _ ((λ _. start_sync (communication s).tpdo.kind s.settings s.core h), ((λ _. h), ((λ _. h), tt))) h)
    (λ _. h)
heard_sync Sync s h =
    cond_case (CountOk (communication s).tpdo.kind) (is_operational s.core)
    (λ _. counted_ok (sends_at s) (communication s).tpdo.kind s.core.tpdo refl h) (λ _. h)
heard_sync (Remote to) s h = cond_case (CountOk (communication s).tpdo.kind) (answers_remote to s) (λ _. h) (λ _. h)
heard_sync (Sdo to r) s h = cond_case (CountOk (communication s).tpdo.kind) (serves to s) (λ _. h) (λ _. h)
heard_sync (Lss r) s h = cond_case (CountOk (communication s).tpdo.kind) (is_pre_operational s.core) (λ _. h) (λ _. h)

-- ---- a timer's restart, and a reset

pub restart_core : (t : Option Timer) (c : Core) → CoreOk c → CoreOk (restart t c)
restart_core None c h = h
restart_core (Some Heartbeat) c h = h
restart_core (Some Tpdo) c h = h
restart_core (Some Srdo) c h = h

pub restart_nmt : (t : Option Timer) (c : Core) → (restart t c).nmt ≡ c.nmt
restart_nmt None c = refl
restart_nmt (Some Heartbeat) c = refl
restart_nmt (Some Tpdo) c = refl
restart_nmt (Some Srdo) c = refl

pub restart_sync : (t : Option Timer) (kind : ℕ) (c : Core) → CountOk kind c → CountOk kind (restart t c)
restart_sync None kind c h = h
restart_sync (Some Heartbeat) kind c h = h
restart_sync (Some Tpdo) kind c h = zero_sync kind
restart_sync (Some Srdo) kind c h = h

readied_ok : (gs : Groups) (id : ℕ) (st : List ℕ) (c : Core) → node_id id ≡ true → CoreOk c
    → IdsOk (readied gs id (read st) c).active (readied gs id (read st) c).pending × BitsOk (readied gs id (read st) c).active (readied gs id (read st) c).pending
unfolding readied
readied_ok Both id st c a h = let b = (address_ok st).1 in (and_both _ _ a a, and_both _ _ b b)
readied_ok OnlyC id st c a h = (and_both _ _ a a, h.bits)
readied_ok OnlyA id st c a h = (h.ids, h.bits)

cleared_core : (gs : Groups) (id : ℕ) (st : List ℕ) (c : Core) → node_id id ≡ true → CoreOk c → CoreOk (cleared (readied gs id (read st) c))
unfolding cleared
cleared_core gs id st c a h =
    record { ids = (readied_ok gs id st c a h).0; bits = (readied_ok gs id st c a h).1; nmt = refl; lss = refl; upload = refl }

pub reset_core : (gs : Groups) (id : ℕ) (st : List ℕ) (k : Settings) (c : Core) → node_id id ≡ true → CoreOk c
    → CoreOk (reset gs id (read st) k c)
unfolding reset auto_start
reset_core gs id st k c a h =
    let d = cleared_core gs id st c a h in
    cond_case CoreOk (eqb k.application.autostart 1) (λ _. start_core k (cleared (readied gs id (read st) c)) d) (λ _. d)

pub reset_start : (gs : Groups) (id : ℕ) (sv : Saved) (k : Settings) (c : Core) → StartOk k (reset gs id sv k c)
unfolding reset auto_start cleared
reset_start gs id sv k c =
    cond_case (StartOk k) (eqb k.application.autostart 1) (λ _. start_start k (cleared (readied gs id sv c)) refl) (λ _. refl)

pub reset_sync : (gs : Groups) (id : ℕ) (sv : Saved) (kind : ℕ) (k : Settings) (c : Core) → CountOk kind (reset gs id sv k c)
unfolding reset auto_start cleared
reset_sync gs id sv kind k c =
    cond_case (CountOk kind) (eqb k.application.autostart 1)
    (λ _. start_sync kind k (cleared (readied gs id sv c)) (zero_sync kind)) (λ _. zero_sync kind)
