-- The deed that a line of the log tells is the change that was made, and the addresses that it tells are those after it: for every service, from
-- its request and the first frame that followed. Assumes nothing.
use mathlib.Core.Path.{◌≡◌, refl, sym, ap, ◌∙◌}
use mathlib.Core.Bool.{Bool, true, false, ◌&&◌, not, cond}
use mathlib.Core.List.{List, [], ◌∷◌, ◌++◌}
use Prim.Native.Nat.{ℕ, ◌+◌, ◌≤◌}
use native.Mathlib.Omega.{arith}
use Rattle.std.specs.Prelude.{Option, Some, None}
use lib.Dec.{eqb}
use borrow.Author.Tests.{eqb-true, eq-eqb, ne_eqb}
use Rattle.std.proofs.Common.{Ok, Err}
use Rattle.model.specs.declared.Group.TheVariants.{C}
use Rattle.model.specs.declared.Groups.{Groups}
use Rattle.model.specs.declared.Groups.TheVariants.{Both, OnlyC, OnlyA}
use Rattle.model.specs.declared.Timer.{Timer}
use Rattle.model.specs.declared.Timer.TheVariants.{Heartbeat, Tpdo, Srdo}
use Rattle.model.specs.declared.Change.{Change}
use Rattle.model.specs.declared.Change.TheVariants.{Keep, Write, Save, TakeOut, Load, SavePending}
use Rattle.model.specs.declared.Service.{Service}
use Rattle.model.specs.declared.Service.TheVariants.{Nothing, Tick, Sample, Nmt, Sync, Remote, Sdo, Lss}
use Rattle.model.specs.declared.SdoRequest.{SdoRequest}
use Rattle.model.specs.declared.SdoRequest.TheVariants as R
use Rattle.model.specs.declared.LssRequest.{LssRequest}
use Rattle.model.specs.declared.LssRequest.TheVariants.{SwitchMode, Select, SetNodeId, SetBitIndex, StorePending, AskIdentity, AskNodeId, OtherLss}
use Rattle.model.specs.declared.Address.{Address}
use Rattle.model.specs.declared.Frame.{Frame}
use Rattle.model.specs.declared.Settings.{Settings}
use Rattle.model.specs.declared.Core.{Core}
use Rattle.model.specs.declared.State.{State}
use Rattle.model.specs.Choice.{first_hit}
use Rattle.model.specs.Frames.{when, sdo_replies, lss_answers}
use Rattle.model.specs.Settings.{has}
use Rattle.model.specs.Store.{node_id, Saved, read}
use Rattle.model.specs.Parts.{id_of, is_stopped, is_operational, is_pre_operational}
use Rattle.model.specs.Dictionary.{find}
use Rattle.model.specs.Changes.{applied, stored}
use Rattle.model.specs.Time.{timer_of, restart, ticked, synced, answers_remote, remote_answered, emcy_due, emcy_frame}
use Rattle.model.specs.Nmt.{is_for, reset_node_command, reset_communication_command, start_obeyed, start, stop, obeyed, commanded, reset_asked, nmt_change, readied, cleared, auto_start, reset}
use Rattle.model.specs.Sdo.{write_code, asked, checked_write, change_in, sdo_change, write_reply, sdo_reply, serves}
use Rattle.model.specs.Lss.{in_configuration, bit_in_table, pending_after, lss_change, lss_reply}
use Rattle.model.specs.Rules.{rules}
use Rattle.model.specs.Step.{change_of, reply, heard, core_after, booted, changed, reports, served}
use Rattle.model.specs.History.{Held, Addresses, three, addresses_of, held_address, by_first, acknowledges, sdo_deed, lss_deed, reset_deed, service_deed, lss_pending, service_pending, moved}
use Rattle.laws.proofs.Tests.{cond_case, and_l, and_false, hit_case, within_is}
use Rattle.laws.proofs.Allowed.{Allowed, id_ok, change_allowed}
use Rattle.laws.proofs.Loading.{address_held}
use Rattle.laws.proofs.LookBack.{id_after, pair_after}

-- ---- the active and the pending pair: a load alone sets the active one

-- both are as they were
abbrev BothAs : Core → Core → Type 0
BothAs c d = (d.active ≡ c.active) × (d.pending ≡ c.pending)

restart_both : (t : Option Timer) (c : Core) → BothAs c (restart t c)
restart_both None c = (refl, refl)
restart_both (Some Heartbeat) c = (refl, refl)
restart_both (Some Tpdo) c = (refl, refl)
restart_both (Some Srdo) c = (refl, refl)

start_both : (k : Settings) (c : Core) → BothAs c (start k c)
unfolding start
start_both k c = cond_case (BothAs c) (not (is_operational c) && start_obeyed k) (λ _. (refl, refl)) (λ _. (refl, refl))

commanded_both : (command to : ℕ) (s : State) → BothAs s.core (commanded command to s)
unfolding commanded obeyed stop
commanded_both command to s =
    cond_case (BothAs s.core) (is_for to (id_of s))
    (λ _. hit_case (BothAs s.core) _ _ ((λ _. start_both s.settings s.core), ((λ _. (refl, refl)), ((λ _. (refl, refl)), tt))) (refl, refl))
    (λ _. (refl, refl))

abbrev Stays : Core → Core → Type 0
Stays c d = d.active ≡ c.active

heard_active : (v : Service) (s : State) → (heard v s).active ≡ s.core.active
unfolding heard ticked synced remote_answered
heard_active Nothing s = refl
heard_active Tick s = refl
heard_active (Sample fv) s = refl
heard_active (Nmt command to) s = (commanded_both command to s).0
heard_active Sync s = cond_case (Stays s.core) (is_operational s.core) (λ _. refl) (λ _. refl)
heard_active (Remote to) s = cond_case (Stays s.core) (answers_remote to s) (λ _. refl) (λ _. refl)
heard_active (Sdo to r) s = cond_case (Stays s.core) (serves to s) (λ _. refl) (λ _. refl)
heard_active (Lss r) s = cond_case (Stays s.core) (is_pre_operational s.core) (λ _. refl) (λ _. refl)

-- a reset leaves both pairs as its load made them
reset_both : (gs : Groups) (id : ℕ) (sv : Saved) (k : Settings) (c : Core) → BothAs (readied gs id sv c) (reset gs id sv k c)
unfolding reset auto_start cleared
reset_both gs id sv k c =
    cond_case (BothAs (readied gs id sv c)) (eqb k.application.autostart 1) (λ _. start_both k (cleared (readied gs id sv c))) (λ _. (refl, refl))

readied_id : (gs : Groups) (id : ℕ) (sv : Saved) (c : Core) → has gs C ≡ true → (readied gs id sv c).active.id ≡ id
unfolding readied
readied_id Both id sv c h = refl
readied_id OnlyC id sv c h = refl
readied_id OnlyA id sv c h = cc

reset_id : (gs : Groups) (id : ℕ) (sv : Saved) (k : Settings) (c : Core) → has gs C ≡ true → (reset gs id sv k c).active.id ≡ id
reset_id gs id sv k c h = ap (λ (a : Address). a.id) (reset_both gs id sv k c).0 ∙ readied_id gs id sv c h

pub core_id : (c : Change) (v : Service) (s : State) (sv : Saved) (k : Settings) → Allowed c s
    → (core_after c v s sv k).active.id ≡ id_after c (id_of s)
unfolding core_after
core_id Keep v s sv k a = ap (λ (x : Address). x.id) (heard_active v s)
core_id (Write p x) v s sv k a = ap (λ (y : Address). y.id) ((restart_both (timer_of p) (heard v s)).0 ∙ heard_active v s)
core_id (Save gs) v s sv k a = ap (λ (x : Address). x.id) (heard_active v s)
core_id (TakeOut gs) v s sv k a = ap (λ (x : Address). x.id) (heard_active v s)
core_id (Load gs id) v s sv k a = reset_id gs id sv k s.core a.1
core_id SavePending v s sv k a = ap (λ (x : Address). x.id) (heard_active v s)

pub id_most : (c : Change) (s : State) → Allowed c s → id_of s ≤ 127 → id_after c (id_of s) ≤ 127
id_most Keep s a h = h
id_most (Write p v) s a h = h
id_most (Save gs) s a h = h
id_most (TakeOut gs) s a h = h
id_most (Load gs id) s a h = (within_is 1 127 id a.0).1
id_most SavePending s a h = h

-- ---- what follows a reply is an EMCY at most, and that is no reply

abbrev Quiet : List Frame → Type 0
Quiet [] = Unit {0}
Quiet (f ∷ fs) = f.id ≤ 0xff

emcy_quiet : (b : Bool) (t : State) → id_of t ≤ 127 → Quiet (when b (emcy_frame t))
unfolding emcy_frame
emcy_quiet true t h = omega arith
emcy_quiet false t h = tt

keep_first : {X : Type 0} (x : X) (d : Frame → X) (fs : List Frame) → ((f : Frame) → d f ≡ x) → by_first x d fs ≡ x
keep_first x d [] h = refl
keep_first x d (f ∷ fs) h = h f

quiet_sdo : (to : ℕ) (r : SdoRequest) (fs : List Frame) → Quiet fs → by_first Keep (sdo_deed to r) fs ≡ Keep
unfolding sdo_deed
quiet_sdo to r [] h = refl
quiet_sdo to (R.Download index sub size d) (f ∷ fs) h = rw (ne_eqb f.id (sdo_replies + to) (λ e. omega arith)) refl
quiet_sdo to (R.Upload index sub) (f ∷ fs) h = refl
quiet_sdo to (R.UploadSegment toggle) (f ∷ fs) h = refl
quiet_sdo to R.ClientAbort (f ∷ fs) h = refl
quiet_sdo to R.DownloadSegment (f ∷ fs) h = refl
quiet_sdo to (R.Unknown index sub) (f ∷ fs) h = refl

quiet_lss : (r : LssRequest) (fs : List Frame) → Quiet fs → by_first Keep (lss_deed r) fs ≡ Keep
unfolding lss_deed
quiet_lss r [] h = refl
quiet_lss (Select n number) (f ∷ fs) h = refl
quiet_lss (SwitchMode mode) (f ∷ fs) h = refl
quiet_lss (SetNodeId id) (f ∷ fs) h = refl
quiet_lss (SetBitIndex table bit) (f ∷ fs) h = refl
quiet_lss StorePending (f ∷ fs) h = rw (ne_eqb f.id lss_answers (λ e. omega arith)) refl
quiet_lss (AskIdentity n) (f ∷ fs) h = refl
quiet_lss AskNodeId (f ∷ fs) h = refl
quiet_lss OtherLss (f ∷ fs) h = refl

quiet_pending : (r : LssRequest) (p : Address) (fs : List Frame) → Quiet fs → by_first p (lss_pending r p) fs ≡ p
unfolding lss_pending
quiet_pending r p [] h = refl
quiet_pending (Select n number) p (f ∷ fs) h = refl
quiet_pending (SwitchMode mode) p (f ∷ fs) h = refl
quiet_pending (SetNodeId id) p (f ∷ fs) h = rw (ne_eqb f.id lss_answers (λ e. omega arith)) refl
quiet_pending (SetBitIndex table bit) p (f ∷ fs) h = rw (ne_eqb f.id lss_answers (λ e. omega arith)) refl
quiet_pending StorePending p (f ∷ fs) h = refl
quiet_pending (AskIdentity n) p (f ∷ fs) h = refl
quiet_pending AskNodeId p (f ∷ fs) h = refl
quiet_pending OtherLss p (f ∷ fs) h = refl

-- ---- each service

-- the deed of a request that is served: 60h tells an accepted write from a refused one
sdo_deed_lem : (s : State) (more : List Frame) → Quiet more → (r : SdoRequest)
    → by_first Keep (sdo_deed (id_of s) r) (sdo_reply r s ++ (booted (sdo_change r s) ++ more)) ≡ sdo_change r s
unfolding sdo_deed sdo_reply sdo_change checked_write
sdo_deed_lem s more q (R.Download index sub size d) = go (eqb (write_code (find index sub) size d s) 0)
  where
    go : (b : Bool)
        → let x = cond b (Ok (asked (find index sub) d)) (Err (write_code (find index sub) size d s)) in
        cond (acknowledges (id_of s) (write_reply x index sub s)) (asked (find index sub) d) Keep ≡ change_in x
    go true = rw (eq-eqb (sdo_replies + id_of s) (sdo_replies + id_of s) refl) refl
    go false = rw (and_false (eqb (sdo_replies + id_of s) (sdo_replies + id_of s))) refl
sdo_deed_lem s more q (R.Upload index sub) = refl
sdo_deed_lem s more q (R.UploadSegment toggle) = refl
sdo_deed_lem s more q R.ClientAbort = keep_first Keep _ more (λ f. refl)
sdo_deed_lem s more q R.DownloadSegment = refl
sdo_deed_lem s more q (R.Unknown index sub) = refl

plain_lss : (s : State) (more : List Frame) (r : LssRequest) → ((f : Frame) → lss_deed r f ≡ Keep)
    → by_first Keep (lss_deed r) (lss_reply r s ++ more) ≡ Keep
plain_lss s more r h = keep_first Keep (lss_deed r) (lss_reply r s ++ more) h

lss_deed_lem : (s : State) (more : List Frame) → Quiet more → (r : LssRequest)
    → by_first Keep (lss_deed r) (lss_reply r s ++ (booted (lss_change r s) ++ more)) ≡ lss_change r s
unfolding lss_deed lss_reply lss_change
lss_deed_lem s more q (Select n number) = plain_lss s more (Select n number) (λ f. refl)
lss_deed_lem s more q (SwitchMode mode) = plain_lss s more (SwitchMode mode) (λ f. refl)
lss_deed_lem s more q (SetNodeId id) = plain_lss s more (SetNodeId id) (λ f. refl)
lss_deed_lem s more q (SetBitIndex table bit) = plain_lss s more (SetBitIndex table bit) (λ f. refl)
lss_deed_lem s more q StorePending = go (in_configuration s) refl
  where
    go : (b : Bool) → in_configuration s ≡ b
        → by_first Keep (lss_deed StorePending) (lss_reply StorePending s ++ (booted (lss_change StorePending s) ++ more)) ≡ lss_change StorePending s
    go true e = rw e refl
    go false e = rw e (quiet_lss StorePending more q)
lss_deed_lem s more q (AskIdentity n) = plain_lss s more (AskIdentity n) (λ f. refl)
lss_deed_lem s more q AskNodeId = plain_lss s more AskNodeId (λ f. refl)
lss_deed_lem s more q OtherLss = plain_lss s more OtherLss (λ f. refl)

-- the pending pair after an LSS request: error 0 tells an accepted 11h or 13h
same_pending : (s : State) (more : List Frame) (r : LssRequest) → ((f : Frame) → lss_pending r s.core.pending f ≡ s.core.pending)
    → by_first s.core.pending (lss_pending r s.core.pending) (lss_reply r s ++ (booted (lss_change r s) ++ more)) ≡ s.core.pending
same_pending s more r h = keep_first s.core.pending (lss_pending r s.core.pending) (lss_reply r s ++ (booted (lss_change r s) ++ more)) h

lss_pending_lem : (s : State) (more : List Frame) → Quiet more → (r : LssRequest)
    → by_first s.core.pending (lss_pending r s.core.pending) (lss_reply r s ++ (booted (lss_change r s) ++ more)) ≡ pending_after r s
unfolding lss_pending lss_reply lss_change pending_after
lss_pending_lem s more q (Select n number) = same_pending s more (Select n number) (λ f. refl)
lss_pending_lem s more q (SwitchMode mode) = same_pending s more (SwitchMode mode) (λ f. refl)
lss_pending_lem s more q (SetNodeId id) = go (in_configuration s) (node_id id) refl refl
  where
    go : (b x : Bool) → in_configuration s ≡ b → node_id id ≡ x
        → by_first s.core.pending (lss_pending (SetNodeId id) s.core.pending) (lss_reply (SetNodeId id) s ++ more) ≡ pending_after (SetNodeId id) s
    go true true e f = rw (e, f) refl
    go true false e f = rw (e, f) refl
    go false x e f = rw e (quiet_pending (SetNodeId id) s.core.pending more q)
lss_pending_lem s more q (SetBitIndex table bit) = go (in_configuration s) (bit_in_table table bit) refl refl
  where
    go : (b x : Bool) → in_configuration s ≡ b → bit_in_table table bit ≡ x
        → by_first s.core.pending (lss_pending (SetBitIndex table bit) s.core.pending) (lss_reply (SetBitIndex table bit) s ++ more)
        ≡ pending_after (SetBitIndex table bit) s
    go true true e f = rw (e, f) refl
    go true false e f = rw (e, f) refl
    go false x e f = rw e (quiet_pending (SetBitIndex table bit) s.core.pending more q)
lss_pending_lem s more q StorePending = same_pending s more StorePending (λ f. refl)
lss_pending_lem s more q (AskIdentity n) = same_pending s more (AskIdentity n) (λ f. refl)
lss_pending_lem s more q AskNodeId = same_pending s more AskNodeId (λ f. refl)
lss_pending_lem s more q OtherLss = same_pending s more OtherLss (λ f. refl)

module _ (s : State) (st : List ℕ) (more : List Frame) (q : Quiet more) where
  -- the pending pair that the request leaves
  abbrev Leaves : Service → Type 0
  Leaves v = service_pending v (reply v s ++ (booted (change_of v s (read st)) ++ more)) s.core.pending ≡ (heard v s).pending

  pending_left : (v : Service) → Leaves v
  unfolding change_of reply service_pending heard ticked synced remote_answered
  pending_left Nothing = refl
  pending_left Tick = refl
  pending_left (Sample fv) = refl
  pending_left (Nmt command to) = sym (commanded_both command to s).1
  pending_left Sync = cond_case (λ (d : Core). s.core.pending ≡ d.pending) (is_operational s.core) (λ _. refl) (λ _. refl)
  pending_left (Remote to) = cond_case (λ (d : Core). s.core.pending ≡ d.pending) (answers_remote to s) (λ _. refl) (λ _. refl)
  pending_left (Sdo to r) = cond_case (λ (d : Core). s.core.pending ≡ d.pending) (serves to s) (λ _. refl) (λ _. refl)
  pending_left (Lss r) = go (is_pre_operational s.core) refl
    where
      go : (b : Bool) → is_pre_operational s.core ≡ b → Leaves (Lss r)
      go true e = rw e (lss_pending_lem s more q r)
      go false e = rw e (quiet_pending r s.core.pending more q)

  -- the deed of all that is sent is the change
  abbrev Tells : Service → Type 0
  Tells v = service_deed (addresses_of s.core (read st)) v (reply v s ++ (booted (change_of v s (read st)) ++ more)) ≡ change_of v s (read st)

  deed_change : (v : Service) → Tells v
  unfolding change_of reply service_deed reset_deed nmt_change reset_asked first_hit
  deed_change Nothing = refl
  deed_change Tick = refl
  deed_change (Sample fv) = refl
  deed_change (Nmt command to) = go (is_for to (id_of s)) (eqb command reset_node_command) (eqb command reset_communication_command) refl refl refl
    where
      go : (b x y : Bool) → is_for to (id_of s) ≡ b → eqb command reset_node_command ≡ x → eqb command reset_communication_command ≡ y
          → Tells (Nmt command to)
      go false x y e1 e2 e3 = rw e1 refl
      go true true y e1 e2 e3 = rw (e1, e2, address_held (read st)) refl
      go true false true e1 e2 e3 = rw (e1, e2, e3) refl
      go true false false e1 e2 e3 = rw (e1, e2, e3) refl
  deed_change Sync = refl
  deed_change (Remote to) = refl
  deed_change (Sdo to r) = go (serves to s) refl
    where
      go : (b : Bool) → serves to s ≡ b → Tells (Sdo to r)
      go true e =
          rw (e, eqb-true to (id_of s) (and_l (eqb to (id_of s)) (not (is_stopped s.core)) e), eq-eqb (id_of s) (id_of s) refl)
          (sdo_deed_lem s more q r)
      go false e = rw e (cond_case (λ (c : Change). c ≡ Keep) (eqb to (id_of s)) (λ _. quiet_sdo to r more q) (λ _. refl))
  deed_change (Lss r) = go (is_pre_operational s.core) refl
    where
      go : (b : Bool) → is_pre_operational s.core ≡ b → Tells (Lss r)
      go true e = rw e (lss_deed_lem s more q r)
      go false e = rw e (quiet_lss r more q)

-- the ID after a served call
pub served_id : (c : Change) (v : Service) (s : State) (st : List ℕ) → Allowed c s → id_of (changed c v s (read st)) ≡ id_after c (id_of s)
served_id c v s st a = core_id c v s (read st) (applied c s.settings (read st)) a

pub served_id_most : (c : Change) (v : Service) (s : State) (st : List ℕ) → Allowed c s → rules s ≡ true
    → id_of (changed c v s (read st)) ≤ 127
served_id_most c v s st a r = rw (served_id c v s st a) (id_most c s a (within_is 1 127 (id_of s) (id_ok s r)).1)

-- THE THEOREM of this file
pub served_deed : (v : Service) (s : State) (st : List ℕ) → rules s ≡ true
    → service_deed (addresses_of s.core (read st)) v (served (change_of v s (read st)) v s st).sent ≡ change_of v s (read st)
unfolding served
served_deed v s st r =
    let c = change_of v s (read st) in
    let t = changed c v s (read st) in
    deed_change s st (when (reports v && emcy_due t) (emcy_frame t)) (emcy_quiet (reports v && emcy_due t) t (served_id_most c v s st (change_allowed s st r v) r)) v

-- ---- the addresses

-- what a load makes of both pairs
readied_both : (gs : Groups) (id : ℕ) (sv : Saved) (c : Core) (p : Address)
    → let m = moved (Load gs id) p (addresses_of c sv) in
    ((readied gs id sv c).active ≡ m.active) × ((readied gs id sv c).pending ≡ m.pending)
unfolding readied moved
readied_both Both id sv c p = rw (address_held sv) (refl, refl)
readied_both OnlyC id sv c p = (refl, refl)
readied_both OnlyA id sv c p = (refl, refl)

module _ (v : Service) (s : State) (sv : Saved) (k : Settings) where
  -- both after a change
  core_both : (c : Change)
      → let m = moved c (heard v s).pending (addresses_of s.core sv) in
      ((core_after c v s sv k).active ≡ m.active) × ((core_after c v s sv k).pending ≡ m.pending)
  unfolding core_after moved
  core_both Keep = (heard_active v s, refl)
  core_both (Write p x) = ((restart_both (timer_of p) (heard v s)).0 ∙ heard_active v s, (restart_both (timer_of p) (heard v s)).1)
  core_both (Save gs) = (heard_active v s, refl)
  core_both (TakeOut gs) = (heard_active v s, refl)
  core_both (Load gs id) =
      let r = reset_both gs id sv k s.core in
      let m = readied_both gs id sv s.core (heard v s).pending in
      (r.0 ∙ m.0, r.1 ∙ m.1)
  core_both SavePending = (heard_active v s, refl)

-- and the stored pair
moved_stored : (c : Change) (p : Address) (a : Addresses) → pair_after c a.pending a.stored ≡ (moved c p a).stored
unfolding moved
moved_stored Keep p a = refl
moved_stored (Write q x) p a = refl
moved_stored (Save gs) p a = refl
moved_stored (TakeOut gs) p a = refl
moved_stored (Load Both id) p a = refl
moved_stored (Load OnlyC id) p a = refl
moved_stored (Load OnlyA id) p a = refl
moved_stored SavePending p a = refl

alike : (a b p q : Address) (n m : Held Address) → a ≡ b → p ≡ q → n ≡ m → three a p n ≡ three b q m
alike a b p q n m d e f = rw (d, e, f) refl

-- all three after a call: what the change makes of them, and the pending pair that the request leaves
pub served_addresses : (c : Change) (v : Service) (s : State) (st : List ℕ)
    → held_address (read (stored c s st)) ≡ pair_after c s.core.pending (held_address (read st))
    → let o = served c v s st in addresses_of o.state.core (read o.store) ≡ moved c (heard v s).pending (addresses_of s.core (read st))
unfolding served
served_addresses c v s st h =
    let a = addresses_of s.core (read st) in
    let m = moved c (heard v s).pending a in
    let b = core_both v s (read st) (applied c s.settings (read st)) c in
    alike _ m.active _ m.pending _ m.stored b.0 b.1 (h ∙ moved_stored c (heard v s).pending a)

pub served_pending : (v : Service) (s : State) (st : List ℕ) → rules s ≡ true
    → service_pending v (served (change_of v s (read st)) v s st).sent s.core.pending ≡ (heard v s).pending
unfolding served
served_pending v s st r =
    let c = change_of v s (read st) in
    let t = changed c v s (read st) in
    pending_left s st (when (reports v && emcy_due t) (emcy_frame t)) (emcy_quiet (reports v && emcy_due t) t (served_id_most c v s st (change_allowed s st r v) r)) v
