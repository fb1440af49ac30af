-- The state rules are kept: a power-on hands back a state that keeps them, refused or not, and an event takes such a state to such a state,
-- whatever its bytes and the store are. So over any run no call is refused by number 6. Assumes nothing.
use mathlib.Core.Path.{◌≡◌, refl, sym, ap, ◌∙◌, subst}
use mathlib.Core.Bool.{Bool, true, false, ◌&&◌, ◌||◌, not, false≢true}
use mathlib.Core.List.{List, [], ◌∷◌}
use Prim.Native.Nat.{ℕ}
use native.Mathlib.Omega.{arith}
use lib.Dec.{eqb}
use lib.ListN.{length}
use Rattle.model.specs.declared.Value.{Value}
use Rattle.model.specs.declared.Parameter.{Parameter}
use Rattle.model.specs.declared.Parameter.TheVariants.{P1301s1, P1800s2, P13FE, P51FE}
use Rattle.model.specs.declared.Group.{Group}
use Rattle.model.specs.declared.Group.TheVariants.{C, A}
use Rattle.model.specs.declared.Groups.TheVariants.{Both}
use Rattle.model.specs.declared.Change.{Change}
use Rattle.model.specs.declared.Change.TheVariants.{Keep, Write, Save, TakeOut, Load, SavePending}
use Rattle.model.specs.declared.Service.{Service}
use Rattle.model.specs.declared.Service.TheVariants.{Nothing, Tick, Sample, Nmt, Sync, Remote, Sdo, Lss}
use Rattle.model.specs.declared.Identity.{Identity}
use Rattle.model.specs.declared.Settings.{Settings}
use Rattle.model.specs.declared.Core.{Core}
use Rattle.model.specs.declared.State.{State}
use Rattle.model.specs.Choice.{first_hit}
use Rattle.model.specs.Values.{number_of}
use Rattle.model.specs.Settings.{row, rows, same, among, has, in_force, in_ranges, Now, stays}
use Rattle.model.specs.Validity.{covered, signature_of, validity_of, honest, sound, revokes, changes}
use Rattle.model.specs.Store.{Saved, read, address_from}
use Rattle.model.specs.Changes.{effect, applied}
use Rattle.model.specs.Parts.{id_of, is_stopped, is_operational, is_pre_operational, capped}
use Rattle.model.specs.Service.{service}
use Rattle.model.specs.Time.{communication, timer_of, restart, ticked, differ, emcy_due}
use Rattle.model.specs.Nmt.{is_for, start_obeyed, nmt_change, reset_asked}
use Rattle.model.specs.Sdo.{serves}
use Rattle.model.specs.Rules.{rules, rule_ids, rule_bits, rule_nmt, rule_ranges, rule_honest, rule_start, rule_reported, rule_lss, rule_sync, rule_upload}
use Rattle.model.specs.Step.{done, broken_state, refusal, power_on_refusal, change_of, heard, core_after, changed, reports, reported_after, served, step, unborn, power_on, zero_store}
use Rattle.model.specs.Run.{Call, World, begun, continued, run}
use Rattle.model.proofs.Everything.{everything}
use Rattle.laws.proofs.Tests.{cond_case, and_l, and_r, and_false, implies, off, hit_case}
use Rattle.laws.proofs.Parameters.{same_eq, by_table}
use Rattle.laws.proofs.Loading.{address_ok}
use Rattle.laws.proofs.Allowed.{Allowed, change_allowed}
use Rattle.laws.proofs.Sound.{applied_is, sound_after}
use Rattle.laws.proofs.CoreRules.{CoreOk, core_ok, CountOk, start_ok, sync_ok, zero_sync, heard_core, heard_start, heard_sync, restart_core, restart_nmt, restart_sync, reset_core, reset_start, reset_sync}
use Rattle.laws.proofs.Count.{flag_right}

-- ---- a write of an entry without a star leaves the starred ones, and so Start

revokes_star : (p q : Parameter) → revokes p q ≡ true → (row p).star ≡ true
unfolding revokes
revokes_star p q h =
    implies (among (covered (row p).group) p || same p (signature_of (row p).group)) _ (and_r (same q (validity_of (row p).group)) _ h)
    (by_table (λ (x : Parameter). not (among (covered (row x).group) x || same x (signature_of (row x).group)) || (row x).star) refl p)

free_stays : (p q : Parameter) (v : Value) (k : Settings) (sv : Saved) → (row p).star ≡ false → (row q).star ≡ true
    → effect (Write p v) k sv q ≡ stays
unfolding effect
free_stays p q v k sv a b =
    cond_case (λ (n : Now). n ≡ stays) (same q p) (λ e. absurd (false≢true (sym a ∙ ap (λ (x : Parameter). (row x).star) (sym (same_eq q p e)) ∙ b)))
    (λ _. cond_case (λ (n : Now). n ≡ stays) (revokes p q && changes p v (in_force k))
    (λ e. absurd (false≢true (sym a ∙ revokes_star p q (and_l _ (changes p v (in_force k)) e)))) (λ _. refl))

-- Start looks at three values
start_by : (k m : Settings) → in_force k P51FE ≡ in_force m P51FE → in_force k P1301s1 ≡ in_force m P1301s1 → in_force k P13FE ≡ in_force m P13FE
    → start_obeyed k ≡ start_obeyed m
unfolding start_obeyed
start_by k m a b c = rw (ap number_of a, ap number_of b, ap number_of c) refl

-- ---- a service that changes parameters leaves NMT state and SYNC count alone

abbrev Apart : Service → State → Type 0
Apart v s = ((heard v s).nmt ≡ s.core.nmt) × ((heard v s).tpdo ≡ s.core.tpdo)

abbrev Beside : Service → State → Change → Type 0
Beside v s Keep = Unit {0}
Beside v s (Write p x) = Apart v s
Beside v s (Save gs) = Apart v s
Beside v s (TakeOut gs) = Apart v s
Beside v s (Load gs id) = Unit {0}
Beside v s SavePending = Apart v s

beside_apart : (v : Service) (s : State) (c : Change) → Apart v s → Beside v s c
beside_apart v s Keep h = tt
beside_apart v s (Write p x) h = h
beside_apart v s (Save gs) h = h
beside_apart v s (TakeOut gs) h = h
beside_apart v s (Load gs id) h = tt
beside_apart v s SavePending h = h

beside : (v : Service) (s : State) (sv : Saved) → Beside v s (change_of v s sv)
unfolding change_of heard nmt_change reset_asked
beside Nothing s sv = tt
beside Tick s sv = tt
beside (Sample fv) s sv = tt
beside (Nmt command to) s sv =
    cond_case (Beside (Nmt command to) s) (is_for to (id_of s)) (λ _. hit_case (Beside (Nmt command to) s) _ _ ((λ _. tt), ((λ _. tt), tt)) tt) (λ _. tt)
beside Sync s sv = tt
beside (Remote to) s sv = tt
beside (Sdo to r) s sv =
    beside_apart (Sdo to r) s (change_of (Sdo to r) s sv) (
      cond_case (λ (c : Core). c.nmt ≡ s.core.nmt) (serves to s) (λ _. refl) (λ _. refl),
      cond_case (λ (c : Core). c.tpdo ≡ s.core.tpdo) (serves to s) (λ _. refl) (λ _. refl),
    )
beside (Lss r) s sv =
    beside_apart (Lss r) s (change_of (Lss r) s sv) (
      cond_case (λ (c : Core). c.nmt ≡ s.core.nmt) (is_pre_operational s.core) (λ _. refl) (λ _. refl),
      cond_case (λ (c : Core). c.tpdo ≡ s.core.tpdo) (is_pre_operational s.core) (λ _. refl) (λ _. refl),
    )

-- ---- a change and a service keep all rules but the one of the reported flag, which EMCY sets right

module _ (s : State) (st : List ℕ) (r : rules s ≡ true) where
  core_after_lem : (c : Change) (v : Service) → Allowed c s → (k : Settings) → CoreOk (core_after c v s (read st) k)
  unfolding core_after
  core_after_lem Keep v a k = heard_core v s (core_ok s r)
  core_after_lem (Write p x) v a k = restart_core (timer_of p) (heard v s) (heard_core v s (core_ok s r))
  core_after_lem (Save gs) v a k = heard_core v s (core_ok s r)
  core_after_lem (TakeOut gs) v a k = heard_core v s (core_ok s r)
  core_after_lem (Load gs id) v a k = reset_core gs id st k s.core a.0 (core_ok s r)
  core_after_lem SavePending v a k = heard_core v s (core_ok s r)

  abbrev Started : ℕ → Settings → Type 0
  Started nmt k = not (eqb nmt 5) || start_obeyed k ≡ true

  old_start : (v : Service) → Apart v s → Started (heard v s).nmt s.settings
  old_start v b = rw b.0 (start_ok s r)

  write_start : (p : Parameter) (x : Value) (v : Service) → Allowed (Write p x) s → Apart v s
      → Started (restart (timer_of p) (heard v s)).nmt (applied (Write p x) s.settings (read st))
  write_start p x v a b = rw (restart_nmt (timer_of p) (heard v s), b.0) (go (is_operational s.core) refl)
    where
      go : (t : Bool) → is_operational s.core ≡ t → Started s.core.nmt (applied (Write p x) s.settings (read st))
      go true e =
          let f : (row p).star ≡ false = rw (← (right_true (row p).star)) (rw e at a.unlocked) in
          let same_value : (q : Parameter) → (row q).star ≡ true → in_force (applied (Write p x) s.settings (read st)) q ≡ in_force s.settings q =
          λ q t. applied_is s st (Write p x) a q ∙ rw (free_stays p q x s.settings (read st) f t) refl in
          rw (start_by (applied (Write p x) s.settings (read st)) s.settings (same_value P51FE refl) (same_value P1301s1 refl) (same_value P13FE refl)) (start_ok s r)
        where
          right_true : (t : Bool) → t && true ≡ t
          right_true true = refl
          right_true false = refl
      go false e = off _ _ e

  start_after_lem : (c : Change) (v : Service) → Allowed c s → Beside v s c
      → Started (core_after c v s (read st) (applied c s.settings (read st))).nmt (applied c s.settings (read st))
  start_after_lem Keep v a b = unfold core_after applied effect in heard_start v s (start_ok s r)
  start_after_lem (Write p x) v a b = unfold core_after in write_start p x v a b
  start_after_lem (Save gs) v a b = unfold core_after applied effect in old_start v b
  start_after_lem (TakeOut gs) v a b = unfold core_after in rw b.0 (off _ _ a)
  start_after_lem (Load gs id) v a b = unfold core_after in reset_start gs id (read st) (applied (Load gs id) s.settings (read st)) s.core
  start_after_lem SavePending v a b = unfold core_after applied effect in old_start v b

  old_sync : (v : Service) → Apart v s → CountOk (communication s).tpdo.kind (heard v s)
  old_sync v b = rw b.1 (sync_ok s r)

  no_vouch : (g : Group) → same P1800s2 (validity_of g) ≡ false
  no_vouch C = refl
  no_vouch A = refl

  write_sync : (p : Parameter) (x : Value) (v : Service) → Apart v s
      → CountOk (applied (Write p x) s.settings (read st)).communication.tpdo.kind (restart (timer_of p) (heard v s))
  write_sync p x v b = go (same P1800s2 p) refl
    where
      go : (t : Bool) → same P1800s2 p ≡ t
          → CountOk (applied (Write p x) s.settings (read st)).communication.tpdo.kind (restart (timer_of p) (heard v s))
      go true e =
          subst (λ (q : Parameter). CountOk (applied (Write q x) s.settings (read st)).communication.tpdo.kind (restart (timer_of q) (heard v s))) (same_eq P1800s2 p e)
          (unfold timer_of first_hit in zero_sync (applied (Write P1800s2 x) s.settings (read st)).communication.tpdo.kind)
      go false e = unfold applied effect revokes in rw (e, no_vouch (row p).group) (restart_sync (timer_of p) (communication s).tpdo.kind (heard v s) (old_sync v b))

  sync_after : (c : Change) (v : Service) → Allowed c s → Beside v s c
      → CountOk (applied c s.settings (read st)).communication.tpdo.kind (core_after c v s (read st) (applied c s.settings (read st)))
  sync_after Keep v a b = unfold core_after applied effect in heard_sync v s (sync_ok s r)
  sync_after (Write p x) v a b = unfold core_after in write_sync p x v b
  sync_after (Save gs) v a b = unfold core_after applied effect in old_sync v b
  sync_after (TakeOut gs) v a b = unfold core_after applied effect in rw (and_false (has gs C)) (old_sync v b)
  sync_after (Load gs id) v a b = unfold core_after in reset_sync gs id (read st) (applied (Load gs id) s.settings (read st)).communication.tpdo.kind (applied (Load gs id) s.settings (read st)) s.core
  sync_after SavePending v a b = unfold core_after applied effect in old_sync v b

-- ---- the reported flag

flag : (a c r : Bool) (t : State) → is_stopped t.core ≡ a → capped t ≡ c → t.core.reported ≡ r
    → a || not (differ c (reported_after (not a && differ c r) t)) ≡ true
flag true c r t e f g = refl
flag false true true t e f g = rw g refl
flag false true false t e f g = rw f refl
flag false false true t e f g = rw f refl
flag false false false t e f g = rw g refl

-- an EMCY that is due sets it right
told_flag : (c : Change) (v : Service) (s : State) (st : List ℕ) → reports v ≡ true → rule_reported (served c v s st).state ≡ true
unfolding served rule_reported emcy_due
told_flag c v s st e = let t = changed c v s (read st) in rw e (flag (is_stopped t.core) (capped t) t.core.reported t refl refl refl)

tick_flag : (s : State) (st : List ℕ) → rules s ≡ true → rule_reported (served Keep Tick s st).state ≡ true
unfolding served rule_reported core_after heard ticked applied effect
tick_flag s st r = flag_right s r

flag_after : (v : Service) (s : State) (st : List ℕ) → rules s ≡ true → rule_reported (served (change_of v s (read st)) v s st).state ≡ true
unfolding change_of
flag_after Nothing s st r = told_flag Keep Nothing s st refl
flag_after Tick s st r = tick_flag s st r
flag_after (Sample fv) s st r = told_flag Keep (Sample fv) s st refl
flag_after (Nmt command to) s st r = told_flag _ (Nmt command to) s st refl
flag_after Sync s st r = told_flag Keep Sync s st refl
flag_after (Remote to) s st r = told_flag Keep (Remote to) s st refl
flag_after (Sdo to q) s st r = told_flag _ (Sdo to q) s st refl
flag_after (Lss q) s st r = told_flag _ (Lss q) s st refl

-- ---- all of them

served_rules : (c : Change) (v : Service) (s : State) (st : List ℕ) → rules s ≡ true → Allowed c s → Beside v s c
    → rule_reported (served c v s st).state ≡ true → rules (served c v s st).state ≡ true
unfolding rules rule_ids rule_bits rule_nmt rule_ranges rule_honest rule_start rule_lss rule_sync rule_upload served sound
served_rules c v s st r a b f =
    let k = applied c s.settings (read st) in
    let o = core_after_lem s st r c v a k in
    let sc = sound_after s st r c a C in
    let sa = sound_after s st r c a A in
    rw (
      o.ids,
      o.bits,
      o.nmt,
      and_l (in_ranges (rows C) (in_force k)) (honest C (in_force k)) sc,
      and_l (in_ranges (rows A) (in_force k)) (honest A (in_force k)) sa,
      and_r (in_ranges (rows C) (in_force k)) (honest C (in_force k)) sc,
      and_r (in_ranges (rows A) (in_force k)) (honest A (in_force k)) sa,
      start_after_lem s st r c v a b,
      f,
      o.lss,
      sync_after s st r c v a b,
    ) o.upload

-- THE THEOREM: an event leaves the rules kept, whatever its bytes and the store are
pub step_rules : (e : List ℕ) (s : State) (st : List ℕ) → rules s ≡ true → rules (step e s st).state ≡ true
unfolding step
step_rules e s st r =
    let v = service e in
    served_rules (change_of v s (read st)) v s st r (change_allowed s st r v) (beside v s (read st)) (flag_after v s st r)

-- the state before a power-on keeps them
pub unborn_rules : (i : Identity) → rules (unborn i) ≡ true
unfolding everything
unborn_rules i = refl

-- and so does the state of every power-on, of any store
pub power_on_rules : (i : Identity) (st : List ℕ) → rules (power_on i st).state ≡ true
unfolding power_on
power_on_rules i st =
    let c = Load Both (address_from (read st)).id in
    served_rules c Nothing (unborn i) st (unborn_rules i) ((address_ok st).0, refl) tt (told_flag c Nothing (unborn i) st refl)

-- ---- runs

-- refused or not, the world begins with a state that keeps the rules
pub begun_rules : (i : Identity) (room : ℕ) (st : List ℕ) → rules (begun i room st).state ≡ true
unfolding begun
begun_rules i room st =
    cond_case (λ (w : World). rules w.state ≡ true) (eqb (power_on_refusal room (length st)) done) (λ _. power_on_rules i st) (λ _. power_on_rules i zero_store)

pub continued_rules : (c : Call) (w : World) → rules w.state ≡ true → rules (continued c w).state ≡ true
unfolding continued
continued_rules c w r =
    cond_case (λ (x : World). rules x.state ≡ true) (eqb (refusal c.event w.state c.room (length w.store)) done)
    (λ _. step_rules c.event w.state w.store r) (λ _. r)

pub run_rules : (cs : List Call) (w : World) → rules w.state ≡ true → rules (run cs w).state ≡ true
unfolding run continued
run_rules [] w r = r
run_rules (c ∷ cs) w r = run_rules cs (continued c w) (continued_rules c w r)

-- a state that keeps the rules is never refused by 6
pub not_six : (e : List ℕ) (s : State) (room size : ℕ) → rules s ≡ true → refusal e s room size ≡ broken_state → ⊥
unfolding refusal
not_six e s room size r =
    hit_case (λ (n : ℕ). n ≡ broken_state → ⊥) _ _
    ((λ _ x. omega arith), ((λ _ x. omega arith), ((λ _ x. omega arith), ((λ _ x. omega arith), ((λ _ x. omega arith), ((λ y x. false≢true (rw r at y)), tt))))))
    (λ x. omega arith)

-- THE THEOREM for runs: after a power-on, refused or not, no call is refused by 6
pub never_six : (i : Identity) (room : ℕ) (st : List ℕ) (cs : List Call) (e : List ℕ) (out : ℕ)
    → let w = run cs (begun i room st) in refusal e w.state out (length w.store) ≡ broken_state → ⊥
never_six i room st cs e out =
    let w = run cs (begun i room st) in
    not_six e w.state out (length w.store) (run_rules cs (begun i room st) (begun_rules i room st))
