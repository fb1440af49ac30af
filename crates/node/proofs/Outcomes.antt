-- From what the parts of a call did to what the call gives. Assumes nothing.
use mathlib.Core.Path.{◌≡◌, refl, sym, ap, ◌∙◌, subst}
use mathlib.Core.Bool.{Bool, true, false, cond, false≢true}
use mathlib.Core.List.{List, [], ◌++◌, append-nil}
use Prim.Native.Nat.{ℕ, ◌≤◌}
use lib.Dec.{eqb}
use lib.ListN.{length}
use borrow.Author.Tests.{ne_eqb}
use Rattle.model.specs.declared.Service.{Service}
use Rattle.model.specs.declared.Service.TheVariants.{Nothing, Tick, Sample, Nmt, Sync, Remote}
use Rattle.model.specs.declared.Change.{Change}
use Rattle.model.specs.declared.Change.TheVariants.{Keep, Write, Save, TakeOut, Load, SavePending}
use Rattle.model.specs.declared.Groups.TheVariants.{Both}
use Rattle.model.specs.declared.Frame.{Frame}
use Rattle.model.specs.declared.Identity.{Identity}
use Rattle.model.specs.declared.Core.{Core}
use Rattle.model.specs.declared.Fv.{Fv}
use Rattle.model.specs.declared.State.{State}
use Rattle.model.specs.declared.Answer.{Answer}
use Rattle.model.specs.Frames.{frames_of}
use Rattle.model.specs.Store.{Saved, read, address_from}
use Rattle.model.specs.Parts.{with_core, with_reported, id_of}
use Rattle.model.specs.Changes.{effect, applied, stored}
use Rattle.model.specs.Service.{service}
use Rattle.model.specs.Time.{ticked, tick_frames, sampled, synced, sync_frames, remote_answered, remote_frames}
use Rattle.model.specs.Nmt.{is_for, reset_asked, nmt_change, commanded}
use Rattle.model.specs.Rules.{rules, rule_upload}
use Rattle.model.specs.Step.{Outcome, refusal, power_on_refusal, change_of, reply, heard, core_after, booted, changed, reports, served, step, unborn, power_on, zero_store, turned_away, refused, given, event_answer, power_on_answer, Gives}
use Rattle.laws.proofs.Tests.{within_is, cond_case, hit_case}
use Rattle.laws.proofs.Loading.{address_ok}
use Rattle.laws.proofs.Allowed.{change_allowed}
use Rattle.laws.proofs.RulesKept.{step_rules, power_on_rules}
use Rattle.laws.proofs.Count.{quiet_state}
use Rattle.lss.specs.Told.{part_in}
use Rattle.lss.proofs.Asked.{asked_part}
use Rattle.wire.proofs.Lay.{start}
use Rattle.rules.specs.Fit.{Fit}
use Rattle.rules.proofs.Fits.{fit}
use Rattle.rules.proofs.Accepted.{Accepted, accepted}
use Rattle.step.specs.declared.ask.Asked.{Asked}
use Rattle.step.specs.Asked.{IsAsked, Suits, alters_of}
use Rattle.step.proofs.Suit.{suits}
use Rattle.output.specs.declared.Sent.{Sent}
use Rattle.output.specs.Sent.{Done, Leaves, emcy_of, reported_now}
use Rattle.output.proofs.Ticks.{laid_as}
use Rattle.node.proofs.Quiet.{kept_in, moves_of, calm}
use Rattle.node.specs.Parts.{left, Turning}

-- what a service comes to
abbrev pub asked : Service → State → List ℕ → Outcome
asked v s st = served (change_of v s (read st)) v s st

-- the load of a power-on
abbrev pub first_load : List ℕ → Change
first_load st = Load Both (address_from (read st)).id

-- ---- The state that EMCY is judged on: the reported flag alone is not yet right

fit_before : (t : State) (b : Bool) → rules (with_core t (with_reported t.core b)) ≡ true → Fit t
fit_before t b r =
    let f = fit (with_core t (with_reported t.core b)) r in
    record {
      id = f.id;
      pending = f.pending;
      digits = f.digits;
      first = f.first;
      second = f.second;
      progress = f.progress;
      upload = unfold rule_upload in f.upload;
    }

fit_served : (c : Change) (v : Service) (s : State) (st : List ℕ) → rules (served c v s st).state ≡ true → Fit (changed c v s (read st))
unfolding served
fit_served c v s st r = fit_before (changed c v s (read st)) _ r

pub fit_asked : (v : Service) (s : State) (st : List ℕ) (c : Change) → rules (asked v s st).state ≡ true → c ≡ change_of v s (read st)
    → Fit (changed c v s (read st))
fit_asked v s st c r k = rw k (fit_served (change_of v s (read st)) v s st r)

pub fit_awake : (i : Identity) (st : List ℕ) (c : Change) → c ≡ first_load st → Fit (changed c Nothing (unborn i) (read st))
unfolding power_on
fit_awake i st c k = rw k (fit_served (first_load st) Nothing (unborn i) st (power_on_rules i st))

-- ---- The change suits its code

pub suits_asked : (v : Service) (s : State) (st : List ℕ) (c : Change) → rules s ≡ true → c ≡ change_of v s (read st) → Suits c
suits_asked v s st c r k = rw k (suits (change_of v s (read st)) s (change_allowed s st r v))

pub suits_load : (st : List ℕ) (c : Change) → c ≡ first_load st → Suits c
suits_load st c k = rw k (within_is 1 127 (address_from (read st)).id (address_ok st).0).1

-- ---- A call that is done

gives : (o : Outcome) {xs ys zs : List ℕ} {r : Answer} → Done o.sent o.state xs ys r → zs ≡ o.store → Gives (given o xs) r ys zs
gives o d e =
    record {
      answer = λ i. record { number = d.number i; count = d.laid.number i; state = d.state i };
      output = d.laid.bytes;
      store = e;
    }

done_as : {fs gs : List Frame} {t u : State} {xs ys : List ℕ} {r : Answer} → fs ≡ gs → t ≡ u → Done fs t xs ys r → Done gs u xs ys r
done_as e f d =
    record { number = d.number; laid = laid_as d.laid e; state = d.state ∙ f }

-- a service but a tick: its reply, the boot-up of its change, and EMCY
pub gives_served : (c : Change) (v : Service) (s : State) (st : List ℕ) {fs gs : List Frame} {t : State} {xs ys zs : List ℕ} {r : Answer}
    → reports v ≡ true → fs ≡ reply v s → gs ≡ booted c → t ≡ changed c v s (read st) → zs ≡ stored c s st
    → Done (fs ++ (gs ++ emcy_of t)) (reported_now t) xs ys r
    → Gives (given (served c v s st) xs) r ys zs
unfolding served
gives_served c v s st other a b e k d = gives (served c v s st) (done_as (rw (other, a, b, e)) (rw (other, e)) d) k

-- what was sent and left is done
stayed_done : {fs : List Frame} {t : State} {xs ys : List ℕ} {r : Sent} → Leaves fs t.core xs ys r → Done fs t xs ys (left r t)
stayed_done {t} l = record { number = refl; laid = l.laid; state = ap (with_core t) l.core }

-- the same for a change that is this one
pub of_change : {c d : Change} (v : Service) (s : State) (st xs : List ℕ) {ys zs : List ℕ} {r : Answer} → c ≡ d
    → Gives (given (served c v s st) xs) r ys zs → Gives (given (served d v s st) xs) r ys zs
of_change v s st xs {ys} {zs} {r} e g = subst (λ (b : Change). Gives (given (served b v s st) xs) r ys zs) e g

-- a tick
pub gives_tick : (s : State) (st : List ℕ) {xs ys : List ℕ} {r : Sent} → Leaves (tick_frames s) (ticked s) xs ys r
    → Gives (given (asked Tick s st) xs) (left r s) ys st
unfolding served change_of reply core_after heard applied effect stored
gives_tick s st l =
    gives (asked Tick s st) (record { number = refl; laid = laid_as l.laid (sym (append-nil (tick_frames s))); state = ap (with_core s) l.core }) refl

-- a frame that no service owns: nothing is sent, and no EMCY is due
pub gives_nothing : (s : State) (xs st : List ℕ) → rules s ≡ true → Gives (given (asked Nothing s st) xs) (turned_away 0 s) xs st
unfolding served change_of reply core_after heard applied effect stored
gives_nothing s xs st r = rw (quiet_state s r) (record { answer = refl; output = (start xs).bytes; store = refl })

-- ---- A change that leaves the parameters

-- the rules hold after an event's service
rules_after : (e : List ℕ) (s : State) (st : List ℕ) (v : Service) → v ≡ service e → rules s ≡ true → rules (asked v s st).state ≡ true
unfolding step
rules_after e s st v k r = rw k (step_rules e s st r)

left_alone : (c : Change) (v : Service) (s : State) (sv : Saved) → alters_of c ≡ false → (kept_in v s ≡ changed c v s sv) × ([] ≡ booted c)
unfolding core_after applied effect
left_alone Keep v s sv a = (refl, refl)
left_alone (Write p x) v s sv a = absurd (false≢true (sym a))
left_alone (Save gs) v s sv a = (refl, refl)
left_alone (TakeOut gs) v s sv a = absurd (false≢true (sym a))
left_alone (Load gs id) v s sv a = absurd (false≢true (sym a))
left_alone SavePending v s sv a = (refl, refl)

-- the ID after such a service
pub id_stayed : (e : List ℕ) (s : State) (st : List ℕ) (v : Service) (c : Change) → v ≡ service e → rules s ≡ true → alters_of c ≡ false
    → c ≡ change_of v s (read st) → (heard v s).active.id ≤ 127
id_stayed e s st v c k r a told = (subst Fit (sym (left_alone c v s (read st) a).0) (fit_asked v s st c (rules_after e s st v k r) told)).id

-- what it gives: its reply, and EMCY
gives_stayed : (c : Change) (v : Service) (s : State) (st : List ℕ) {fs : List Frame} {xs ys zs : List ℕ} {r : Sent} → alters_of c ≡ false
    → reports v ≡ true → fs ≡ reply v s → zs ≡ stored c s st → Leaves (fs ++ emcy_of (kept_in v s)) (reported_now (kept_in v s)).core xs ys r
    → Gives (given (served c v s st) xs) (left r s) ys zs
gives_stayed c v s st a other e k l =
    let alone = left_alone c v s (read st) a in
    gives_served c v s st other e alone.1 alone.0 k (stayed_done l)

-- its reply alone, where no EMCY can be due
pub gives_calm : (c : Change) (v : Service) (s : State) (st : List ℕ) {fs : List Frame} {h : Core} {xs ys zs : List ℕ} {r : Sent} → alters_of c ≡ false
    → reports v ≡ true → moves_of v ≡ false → rules s ≡ true → fs ≡ reply v s → h ≡ heard v s → zs ≡ stored c s st → Leaves fs h xs ys r
    → Gives (given (served c v s st) xs) (left r s) ys zs
gives_calm c v s st {fs} a other m ok e k z l =
    let quiet = calm v s m other ok in
    gives_stayed c v s st a other e z
    (record { laid = rw quiet (laid_as l.laid (sym (append-nil fs))); core = rw quiet (l.core ∙ k) })

-- EMCY alone, where the service has no reply
pub gives_judged : (c : Change) (v : Service) (s : State) (st : List ℕ) {h : Core} {xs ys zs : List ℕ} {r : Sent} → alters_of c ≡ false
    → reports v ≡ true → [] ≡ reply v s → h ≡ heard v s → zs ≡ stored c s st
    → Leaves (emcy_of (with_core s h)) (reported_now (with_core s h)).core xs ys r
    → Gives (given (served c v s st) xs) (left r s) ys zs
gives_judged c v s st a other e k z l = gives_stayed c v s st a other e z (rw k at l)

-- a sample, a SYNC and a remote frame change no parameter and no store
pub gives_sample : (fv : Fv) (s : State) (st : List ℕ) {xs ys : List ℕ} {r : Sent}
    → (let t = with_core s (sampled fv s.core) in Leaves (emcy_of t) (reported_now t).core xs ys r) → Gives (given (asked (Sample fv) s st) xs) (left r s) ys st
unfolding change_of reply heard stored
gives_sample fv s st l = gives_judged Keep (Sample fv) s st refl refl refl refl refl l

pub gives_sync : (s : State) (st : List ℕ) {xs ys : List ℕ} {r : Sent} → rules s ≡ true → Leaves (sync_frames s) (synced s) xs ys r
    → Gives (given (asked Sync s st) xs) (left r s) ys st
unfolding change_of reply heard stored
gives_sync s st ok l = gives_calm Keep Sync s st refl refl refl ok refl refl refl l

pub gives_remote : (to : ℕ) (s : State) (st : List ℕ) {xs ys : List ℕ} {r : Sent} → rules s ≡ true
    → Leaves (remote_frames to s) (remote_answered to s) xs ys r → Gives (given (asked (Remote to) s st) xs) (left r s) ys st
unfolding change_of reply heard stored
gives_remote to s st ok l = gives_calm Keep (Remote to) s st refl refl refl ok refl refl refl l

-- no NMT command changes the store
nmt_stored : (command to : ℕ) (s : State) (st : List ℕ) → st ≡ stored (change_of (Nmt command to) s (read st)) s st
unfolding change_of nmt_change reset_asked stored
nmt_stored command to s st =
    cond_case (λ (c : Change). st ≡ stored c s st) (is_for to (id_of s))
    (λ _. hit_case (λ (c : Change). st ≡ stored c s st) _ Keep ((λ _. refl), ((λ _. refl), tt)) refl)
    (λ _. refl)

-- one that is no reset
pub gives_nmt : (command to : ℕ) (s : State) (st : List ℕ) {c : Change} {h : Core} {xs ys : List ℕ} {r : Sent} → c ≡ change_of (Nmt command to) s (read st)
    → alters_of c ≡ false → h ≡ commanded command to s → Leaves (emcy_of (with_core s h)) (reported_now (with_core s h)).core xs ys r
    → Gives (given (served c (Nmt command to) s st) xs) (left r s) ys st
unfolding reply heard
gives_nmt command to s st {c} told a k l =
    gives_judged c (Nmt command to) s st a refl refl k (rw told (nmt_stored command to s st)) l

-- ---- The event

-- what a call that is not refused may count on, by the number that its code has found
pub admitted : (e : List ℕ) (s : State) (out st : ℕ) {n : ℕ} → n ≡ refusal e s out st → n ≡ 0 → Accepted s out st
admitted e s out st a z = accepted e s out st (sym a ∙ z)

-- what each of its services may count on
pub may_serve : (e : List ℕ) (s : State) (out st : ℕ) {n : ℕ} → n ≡ refusal e s out st → n ≡ 0 → Fit s × (48 ≤ out)
may_serve e s out st a z = let ok = admitted e s out st a z in (fit s ok.kept, ok.lent.room)

-- by the service that its code has found
pub service_done : (e : List ℕ) (s : State) (out st : List ℕ) {v : Service} {r : Answer} {ys zs : List ℕ} → v ≡ service e
    → Gives (given (asked v s st) out) r ys zs → Gives (given (step e s st) out) r ys zs
unfolding step
service_done e s out st {r} {ys} {zs} k g = subst (λ (w : Service). Gives (given (asked w s st) out) r ys zs) k g

-- and by the change
pub change_done : (e : List ℕ) (s : State) (out st : List ℕ) {v : Service} {c : Change} {r : Answer} {ys zs : List ℕ} → v ≡ service e
    → c ≡ change_of v s (read st) → Gives (given (served c v s st) out) r ys zs → Gives (given (step e s st) out) r ys zs
change_done e s out st {v} k told g = service_done e s out st k (of_change v s st out told g)

-- a change that touches the parameters, where `altered` made it
pub gives_altered : (e : List ℕ) (s : State) (xs st : List ℕ) (v : Service) (a : Asked) {h : Core} {ys zs : List ℕ} {r : Answer} → v ≡ service e
    → reports v ≡ true → h ≡ heard v s → IsAsked v s st a
    → ((w : Service) → h ≡ heard w s → reports w ≡ true → frames_of a.reply ≡ reply w s → Gives (given (served a.change w s st) xs) r ys zs)
    → Gives (given (step e s st) xs) r ys zs
gives_altered e s xs st v a k other heard q d = change_done e s xs st k q.change (d v heard other q.frames)

-- over w, which is what the store holds
pub event_by : (e : List ℕ) (s : State) (out st : List ℕ) (n : ℕ) {w : List ℕ} {r : Answer} {ys zs : List ℕ}
    → n ≡ refusal e s (length out) (length st) → n ≡ 0 → w ≡ st → Gives (given (step e s w) out) r ys zs → Gives (event_answer e s out st) r ys zs
unfolding event_answer
event_by e s out st n {w} {r} {ys} {zs} a z same g =
    subst (λ (m : ℕ). Gives (cond (eqb m 0) (given (step e s st) out) (refused m s out st)) r ys zs) (sym z ∙ a)
    (subst (λ (x : List ℕ). Gives (given (step e s x) out) r ys zs) same g)

pub event_refused : (e : List ℕ) (s : State) (out st : List ℕ) (n : ℕ) → n ≡ refusal e s (length out) (length st) → (n ≡ 0 → ⊥)
    → Gives (event_answer e s out st) (turned_away n s) out st
unfolding event_answer
event_refused e s out st n a z =
    subst (λ (m : ℕ). Gives (cond (eqb m 0) (given (step e s st) out) (refused m s out st)) (turned_away n s) out st) a
    (rw (ne_eqb n 0 z) (record { answer = refl; output = refl; store = refl }))

pub part_ok : (e : List ℕ) (v : Service) → v ≡ service e → part_in v ≤ 3
part_ok e v k = rw k (asked_part e)

-- what the parts may count on
pub turning : (e : List ℕ) (s : State) (st : List ℕ) (v : Service) (a : Asked) {h : Core} → v ≡ service e → rules s ≡ true
    → h ≡ heard v s → IsAsked v s st a → Turning a h s st
turning e s st v a told r k q =
    record {
      asks = v;
      heard = k;
      suits = suits_asked v s st a.change r q.change;
      sizes = q.sizes;
      after = fit_asked v s st a.change (rules_after e s st v told r) q.change;
    }

-- ---- The power-on

-- its load leaves the store
pub load_leaves : (i : Identity) (st : List ℕ) (c : Change) → c ≡ first_load st → st ≡ stored c (unborn i) st
unfolding stored
load_leaves i st c k = rw k refl

pub power_on_done : (i : Identity) (out st : List ℕ) (n : ℕ) {r : Answer} {ys : List ℕ} → n ≡ power_on_refusal (length out) (length st) → n ≡ 0
    → Gives (given (power_on i st) out) r ys st → Gives (power_on_answer i out st) r ys st
unfolding power_on_answer
power_on_done i out st n {r} {ys} a z g =
    subst (λ (m : ℕ). Gives (cond (eqb m 0) (given (power_on i st) out) (refused m (power_on i zero_store).state out st)) r ys st) (sym z ∙ a) g

pub power_on_refused : (i : Identity) (out st : List ℕ) (n : ℕ) {t : State} → n ≡ power_on_refusal (length out) (length st) → (n ≡ 0 → ⊥)
    → t ≡ (power_on i zero_store).state → Gives (power_on_answer i out st) (turned_away n t) out st
unfolding power_on_answer
power_on_refused i out st n {t} a z k =
    subst (λ (m : ℕ). Gives (cond (eqb m 0) (given (power_on i st) out) (refused m (power_on i zero_store).state out st)) (turned_away n t) out st) a
    (rw (ne_eqb n 0 z) (record { answer = rw k; output = refl; store = refl }))
