-- Nothing is written by halves. An event leaves every saved parameter and every byte of the store as they were; or the first frame that it sends
-- accepts a request, and parameters and store are what that request's change makes of them, and nothing else. A refused call changes nothing at all.
-- What this adds to the history: it is of one event in any state and over any store, kept rules or not, and it speaks of the store's bytes.
-- Assumes nothing.
use mathlib.Core.Path.{◌≡◌, refl, sym, ap, subst}
use mathlib.Core.Bool.{Bool, true, false, cond, ◌&&◌}
use mathlib.Core.List.{List, ◌∷◌, ◌++◌}
use mathlib.Core.Logic.{◌⊎◌, inl, inr, ⊎_elim}
use Prim.Native.Nat.{ℕ}
use lib.Dec.{eqb}
use lib.ListN.{length}
use borrow.Author.Tests.{eqb-true, ne_eqb}
use Rattle.std.proofs.Common.{Ok, Err}
use Rattle.model.specs.declared.Change.{Change}
use Rattle.model.specs.declared.Change.TheVariants.{Keep}
use Rattle.model.specs.declared.Service.{Service}
use Rattle.model.specs.declared.Service.TheVariants.{Nothing, Tick, Sample, Nmt, Sync, Remote, Sdo, Lss}
use Rattle.model.specs.declared.SdoRequest.{SdoRequest}
use Rattle.model.specs.declared.SdoRequest.TheVariants as R
use Rattle.model.specs.declared.LssRequest.{LssRequest}
use Rattle.model.specs.declared.LssRequest.TheVariants.{SwitchMode, Select, SetNodeId, SetBitIndex, StorePending, AskIdentity, AskNodeId, OtherLss}
use Rattle.model.specs.declared.Frame.{Frame}
use Rattle.model.specs.declared.Identity.{Identity}
use Rattle.model.specs.declared.Answer.{Answer}
use Rattle.model.specs.declared.State.{State}
use Rattle.model.specs.Frames.{when, frames_read}
use Rattle.model.specs.Store.{Saved, read}
use Rattle.model.specs.Parts.{id_of, is_pre_operational}
use Rattle.model.specs.Dictionary.{find}
use Rattle.model.specs.Service.{service}
use Rattle.model.specs.Changes.{effect, applied, stored}
use Rattle.model.specs.Time.{emcy_due, emcy_frame}
use Rattle.model.specs.Nmt.{is_for, reset_node_command, reset_communication_command, nmt_change, reset_asked}
use Rattle.model.specs.Sdo.{accepted, write_code, asked, write_reply, checked_write, change_in, sdo_change, sdo_reply, serves}
use Rattle.model.specs.Lss.{in_configuration, lss_change, lss_reply}
use Rattle.model.specs.Step.{done, refusal, change_of, reply, booted, changed, reports, served, step, power_on, given, refused, event_answer, Gives}
use Rattle.model.specs.Demands.{Accepts, written, reset_node, reset_communication, pending, Whole, untouched, carried_out}
use Rattle.laws.proofs.Tests.{cond_case, and_l, hit_case}
use Rattle.laws.proofs.Calls.{frames_read_lem}

-- ---- each service changes nothing, or its frames begin so

abbrev Told : Service → State → Saved → Change → List Frame → Type 0
Told v s sv c fs = (c ≡ Keep) ⊎ Accepts v s sv c fs

sdo_told : (r : SdoRequest) (s : State) (sv : Saved) (more : List Frame) → Told (Sdo (id_of s) r) s sv (sdo_change r s) (sdo_reply r s ++ more)
unfolding sdo_change sdo_reply checked_write
sdo_told (R.Download index sub size d) s sv more = go (eqb (write_code (find index sub) size d s) accepted)
  where
    go : (b : Bool)
        → let c = cond b (Ok (asked (find index sub) d)) (Err (write_code (find index sub) size d s)) in
        Told (Sdo (id_of s) (R.Download index sub size d)) s sv (change_in c) (write_reply c index sub s ∷ more)
    go true = inr (written index sub size d refl)
    go false = inl refl
sdo_told (R.Upload index sub) s sv more = inl refl
sdo_told (R.UploadSegment toggle) s sv more = inl refl
sdo_told R.ClientAbort s sv more = inl refl
sdo_told R.DownloadSegment s sv more = inl refl
sdo_told (R.Unknown index sub) s sv more = inl refl

lss_told : (r : LssRequest) (s : State) (sv : Saved) (more : List Frame) → Told (Lss r) s sv (lss_change r s) (lss_reply r s ++ more)
unfolding lss_change lss_reply
lss_told (Select n number) s sv more = inl refl
lss_told (SwitchMode mode) s sv more = inl refl
lss_told (SetNodeId id) s sv more = inl refl
lss_told (SetBitIndex table bit) s sv more = inl refl
lss_told StorePending s sv more = go (in_configuration s) refl
  where
    go : (b : Bool) → in_configuration s ≡ b → Told (Lss StorePending) s sv (lss_change StorePending s) (lss_reply StorePending s ++ more)
    go true e = rw e (inr (pending refl))
    go false e = rw e (inl refl)
lss_told (AskIdentity n) s sv more = inl refl
lss_told AskNodeId s sv more = inl refl
lss_told OtherLss s sv more = inl refl

-- a reset is bound to its command and to the ID that it makes active
nmt_told : (command to : ℕ) (s : State) (sv : Saved) (more : List Frame) → is_for to (id_of s) ≡ true
    → let c = reset_asked command s sv in Told (Nmt command to) s sv c (booted c ++ more)
unfolding reset_asked
nmt_told command to s sv more h =
    hit_case (λ (c : Change). Told (Nmt command to) s sv c (booted c ++ more)) _ _ (
      (λ e. inr (reset_node to (ap (λ (n : ℕ). Nmt n to) (eqb-true command reset_node_command e)) h)),
      ((λ e. inr (reset_communication to (ap (λ (n : ℕ). Nmt n to) (eqb-true command reset_communication_command e)) h)), tt),
    )
    (inl refl)

abbrev ToldBy : Service → State → Saved → List Frame → Type 0
ToldBy v s sv more = Told v s sv (change_of v s sv) (reply v s ++ (booted (change_of v s sv) ++ more))

change_told : (v : Service) (s : State) (sv : Saved) (more : List Frame) → ToldBy v s sv more
unfolding change_of reply nmt_change
change_told Nothing s sv more = inl refl
change_told Tick s sv more = inl refl
change_told (Sample fv) s sv more = inl refl
change_told (Nmt command to) s sv more =
    cond_case (λ (c : Change). Told (Nmt command to) s sv c (booted c ++ more)) (is_for to (id_of s)) (nmt_told command to s sv more) (λ _. inl refl)
change_told Sync s sv more = inl refl
change_told (Remote to) s sv more = inl refl
change_told (Sdo to r) s sv more = go (serves to s) refl
  where
    go : (b : Bool) → serves to s ≡ b → ToldBy (Sdo to r) s sv more
    go true e =
        let same : to ≡ id_of s = eqb-true to (id_of s) (and_l (eqb to (id_of s)) _ e) in
        rw e (subst (λ (n : ℕ). Told (Sdo n r) s sv (sdo_change r s) (sdo_reply r s ++ (booted (sdo_change r s) ++ more))) (sym same)
        (sdo_told r s sv (booted (sdo_change r s) ++ more)))
    go false e = rw e (inl refl)
change_told (Lss r) s sv more = go (is_pre_operational s.core) refl
  where
    go : (b : Bool) → is_pre_operational s.core ≡ b → ToldBy (Lss r) s sv more
    go true e = rw e (lss_told r s sv (booted (lss_change r s) ++ more))
    go false e = rw e (inl refl)

-- ---- THE THEOREM

kept_settings : (c : Change) (v : Service) (s : State) (st : List ℕ) → c ≡ Keep → (served c v s st).state.settings ≡ s.settings
unfolding served applied effect
kept_settings c v s st e = ap (λ (x : Change). applied x s.settings (read st)) e

kept_store : (c : Change) (v : Service) (s : State) (st : List ℕ) → c ≡ Keep → (served c v s st).store ≡ st
unfolding served stored
kept_store c v s st e = ap (λ (x : Change). stored x s st) e

pub half_writes : (e : List ℕ) (s : State) (st : List ℕ) → let o = step e s st in Whole e s st o.state.settings o.store o.sent
half_writes e s st =
    let v = service e in
    let c = change_of v s (read st) in
    let t = changed c v s (read st) in
    unfold step served in
    ⊎_elim (λ k. untouched (kept_settings c v s st k) (kept_store c v s st k)) (λ a. carried_out c a refl refl)
    (change_told v s (read st) (when (reports v && emcy_due t) (emcy_frame t)))

-- so of the call: what it hands back, what the store then holds, and the frames that stand in the output
pub half_writes_given : (e : List ℕ) (s : State) (out st : List ℕ) (r : Answer) (ys zs : List ℕ) → Gives (event_answer e s out st) r ys zs
    → Whole e s st r.state.settings zs (frames_read r.count ys)
unfolding event_answer
half_writes_given e s out st r ys zs g = rw (g.answer, g.output, g.store) (go (eqb (refusal e s (length out) (length st)) done))
  where
    go : (b : Bool)
        → let a = cond b (given (step e s st) out) (refused (refusal e s (length out) (length st)) s out st) in
        Whole e s st a.answer.state.settings a.store (frames_read a.answer.count a.output)
    go true = rw (frames_read_lem (step e s st).sent out) (half_writes e s st)
    go false = untouched refl refl

-- a refused call of `event` hands back state, output and store as they were, with count 0
pub refused_nothing : (e : List ℕ) (s : State) (out st : List ℕ) → (refusal e s (length out) (length st) ≡ done → ⊥)
    → event_answer e s out st ≡ refused (refusal e s (length out) (length st)) s out st
unfolding event_answer
refused_nothing e s out st h = rw (ne_eqb (refusal e s (length out) (length st)) done h) refl

-- a power-on never writes the store
pub power_on_store : (i : Identity) (st : List ℕ) → (power_on i st).store ≡ st
unfolding power_on served stored
power_on_store i st = refl
