-- From the answer of a call to a line of the log: the frames in the output are those that the line has, and the text that `lines` writes of them is
-- the line's. Assumes nothing.
use Rattle.std.proofs.Common.{◌≡◌, ℕ, Bool, true, false, cond, List, [], ◌∷◌, length, eqb, eqb-true, refl, sym, ap, ◌∙◌, subst, arith}
use Rattle.model.specs.declared.Answer.{Answer}
use Rattle.model.specs.declared.Identity.{Identity}
use Rattle.model.specs.declared.Frame.{Frame}
use Rattle.model.specs.declared.State.{State}
use Rattle.model.specs.Frames.{overlay}
use Rattle.model.specs.Step.{Answered, done, output_size, refusal, power_on_refusal, step, power_on, zero_store, given, refused, event_answer, power_on_answer, Gives}
use Rattle.model.specs.Run.{Line, number_in, sent_in, powered, called, begun, continued}
use Rattle.model.specs.Program.{line_text}
use Rattle.text.specs.declared.Text.{Text}
use Rattle.text.specs.Written.{Wrote}
use Rattle.text.specs.Sent.{frames_in, added, Shown}
use Rattle.text.proofs.Sent.{line_added}
use Rattle.laws.proofs.Ids.{Ids, step_ids, power_on_ids}
use Rattle.laws.proofs.History.{refusal_rules}
use Rattle.laws.proofs.HalfWrites.{power_on_store}
use Rattle.program.specs.Turns.{Turned, Begins}

-- 11 bits have three digits
shown : (fs : List Frame) → Ids fs → Shown fs
shown [] h = tt
shown (f ∷ fs) h = let k = h.0 in (omega arith, shown fs h.1)

overlay_none : (xs : List ℕ) → xs ≡ overlay [] xs
unfolding overlay
overlay_none xs = refl

-- where a call has the answer that a line has, its text is the line's, and it sent as many frames
told : (l : Line) (n : ℕ) (out : List ℕ) {a : Answered} {r : Answer} {os zs : List ℕ} {t u : Text} {f : ℕ} → Gives a r os zs
    → number_in l ≡ a.answer.number → a.answer.count ≡ length (sent_in l) → a.output ≡ overlay (sent_in l) out → Shown (sent_in l)
    → Wrote 168 (added n r.number (frames_in r.count os)) t u → f ≡ r.count
    → Wrote 168 (line_text n l) t u × (f ≡ length (sent_in l))
told l n out g number count output h w e =
    let k = ap (λ (x : Answer). x.count) g.answer ∙ count in
    (line_added l n out (number ∙ sym (ap (λ (x : Answer). x.number) g.answer)) k (g.output ∙ output) h w, e ∙ k)

-- an event
pub turn_told : (e : List ℕ) (n : ℕ) (s : State) (st out : List ℕ) → length out ≡ output_size → {t u : Text} {os zs : List ℕ} {r : Answer} {f : ℕ}
    → Gives (event_answer e s out st) r os zs → Wrote 168 (added n r.number (frames_in r.count os)) t u → f ≡ r.count
    → Turned e n s st t u zs (record { state = r.state; frames = f })
unfolding event_answer continued
turn_told e n s st out long {t} {u} {os} {zs} {r} {f} g w count =
    go (eqb (refusal e s output_size (length st)) done) refl
    (subst (λ (m : ℕ). Gives (cond (eqb (refusal e s m (length st)) done) (given (step e s st) out) (refused (refusal e s m (length st)) s out st)) r os zs) long g)
  where
    go : (b : Bool) → eqb (refusal e s output_size (length st)) done ≡ b
        → Gives (cond b (given (step e s st) out) (refused (refusal e s output_size (length st)) s out st)) r os zs
        → Turned e n s st t u zs (record { state = r.state; frames = f })
    go true h k =
        let l = called e output_size done (step e s st).sent in
        let ids = step_ids e s st (refusal_rules e s output_size (length st) (eqb-true _ done h)) in
        let both = told l n out k refl refl refl (shown (step e s st).sent ids) w count in
        record { line = l; goes_on = λ log. rw (h, k.answer, k.store) refl; text = both.0; frames = both.1 }
    go false h k =
        let l = called e output_size (refusal e s output_size (length st)) [] in
        let both = told l n out k refl refl (overlay_none out) tt w count in
        record { line = l; goes_on = λ log. rw (h, k.answer, k.store) refl; text = both.0; frames = both.1 }

-- the power-on
pub begin_told : (i : Identity) (st out : List ℕ) → length out ≡ output_size → {t u : Text} {os zs : List ℕ} {r : Answer} {f : ℕ}
    → Gives (power_on_answer i out st) r os zs → Wrote 168 (added 0 r.number (frames_in r.count os)) t u → f ≡ r.count
    → Begins i st t u (record { state = r.state; frames = f })
unfolding power_on_answer begun
begin_told i st out long {t} {u} {os} {zs} {r} {f} g w count =
    go (eqb (power_on_refusal output_size (length st)) done) refl
    (subst (λ (m : ℕ). Gives (cond (eqb (power_on_refusal m (length st)) done) (given (power_on i st) out) (refused (power_on_refusal m (length st)) (power_on i zero_store).state out st)) r os zs) long g)
  where
    go : (b : Bool) → eqb (power_on_refusal output_size (length st)) done ≡ b
        → Gives (cond b (given (power_on i st) out) (refused (power_on_refusal output_size (length st)) (power_on i zero_store).state out st)) r os zs
        → Begins i st t u (record { state = r.state; frames = f })
    go true h k =
        let l = powered output_size done (power_on i st).sent in
        let both = told l 0 out k refl refl refl (shown (power_on i st).sent (power_on_ids i st)) w count in
        record { line = l; starts = rw (h, k.answer, power_on_store i st) refl; text = both.0; frames = both.1 }
    go false h k =
        let l = powered output_size (power_on_refusal output_size (length st)) [] in
        let both = told l 0 out k refl refl (overlay_none out) tt w count in
        record { line = l; starts = rw (h, k.answer) refl; text = both.0; frames = both.1 }
