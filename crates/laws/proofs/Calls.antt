-- The third demand is of the two calls: a power-on, then calls of `event`, each on the state and the store that were last handed back, with outputs of
-- any length and content. Where each answer meets its promise, what such a session hands back (state, store, numbers, and the frames that stand in
-- the outputs) is the run of those calls. So whatever is proved of every run holds of every session. Assumes nothing.
use mathlib.Core.Path.{◌≡◌, refl, sym, ap, ◌∙◌, subst}
use mathlib.Core.Bool.{Bool, true, false, cond}
use mathlib.Core.List.{List, [], ◌∷◌, ◌++◌}
use Prim.Native.Nat.{ℕ, ◌+◌, ◌*◌, ◌/◌, ◌%◌}
use native.Mathlib.Omega.{arith}
use lib.Dec.{eqb}
use lib.ListN.{length, drop}
use Rattle.model.specs.declared.Identity.{Identity}
use Rattle.model.specs.declared.Frame.{Frame}
use Rattle.model.specs.declared.Answer.{Answer}
use Rattle.model.specs.Bytes.{as_number, part}
use Rattle.model.specs.Frames.{framed, data_bytes, frame_bytes, laid, overlay, frame_read, frames_read}
use Rattle.model.specs.Step.{done, refusal, power_on_refusal, step, power_on, zero_store, Answered, given, refused, event_answer, power_on_answer, Gives}
use Rattle.model.specs.Run.{Call, Line, powered, called, World, after, begun, continued, run, handed, Chain, ends, goes_on, Session}

-- ---- the frames of an output are those that were laid into it

-- a frame is its twelve bytes: the CAN-ID comes back from its two
frame_read_lem : (f : Frame) (rest : List ℕ) → frame_read (frame_bytes f ++ rest) ≡ f
unfolding as_number part
frame_read_lem f rest =
    let e : f.id % 256 + (f.id / 256 + 0 * 256) * 256 ≡ f.id = omega arith in
    ap (λ (id : ℕ). framed id f.len (data_bytes f)) e

laid_read : (fs : List Frame) (rest : List ℕ) → frames_read (length fs) (laid fs ++ rest) ≡ fs
unfolding frames_read
laid_read [] rest = refl
laid_read (f ∷ fs) rest = rw (frame_read_lem f (laid fs ++ rest), laid_read fs rest) refl

pub frames_read_lem : (fs : List Frame) (out : List ℕ) → frames_read (length fs) (overlay fs out) ≡ fs
unfolding overlay
frames_read_lem fs out = laid_read fs (drop (12 * length fs) out)

-- ---- one call

-- the world that an answer of the definitions hands over
abbrev pub handed_by : (ℕ → List Frame → Line) → List Line → Answered → World
handed_by l log a = handed l log a.answer a.output a.store

-- any answer that meets the promise hands over the same
pub gives_handed : (l : ℕ → List Frame → Line) (log : List Line) (a : Answered) (r : Answer) (ys zs : List ℕ) → Gives a r ys zs
    → handed l log r ys zs ≡ handed_by l log a
gives_handed l log a r ys zs g = rw (g.answer, g.output, g.store) refl

-- a refused call shows no frame
refused_none : (out : List ℕ) → frames_read 0 out ≡ []
unfolding frames_read
refused_none out = refl

pub call_handed : (c : Call) (w : World) (out : List ℕ) → length out ≡ c.room
    → handed_by (called c.event c.room) w.log (event_answer c.event w.state out w.store) ≡ continued c w
unfolding continued event_answer
call_handed c w out e = rw e (go (eqb n done))
  where
    n : ℕ
    n = refusal c.event w.state c.room (length w.store)

    go : (b : Bool)
        → handed_by (called c.event c.room) w.log
        (cond b (given (step c.event w.state w.store) out)
        (refused (refusal c.event w.state c.room (length w.store)) w.state out w.store))
        ≡ cond b (after c (step c.event w.state w.store) w.log)
        (record { state = w.state; store = w.store; log = called c.event c.room (refusal c.event w.state c.room (length w.store)) [] ∷ w.log })
    go true = rw (frames_read_lem (step c.event w.state w.store).sent out) refl
    go false = rw (refused_none out) refl

pub power_on_handed : (i : Identity) (st out : List ℕ) → handed_by (powered (length out)) [] (power_on_answer i out st) ≡ begun i (length out) st
unfolding begun power_on_answer
power_on_handed i st out = go (eqb (power_on_refusal (length out) (length st)) done)
  where
    go : (b : Bool)
        → handed_by (powered (length out)) []
        (cond b (given (power_on i st) out) (refused (power_on_refusal (length out) (length st)) (power_on i zero_store).state out st))
        ≡ cond b (record { state = (power_on i st).state; store = (power_on i st).store; log = powered (length out) done (power_on i st).sent ∷ [] })
        (record { state = (power_on i zero_store).state; store = st; log = powered (length out) (power_on_refusal (length out) (length st)) [] ∷ [] })
    go true = rw (frames_read_lem (power_on i st).sent out) refl
    go false = rw (refused_none out) refl

-- ---- many

chain_run : {w y : World} {cs : List Call} → Chain w cs y → y ≡ run cs w
unfolding run continued
chain_run ends = refl
chain_run {w = w} (goes_on {cs = cs} e lent r ys zs g t) =
    let c : Call = record { event = e; room = length lent } in
    chain_run t
    ∙ ap (run cs)
    (gives_handed (called e (length lent)) w.log (event_answer e w.state lent w.store) r ys zs g ∙ call_handed c w lent refl)

-- THE THEOREM: what a session hands back is the run of its calls
pub session_run : (i : Identity) (st lent : List ℕ) (cs : List Call) (y : World) → Session i st lent cs y → y ≡ run cs (begun i (length lent) st)
session_run i st lent cs y s =
    chain_run s.goes_on
    ∙ ap (run cs)
    (gives_handed (powered (length lent)) [] (power_on_answer i lent st) s.answer s.output s.store s.powers_on ∙ power_on_handed i st lent)

-- so what holds of that run holds of the session
pub of_session : (P : World → Type 0) (i : Identity) (st lent : List ℕ) (cs : List Call) (y : World) → Session i st lent cs y
    → P (run cs (begun i (length lent) st)) → P y
of_session P i st lent cs y s h = subst P (sym (session_run i st lent cs y s)) h
