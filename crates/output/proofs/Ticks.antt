-- Frames laid are these; and a tick at which nothing is due sends none. Assumes nothing.
use Rattle.std.proofs.Common.{ℕ}
use mathlib.Core.Path.{◌≡◌, refl, sym, subst}
use mathlib.Core.Bool.{Bool, true, false, ◌||◌, false≢true}
use mathlib.Core.List.{List, []}
use Rattle.model.specs.declared.Frame.{Frame}
use Rattle.model.specs.declared.State.{State}
use Rattle.model.specs.Time.{clocked, heartbeat_due, tpdo_due, srdo_due, firing, tick_frames}
use Rattle.wire.specs.Laid.{Laid}
use Rattle.time.specs.declared.tick.Due.{Due}
use Rattle.time.specs.Told.{due_of}

pub laid_as : {fs gs : List Frame} {xs ys : List ℕ} {n : ℕ} → Laid fs xs ys n → fs ≡ gs → Laid gs xs ys n
laid_as {xs} {ys} {n} l e = subst (λ hs. Laid hs xs ys n) e l

nothing_due : (h t r : Bool) (s : State) → h || (t || r) ≡ false → firing h t r s ≡ []
nothing_due false false false s e = refl
nothing_due true t r s e = absurd (false≢true (sym e))
nothing_due false true r s e = absurd (false≢true (sym e))
nothing_due false false true s e = absurd (false≢true (sym e))

pub quiet : (s : State) (d : Due) → d ≡ due_of (clocked s) → d.heartbeat || (d.tpdo || d.srdo) ≡ false → [] ≡ tick_frames s
unfolding tick_frames
quiet s d k e =
    let t = clocked s in
    sym (nothing_due (heartbeat_due t) (tpdo_due t) (srdo_due t) t (rw k at e))
