-- A store of 64 bytes stays one of 64 bytes, whatever is saved, taken out or stored. So over any run from a power-on that is not refused, no
-- call is refused by number 5. Assumes nothing.
use mathlib.Core.Path.{◌≡◌, refl, ap, ◌∙◌}
use mathlib.Core.Bool.{false≢true}
use mathlib.Core.List.{List, [], ◌∷◌}
use Prim.Native.Nat.{ℕ, ◌≤◌}
use native.Mathlib.Nat.{le_of_eq}
use native.Mathlib.Omega.{arith}
use lib.Dec.{eqb, lit≤}
use lib.ListN.{length}
use borrow.Author.Tests.{eqb-true, not-false}
use Rattle.model.specs.declared.Group.{Group}
use Rattle.model.specs.declared.Group.TheVariants.{C, A}
use Rattle.model.specs.declared.Groups.{Groups}
use Rattle.model.specs.declared.Change.{Change}
use Rattle.model.specs.declared.Change.TheVariants.{Keep, Write, Save, TakeOut, Load, SavePending}
use Rattle.model.specs.declared.Identity.{Identity}
use Rattle.model.specs.declared.State.{State}
use Rattle.model.specs.Settings.{has, in_force}
use Rattle.model.specs.Store.{record_n, size_n, size_of_record, build, read, saved_n, saved, renewed_record, renewed, readdressed}
use Rattle.model.specs.Changes.{records_of, stored}
use Rattle.model.specs.Parts.{id_of}
use Rattle.model.specs.Service.{service}
use Rattle.model.specs.Step.{done, wrong_store, store_size, refusal, power_on_refusal, change_of, served, step, power_on}
use Rattle.model.specs.Run.{Call, World, begun, continued, run}
use Rattle.laws.proofs.Tests.{cond_case, hit_case, hit_zero}
use Rattle.laws.proofs.Image.{sized_n, sized_of, size_le, read_n, read_ok, length_build}
use Rattle.laws.proofs.Parameters.{in_force_kind}
use Rattle.laws.proofs.Saving.{length_record}

-- records that are no longer than they may be
built : (n : List ℕ) (r : Group → List ℕ) → length n ≤ size_n → ((g : Group) → length (r g) ≤ size_of_record g)
    → length (build n (r C) (r A)) ≡ store_size
built n r a h = length_build n (r C) (r A) (omega (arith, a, h C, h A))

n_most : (st : List ℕ) → length (saved_n (read st)) ≤ size_n
n_most st = size_le size_n (saved_n (read st)) (sized_n (saved_n (read st)) (read_n st))

most : (g : Group) (st : List ℕ) → length (saved g (read st)) ≤ size_of_record g
most g st = size_le (size_of_record g) (saved g (read st)) (sized_of g (saved g (read st)) (read_ok g st))

renewed_size : (gs : Groups) (r : Group → List ℕ) (st : List ℕ) → ((g : Group) → length (r g) ≤ size_of_record g)
    → length (renewed gs r (read st)) ≡ store_size
unfolding renewed
renewed_size gs r st h =
    built (saved_n (read st)) (renewed_record gs r (read st)) (n_most st)
    (λ g. cond_case (λ (x : List ℕ). length x ≤ size_of_record g) (has gs g) (λ _. h g) (λ _. most g st))

stored_size : (c : Change) (s : State) (st : List ℕ) → length st ≡ store_size → length (stored c s st) ≡ store_size
unfolding stored readdressed
stored_size Keep s st h = h
stored_size (Write p v) s st h = h
stored_size (Save gs) s st h =
    renewed_size gs (records_of s) st (λ g. le_of_eq (length_record g (id_of s) (in_force s.settings) (in_force_kind s.settings)))
stored_size (TakeOut gs) s st h = renewed_size gs (λ (g : Group). []) st (λ g. omega arith)
stored_size (Load gs id) s st h = h
stored_size SavePending s st h = built (record_n s.core.pending) (λ (g : Group). saved g (read st)) (lit≤ tt) (λ g. most g st)

-- THE THEOREM
pub store_size_lem : (e : List ℕ) (s : State) (st : List ℕ) → length st ≡ store_size → length (step e s st).store ≡ store_size
unfolding step served
store_size_lem e s st h = stored_size (change_of (service e) s (read st)) s st h

-- ---- runs

pub continued_size : (c : Call) (w : World) → length w.store ≡ store_size → length (continued c w).store ≡ store_size
unfolding continued
continued_size c w h =
    cond_case (λ (x : World). length x.store ≡ store_size) (eqb (refusal c.event w.state c.room (length w.store)) done)
    (λ _. store_size_lem c.event w.state w.store h) (λ _. h)

run_size : (cs : List Call) (w : World) → length w.store ≡ store_size → length (run cs w).store ≡ store_size
unfolding run continued
run_size [] w h = h
run_size (c ∷ cs) w h = run_size cs (continued c w) (continued_size c w h)

pub begun_store : (i : Identity) (room : ℕ) (st : List ℕ) → (begun i room st).store ≡ st
unfolding begun power_on served stored
begun_store i room st = cond_case (λ (w : World). w.store ≡ st) (eqb (power_on_refusal room (length st)) done) (λ _. refl) (λ _. refl)

pub accepted_size : (room size : ℕ) → power_on_refusal room size ≡ done → size ≡ store_size
unfolding power_on_refusal
accepted_size room size e = let n = hit_zero _ refl e in eqb-true size store_size (not-false _ n.1.0)

not_five : (e : List ℕ) (s : State) (out size : ℕ) → size ≡ store_size → refusal e s out size ≡ wrong_store → ⊥
unfolding refusal
not_five e s out size h =
    hit_case (λ (n : ℕ). n ≡ wrong_store → ⊥) _ _
    ((λ _ x. omega arith), ((λ _ x. omega arith), ((λ _ x. omega arith), ((λ _ x. omega arith), ((λ y x. false≢true (rw h at y)), ((λ _ x. omega arith), tt))))))
    (λ x. omega arith)

-- THE THEOREM for runs
pub never_five : (i : Identity) (room : ℕ) (st : List ℕ) (cs : List Call) → power_on_refusal room (length st) ≡ done → (e : List ℕ) (out : ℕ)
    → let w = run cs (begun i room st) in refusal e w.state out (length w.store) ≡ wrong_store → ⊥
never_five i room st cs h e out =
    let w = run cs (begun i room st) in
    not_five e w.state out (length w.store) (run_size cs (begun i room st) (ap length (begun_store i room st) ∙ accepted_size room (length st) h))
