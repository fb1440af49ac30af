-- Every change leaves the saved parameters sound: in range, and with no false validity byte. Assumes nothing.
use mathlib.Core.Path.{◌≡◌, refl, sym, ap, ◌∙◌, subst, fun_ext}
use mathlib.Core.Bool.{Bool, true, false, ◌&&◌, ◌||◌, not, cond}
use mathlib.Core.List.{List, [], ◌∷◌}
use Prim.Native.Nat.{ℕ, ◌≤◌}
use lib.Dec.{eqb}
use borrow.Author.Tests.{eqb-true, not-false, not-true}
use Rattle.model.specs.declared.Value.{Value}
use Rattle.model.specs.declared.Parameter.{Parameter}
use Rattle.model.specs.declared.Parameter.TheVariants.{P1301s1, P1301s2, P1301s3, P1301s5, P1301s6, P13FE, P13FF, P6121, P6123, P6124, P6132, P51FE, P51FF}
use Rattle.model.specs.declared.Group.{Group}
use Rattle.model.specs.declared.Group.TheVariants.{C, A}
use Rattle.model.specs.declared.Groups.{Groups}
use Rattle.model.specs.declared.Change.{Change}
use Rattle.model.specs.declared.Change.TheVariants.{Keep, Write, Save, TakeOut, Load, SavePending}
use Rattle.model.specs.declared.State.{State}
use Rattle.model.specs.Bytes.{byte_at}
use Rattle.model.specs.Values.{kind_of, number_of, encoded}
use Rattle.model.specs.Settings.{row, rows, same, among, has, bytes_of, in_force, stays, becomes, judge, is_inside, in_ranges}
use Rattle.model.specs.Validity.{covered, signature_of, validity_of, signs, valid, a5h, honest, sound, revokes, changes}
use Rattle.model.specs.Store.{field, node_id, ok, Saved, read, saved, default_for, group_from, follows_id, loaded}
use Rattle.model.specs.Changes.{revoked, effect, applied}
use Rattle.model.specs.Sdo.{unearned}
use Rattle.model.specs.Rules.{rules}
use Rattle.laws.proofs.Tests.{cond_case, and_l, and_r, and_both, and_false, implies, within_is}
use Rattle.laws.proofs.Values.{typed_kind}
use Rattle.laws.proofs.Image.{read_ok}
use Rattle.laws.proofs.Parameters.{Typed, same_eq, by_table, in_rows, range_at, ranges_from, zero_fine, default_fine, in_force_kind, after}
use Rattle.laws.proofs.Effects.{Brings, brings_map, new, new_is, applied_new}
use Rattle.laws.proofs.Saving.{ranges_in, sound_by, loaded_record}
use Rattle.laws.proofs.Loading.{sound_there, sound_fields, factory_part}
use Rattle.laws.proofs.Allowed.{Allowed, sound_ok}

-- ---- validity looks at covered parameters and signatures, by their numbers and bytes alone

pub record Alike (v w : Value) : Type 0 where
  pub number : number_of v ≡ number_of w
  pub kind : kind_of v ≡ kind_of w

alike_bytes : (v w : Value) → Alike v w → encoded v ≡ encoded w
alike_bytes v w h = rw (h.number, h.kind) refl

-- q is covered by g's signature, or is that signature
abbrev Under : Group → Parameter → Type 0
Under g q = revokes q (validity_of g) ≡ true

valid_by : (g : Group) (f h : Parameter → Value) → ((q : Parameter) → Under g q → Alike (f q) (h q)) → valid g f ≡ valid g h
unfolding valid signs bytes_of revokes
valid_by C f h e =
    rw (
      alike_bytes _ _ (e P1301s1 refl),
      alike_bytes _ _ (e P1301s2 refl),
      alike_bytes _ _ (e P1301s3 refl),
      alike_bytes _ _ (e P1301s5 refl),
      alike_bytes _ _ (e P1301s6 refl),
      (e P13FF refl).number,
      (e P1301s5 refl).number,
      (e P1301s6 refl).number,
    ) refl
valid_by A f h e =
    rw (alike_bytes _ _ (e P6121 refl), alike_bytes _ _ (e P6123 refl), alike_bytes _ _ (e P6124 refl), alike_bytes _ _ (e P6132 refl), (e P51FF refl).number) refl

-- what is under a signature is no validity byte
under_other : (g h : Group) (q : Parameter) → Under g q → same q (validity_of h) ≡ false
unfolding revokes
under_other g h q u = not-true _ (implies (among (covered (row q).group) q || same q (signature_of (row q).group)) _ (and_r (same (validity_of g) (validity_of (row q).group)) _ u) (told h))
  where
    told : (h : Group) → not (among (covered (row q).group) q || same q (signature_of (row q).group)) || not (same q (validity_of h)) ≡ true
    told C = by_table (λ (x : Parameter). not (among (covered (row x).group) x || same x (signature_of (row x).group)) || not (same x (validity_of C))) refl q
    told A = by_table (λ (x : Parameter). not (among (covered (row x).group) x || same x (signature_of (row x).group)) || not (same x (validity_of A))) refl q

-- so nothing forces it to 0
under_stays : (g : Group) (p q : Parameter) → Under g q → revokes p q ≡ false
under_stays g p q u = unfold revokes in rw (under_other g (row p).group q u) refl

honest_by : (g : Group) (f h : Parameter → Value) → number_of (f (validity_of g)) ≡ number_of (h (validity_of g)) → valid g f ≡ valid g h
    → honest g f ≡ honest g h
honest_by g f h m e = rw (m, e) refl

same_alike : (v : Value) → Alike v v
same_alike v = record { number = refl; kind = refl }

-- ---- each change

vouched_honest : (m b : Bool) → m && not b ≡ false → not m || b ≡ true
vouched_honest true true h = refl
vouched_honest true false h = sym h
vouched_honest false b h = refl

module _ (s : State) (sv : Saved) where
  -- a validity byte is written
  unearned_write : (g : Group) (v : Value) → unearned (validity_of g) v s ≡ false
      → honest g (new (Write (validity_of g) v) s.settings sv) ≡ true
  unfolding unearned effect
  unearned_write g v h = go g h
    where
      rest : (g : Group) (q : Parameter) → (row (validity_of g)).group ≡ g → Under g q
          → new (Write (validity_of g) v) s.settings sv q ≡ in_force s.settings q
      rest g q e u = rw (under_other g g q u, under_stays g (validity_of g) q u) refl

      go : (g : Group) → unearned (validity_of g) v s ≡ false → honest g (new (Write (validity_of g) v) s.settings sv) ≡ true
      go C h =
          rw (valid_by C (new (Write P13FE v) s.settings sv) (in_force s.settings) (λ q u. rw (rest C q refl u) (same_alike _)))
          (vouched_honest (eqb (number_of v) a5h) (valid C (in_force s.settings)) h)
      go A h =
          rw (valid_by A (new (Write P51FE v) s.settings sv) (in_force s.settings) (λ q u. rw (rest A q refl u) (same_alike _)))
          (vouched_honest (eqb (number_of v) a5h) (valid A (in_force s.settings)) h)

  -- another parameter is written: where that is a change of what is signed, the byte goes to 0
  write_alike : (p q : Parameter) (v : Value) (g : Group) → kind_of v ≡ kind_of (in_force s.settings p)
      → revokes p (validity_of g) && changes p v (in_force s.settings) ≡ false → Under g q
      → Alike (new (Write p v) s.settings sv q) (in_force s.settings q)
  unfolding effect
  write_alike p q v g k t u = go (same q p) refl
    where
      go : (b : Bool) → same q p ≡ b
          → Alike (after (cond b (becomes v) (cond (revokes p q && changes p v (in_force s.settings)) revoked stays)) (in_force s.settings q)) (in_force s.settings q)
      go true e =
          let d : q ≡ p = same_eq q p e in
          subst (λ (x : Parameter). Alike v (in_force s.settings x)) (sym d)
          (record {
            number = eqb-true _ _ (not-false _ (rw (subst (λ (x : Parameter). Under g x) d u) at t));
            kind = k;
          })
      go false e = rw (under_stays g p q u) (same_alike _)

  write_honest : (p : Parameter) (v : Value) → kind_of v ≡ kind_of (in_force s.settings p) → unearned p v s ≡ false
      → (g : Group) → honest g (in_force s.settings) ≡ true → honest g (new (Write p v) s.settings sv) ≡ true
  write_honest p v k f g h = go (same (validity_of g) p) refl (revokes p (validity_of g) && changes p v (in_force s.settings)) refl
    where
      go : (a : Bool) → same (validity_of g) p ≡ a → (b : Bool) → revokes p (validity_of g) && changes p v (in_force s.settings) ≡ b
          → honest g (new (Write p v) s.settings sv) ≡ true
      go true e b t =
          subst (λ (x : Parameter). honest g (new (Write x v) s.settings sv) ≡ true) (same_eq (validity_of g) p e)
          (unearned_write g v (subst (λ (x : Parameter). unearned x v s ≡ false) (sym (same_eq (validity_of g) p e)) f))
      go false e true t = unfold effect in rw (e, t) refl
      go false e false t =
          honest_by g (new (Write p v) s.settings sv) (in_force s.settings) (unfold effect in rw (e, t) refl)
          (valid_by g _ _ (λ q u. write_alike p q v g k t u))
          ∙ h

  take_honest : (gs : Groups) (g : Group) → honest g (in_force s.settings) ≡ true → honest g (new (TakeOut gs) s.settings sv) ≡ true
  take_honest gs g h = go (has gs (row (validity_of g)).group && same (validity_of g) (validity_of (row (validity_of g)).group)) refl
    where
      go : (b : Bool) → has gs (row (validity_of g)).group && same (validity_of g) (validity_of (row (validity_of g)).group) ≡ b
          → honest g (new (TakeOut gs) s.settings sv) ≡ true
      go true t = unfold effect in rw t refl
      go false t =
          honest_by g (new (TakeOut gs) s.settings sv) (in_force s.settings) (unfold effect in rw t refl)
          (valid_by g _ _ (λ q u. unfold effect in rw (under_other g (row q).group q u, and_false (has gs (row q).group)) (same_alike _)))
          ∙ h

-- ---- a load

default_sound : (g : Group) (id : ℕ) → 1 ≤ id → id ≤ 127 → sound g (default_for id) ≡ true
unfolding sound
default_sound C id a b = and_both _ _ (ranges_from (rows C) (default_for id) (λ q. (default_fine q id a b).inside)) refl
default_sound A id a b = and_both _ _ (ranges_from (rows A) (default_for id) (λ q. (default_fine q id a b).inside)) refl

-- the values of a record that is there, or the defaults of those that the COB-ID rule hits
abbrev mixed : ℕ → List ℕ → Bool → Parameter → Value
mixed id r hit q = cond (follows_id q && hit) (default_for id q) (field r q)

mixed_honest : (g : Group) (id : ℕ) (r : List ℕ) (hit : Bool) → honest g (field r) ≡ true → honest g (mixed id r hit) ≡ true
unfolding valid signs bytes_of
mixed_honest C id r true h = refl
mixed_honest C id r false h = h
mixed_honest A id r hit h = h

mixed_sound : (g : Group) (id : ℕ) (r : List ℕ) (hit : Bool) → 1 ≤ id → id ≤ 127 → sound g (field r) ≡ true
    → sound g (mixed id r hit) ≡ true
unfolding sound
mixed_sound g id r hit a b h =
    and_both (in_ranges (rows g) (mixed id r hit)) (honest g (mixed id r hit))
    (ranges_in g (mixed id r hit) (λ q e.
    cond_case (λ (v : Value). is_inside (judge (row q).range v) ≡ true) (follows_id q && hit) (λ _. (default_fine q id a b).inside)
    (λ _. range_at (rows g) (field r) q (subst (λ (x : Group). among (rows x) q ≡ true) e (in_rows q)) (and_l _ (honest g (field r)) h))))
    (mixed_honest g id r hit (and_r (in_ranges (rows g) (field r)) _ h))

-- what a load gives of any store is sound
pub loaded_sound : (g : Group) (id : ℕ) (st : List ℕ) → 1 ≤ id → id ≤ 127 → sound g (loaded id (read st)) ≡ true
unfolding loaded group_from
loaded_sound g id st a b = go (saved g (read st)) refl (read_ok g st)
  where
    go : (r : List ℕ) → saved g (read st) ≡ r → ok g r ≡ true → sound g (loaded id (read st)) ≡ true
    go [] e o =
        sound_by g (loaded id (read st)) (default_for id)
        (λ q d. loaded_record q id (default_for id) (read st) (λ p. (default_fine p id a b).fits) (rw (ap (λ (x : Group). saved x (read st)) d ∙ e) (factory_part (row q).group id a b)))
        ∙ default_sound g id a b
    go (x ∷ xs) e o =
        sound_by g (loaded id (read st)) (mixed id (x ∷ xs) (not (eqb x id))) (λ q d. rw (ap (λ (y : Group). saved y (read st)) d ∙ e) refl)
        ∙ mixed_sound g id (x ∷ xs) (not (eqb x id)) a b (sound_fields g (x ∷ xs) (sound_there g x xs o))

pub field_kind : (r : List ℕ) (q : Parameter) → kind_of (field r q) ≡ (row q).kind
unfolding field
field_kind r q = typed_kind (row q).kind _

loaded_kind : (id : ℕ) (sv : Saved) (q : Parameter) → 1 ≤ id → id ≤ 127 → kind_of (loaded id sv q) ≡ (row q).kind
unfolding loaded
loaded_kind id sv q a b =
    let r = group_from (row q).group id sv in
    cond_case (λ (v : Value). kind_of v ≡ (row q).kind) (follows_id q && not (eqb (byte_at 0 r) id)) {x = default_for id q} {y = field r q}
    (λ _. (default_fine q id a b).fits.kind) (λ _. field_kind r q)

-- ---- a change that is allowed leaves the parameters sound

-- a value of its type, in its range
abbrev Right : Parameter → Value → Type 0
Right q v = Typed q v × (is_inside (judge (row q).range v) ≡ true)

loaded_right : (id : ℕ) (st : List ℕ) → 1 ≤ id → id ≤ 127 → (q : Parameter) → Right q (loaded id (read st) q)
unfolding sound
loaded_right id st a b q =
    let g = (row q).group in (
      loaded_kind id (read st) q a b,
      range_at (rows g) (loaded id (read st)) q (in_rows q) (and_l _ (honest g (loaded id (read st))) (loaded_sound g id st a b)),
    )

brings_right : (s : State) (st : List ℕ) (c : Change) → Allowed c s → Brings Right (read st) c
brings_right s st Keep a = tt
brings_right s st (Write p v) a = (a.fine.fits.kind, a.fine.inside)
brings_right s st (Save gs) a = tt
brings_right s st (TakeOut gs) a = tt
brings_right s st (Load gs id) a = let i = within_is 1 127 id a.0 in loaded_right id st i.0 i.1
brings_right s st SavePending a = tt

pub applied_is : (s : State) (st : List ℕ) (c : Change) → Allowed c s → (q : Parameter)
    → in_force (applied c s.settings (read st)) q ≡ new c s.settings (read st) q
applied_is s st c a q = applied_new c s.settings (read st) (brings_map Right Typed (λ p v h. h.0) (read st) c (brings_right s st c a)) q

module _ (s : State) (st : List ℕ) (r : rules s ≡ true) where
  old_inside : (q : Parameter) → is_inside (judge (row q).range (in_force s.settings q)) ≡ true
  unfolding sound
  old_inside q = range_at (rows (row q).group) (in_force s.settings) q (in_rows q) (and_l _ (honest (row q).group (in_force s.settings)) (sound_ok s r (row q).group))

  old_honest : (g : Group) → honest g (in_force s.settings) ≡ true
  unfolding sound
  old_honest g = and_r (in_ranges (rows g) (in_force s.settings)) _ (sound_ok s r g)

  load_sound : (gs : Groups) (id : ℕ) → node_id id ≡ true → (g : Group) → sound g (new (Load gs id) s.settings (read st)) ≡ true
  unfolding effect
  load_sound gs id a g = go (has gs g) refl
    where
      go : (b : Bool) → has gs g ≡ b → sound g (new (Load gs id) s.settings (read st)) ≡ true
      go true e =
          let i = within_is 1 127 id a in
          sound_by g (new (Load gs id) s.settings (read st)) (loaded id (read st)) (λ q d. rw (ap (has gs) d ∙ e) refl) ∙ loaded_sound g id st i.0 i.1
      go false e = sound_by g (new (Load gs id) s.settings (read st)) (in_force s.settings) (λ q d. rw (ap (has gs) d ∙ e) refl) ∙ sound_ok s r g

  new_honest : (c : Change) → Allowed c s → (g : Group) → honest g (new c s.settings (read st)) ≡ true
  new_honest Keep a g = unfold effect in old_honest g
  new_honest (Write p v) a g =
      write_honest s (read st) p v (a.fine.fits.kind ∙ sym (in_force_kind s.settings p)) a.honestly g (old_honest g)
  new_honest (Save gs) a g = unfold effect in old_honest g
  new_honest (TakeOut gs) a g = take_honest s (read st) gs g (old_honest g)
  new_honest (Load gs id) a g =
      unfold sound in and_r (in_ranges (rows g) (new (Load gs id) s.settings (read st))) _ (load_sound gs id a.0 g)
  new_honest SavePending a g = unfold effect in old_honest g

  new_right : (c : Change) → Allowed c s → (q : Parameter) → Right q (new c s.settings (read st) q)
  new_right c a q =
      new_is Right (λ g. ((zero_fine g).fits.kind, (zero_fine g).inside)) s.settings (read st) c (brings_right s st c a)
      (λ p. (in_force_kind s.settings p, old_inside p)) q

  -- THE THEOREM of this file
  pub sound_after : (c : Change) → Allowed c s → (g : Group) → sound g (in_force (applied c s.settings (read st))) ≡ true
  unfolding sound
  sound_after c a g =
      rw (fun_ext (applied_is s st c a))
      (and_both (in_ranges (rows g) (new c s.settings (read st))) (honest g (new c s.settings (read st)))
      (ranges_from (rows g) (new c s.settings (read st)) (λ q. (new_right c a q).1)) (new_honest c a g))
