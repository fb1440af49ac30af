-- A change, and the look back over the deeds: if settings and store are what the older deeds say, then after a change that is allowed they are
-- what the deeds with that change in front say. Assumes nothing.
use mathlib.Core.Path.{◌≡◌, refl, ap, ◌∙◌}
use mathlib.Core.Bool.{true}
use mathlib.Core.List.{List, [], ◌∷◌}
use Prim.Native.Nat.{ℕ}
use Rattle.model.specs.declared.Parameter.{Parameter}
use Rattle.model.specs.declared.Group.{Group}
use Rattle.model.specs.declared.Change.{Change}
use Rattle.model.specs.declared.Change.TheVariants.{Keep, Write, Save, TakeOut, Load, SavePending}
use Rattle.model.specs.declared.Settings.{Settings}
use Rattle.model.specs.declared.State.{State}
use Rattle.model.specs.Settings.{row, has, in_force, Now}
use Rattle.model.specs.declared.Address.{Address}
use Rattle.model.specs.Bytes.{byte_at}
use Rattle.model.specs.Store.{record_n, record_of, sound_n, ok_n, ok, Saved, read, saved, readdressed}
use Rattle.model.specs.Changes.{effect, applied, records_of, stored}
use Rattle.model.specs.Parts.{address, id_of}
use Rattle.model.specs.History.{Held, kept, held_in, held_address, active_id, held_for, held_id_in, held_id, value, held}
use Rattle.model.specs.Rules.{rules}
use Rattle.laws.proofs.Tests.{cond_case, cond_ap, and_both, within_is}
use Rattle.laws.proofs.Image.{read_ok}
use Rattle.laws.proofs.Parameters.{Typed, Fits, AllFit, zero_fine, after}
use Rattle.laws.proofs.Effects.{Brings, brings_map, new, new_is, applied_new}
use Rattle.laws.proofs.Saving.{record_ok, built_n, renewed_n}
use Rattle.laws.proofs.Loading.{FitsHeld, loaded_at, loaded_fits, held_record, built_held, built_id, renewed_held, renewed_id}
use Rattle.laws.proofs.Allowed.{Allowed, id_ok, pending_ok, pending_bit_ok, sound_ok}

-- the settings k in force, the active ID and the store are as the deeds say, where at first sv was saved; and what is in force or held fits its type
pub record Agrees (sv : Saved) (k : Settings) (id : ℕ) (st : List ℕ) (ds : List Change) : Type 0 where
  pub values : (q : Parameter) → in_force k q ≡ value sv q ds
  pub id_is : id ≡ active_id ds
  pub helds : (q : Parameter) → held_for (read st) q ≡ held sv q ds
  pub held_id_lem : held_id_in (read st) ≡ held_id sv ds
  pub fits : AllFit (in_force k)
  pub fits_held : (q : Parameter) → FitsHeld q (held_for (read st) q)

-- the active ID after a change
abbrev pub id_after : Change → ℕ → ℕ
id_after Keep id = id
id_after (Write p v) id = id
id_after (Save gs) id = id
id_after (TakeOut gs) id = id
id_after (Load gs new) id = new
id_after SavePending id = id

pub empty_ok : (g : Group) → ok g [] ≡ true
unfolding ok
empty_ok g = refl

-- what the store holds for N after a change, with this pair pending
abbrev pub pair_after : Change → Address → Held Address → Held Address
pair_after Keep p n = n
pair_after (Write q v) p n = n
pair_after (Save gs) p n = n
pair_after (TakeOut gs) p n = n
pair_after (Load gs id) p n = n
pair_after SavePending p n = kept p

-- the pair in a record N
abbrev pair_in : List ℕ → Held Address
pair_in r = held_in (λ (x : List ℕ). address (byte_at 0 x) (byte_at 1 x)) r

pair_ok : (s : State) → rules s ≡ true → ok_n (record_n s.core.pending) ≡ true
unfolding ok_n sound_n
pair_ok s r = and_both _ _ (pending_ok s r) (pending_bit_ok s r)

module _ (sv : Saved) (s : State) (st : List ℕ) (ds : List Change) (h : Agrees sv s.settings (id_of s) st ds) where
  brings_fit : (c : Change) → Allowed c s → Brings Fits (read st) c
  brings_fit Keep a = tt
  brings_fit (Write p v) a = a.fine.fits
  brings_fit (Save gs) a = tt
  brings_fit (TakeOut gs) a = tt
  brings_fit (Load gs id) a = let i = within_is 1 127 id a.0 in λ q. loaded_fits q id (read st) i.0 i.1 (h.fits_held q)
  brings_fit SavePending a = tt

  -- what a change does to a parameter, and what its deed says of it
  effect_value : (c : Change) → Allowed c s → (q : Parameter)
      → after (effect c s.settings (read st) q) (value sv q ds) ≡ value sv q (c ∷ ds)
  unfolding effect value
  effect_value Keep a q = refl
  effect_value (Write p v) a q = simp (h.values p, cond_ap (λ (n : Now). after n (value sv q ds)))
  effect_value (Save gs) a q = refl
  effect_value (TakeOut gs) a q = simp (cond_ap (λ (n : Now). after n (value sv q ds)))
  effect_value (Load gs id) a q =
      let i = within_is 1 127 id a.0 in
      simp (loaded_at q id (read st) i.0 i.1, h.helds q, h.held_id_lem, cond_ap (λ (n : Now). after n (value sv q ds)))
  effect_value SavePending a q = refl

  applied_is : (c : Change) → Allowed c s → (q : Parameter)
      → in_force (applied c s.settings (read st)) q ≡ new c s.settings (read st) q
  applied_is c a q = applied_new c s.settings (read st) (brings_map Fits Typed (λ p v f. f.kind) (read st) c (brings_fit c a)) q

  values_after : (c : Change) → Allowed c s → (q : Parameter) → in_force (applied c s.settings (read st)) q ≡ value sv q (c ∷ ds)
  values_after c a q = applied_is c a q ∙ ap (after (effect c s.settings (read st) q)) (h.values q) ∙ effect_value c a q

  fits_after : (c : Change) → Allowed c s → AllFit (in_force (applied c s.settings (read st)))
  fits_after c a q = rw (applied_is c a q) (new_is Fits (λ g. (zero_fine g).fits) s.settings (read st) c (brings_fit c a) h.fits q)

  id_after_lem : (c : Change) → id_after c (id_of s) ≡ active_id (c ∷ ds)
  unfolding active_id
  id_after_lem Keep = h.id_is
  id_after_lem (Write p v) = h.id_is
  id_after_lem (Save gs) = h.id_is
  id_after_lem (TakeOut gs) = h.id_is
  id_after_lem (Load gs id) = refl
  id_after_lem SavePending = h.id_is

  -- the records of a save are accepted
  records_ok : rules s ≡ true → (g : Group) → ok g (records_of s g) ≡ true
  records_ok r g = record_ok g (id_of s) (in_force s.settings) (id_ok s r) h.fits (sound_ok s r g)

  held_after : (c : Change) → Allowed c s → (q : Parameter) → held_for (read (stored c s st)) q ≡ held sv q (c ∷ ds)
  unfolding stored held value readdressed
  held_after Keep a q = h.helds q
  held_after (Write p v) a q = h.helds q
  held_after (Save gs) a q =
      renewed_held gs (records_of s) st (λ g _. records_ok a g) q
      ∙ rw (held_record q (id_of s) (in_force s.settings) h.fits, h.values q, h.helds q) refl
  held_after (TakeOut gs) a q = renewed_held gs (λ (g : Group). []) st (λ g _. empty_ok g) q ∙ rw (h.helds q) refl
  held_after (Load gs id) a q = h.helds q
  held_after SavePending a q =
      built_held (record_n s.core.pending) (λ (g : Group). saved g (read st)) (pair_ok s a) (λ g. read_ok g st) q ∙ (unfold held_for in h.helds q)

  held_id_after : (c : Change) → Allowed c s → held_id_in (read (stored c s st)) ≡ held_id sv (c ∷ ds)
  unfolding stored held_id readdressed record_of
  held_id_after Keep a = h.held_id_lem
  held_id_after (Write p v) a = h.held_id_lem
  held_id_after (Save gs) a = renewed_id gs (records_of s) st (λ g _. records_ok a g) ∙ rw (h.id_is, h.held_id_lem) refl
  held_id_after (TakeOut gs) a = renewed_id gs (λ (g : Group). []) st (λ g _. empty_ok g) ∙ rw h.held_id_lem refl
  held_id_after (Load gs id) a = h.held_id_lem
  held_id_after SavePending a =
      built_id (record_n s.core.pending) (λ (g : Group). saved g (read st)) (pair_ok s a) (λ g. read_ok g st) ∙ (unfold held_id_in in h.held_id_lem)

  pub pair_after_lem : (c : Change) → Allowed c s → held_address (read (stored c s st)) ≡ pair_after c s.core.pending (held_address (read st))
  unfolding stored held_address readdressed
  pair_after_lem Keep a = refl
  pair_after_lem (Write p v) a = refl
  pair_after_lem (Save gs) a = ap pair_in (renewed_n gs (records_of s) st (λ g _. records_ok a g))
  pair_after_lem (TakeOut gs) a = ap pair_in (renewed_n gs (λ (g : Group). []) st (λ g _. empty_ok g))
  pair_after_lem (Load gs id) a = refl
  pair_after_lem SavePending a = ap pair_in (built_n (record_n s.core.pending) (λ (g : Group). saved g (read st)) (pair_ok s a) (λ g. read_ok g st))

  fits_held_after : (c : Change) → Allowed c s → (q : Parameter) → FitsHeld q (held sv q (c ∷ ds))
  unfolding held value
  fits_held_after c a q = go c
    where
      old : FitsHeld q (held sv q ds)
      old = rw (h.helds q) at (h.fits_held q)

      go : (c : Change) → FitsHeld q (held sv q (c ∷ ds))
      go Keep = old
      go (Write p v) = old
      go (Save gs) = cond_case (FitsHeld q) (has gs (row q).group) (λ _. rw (h.values q) at (h.fits q)) (λ _. old)
      go (TakeOut gs) = cond_case (FitsHeld q) (has gs (row q).group) (λ _. tt) (λ _. old)
      go (Load gs id) = old
      go SavePending = old

  -- THE STEP
  pub agrees_after : (c : Change) → Allowed c s
      → Agrees sv (applied c s.settings (read st)) (id_after c (id_of s)) (stored c s st) (c ∷ ds)
  agrees_after c a =
      record {
        values = values_after c a;
        id_is = id_after_lem c;
        helds = held_after c a;
        held_id_lem = held_id_after c a;
        fits = fits_after c a;
        fits_held = λ q. rw (held_after c a q) (fits_held_after c a q);
      }
