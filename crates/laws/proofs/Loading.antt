-- What a load gives, by what the store holds: each parameter's own record, else its default, with the COB-ID rule. Assumes nothing.
use mathlib.Core.Path.{◌≡◌, refl, sym, ap, ◌∙◌, subst}
use mathlib.Core.Bool.{Bool, true, false, ◌&&◌, not, cond}
use mathlib.Core.List.{List, [], ◌∷◌, ◌++◌, append-nil}
use Prim.Native.Nat.{ℕ, suc, ◌≤◌}
use native.Mathlib.Omega.{arith}
use lib.Dec.{eqb}
use lib.ListN.{length}
use borrow.Author.Tests.{ne_eqb}
use Rattle.model.specs.declared.Value.{Value}
use Rattle.model.specs.declared.Parameter.{Parameter}
use Rattle.model.specs.declared.Group.{Group}
use Rattle.model.specs.declared.Group.TheVariants.{C, A}
use Rattle.model.specs.declared.Groups.{Groups}
use Rattle.model.specs.Bytes.{part, byte_at, Bytes}
use Rattle.model.specs.Values.{width_of}
use Rattle.model.specs.Settings.{row, has}
use Rattle.model.specs.Validity.{sound}
use Rattle.model.specs.Store.{record_of, size_of_record, place_of, field, node_id, bit_index, sound_n, sound_record, ok_n, ok, build, Saved, n_in, c_in, a_in, saved_if, is_good, read, saved_n, saved, or_else, default_for, factory, factory_place, group_from, follows_id, loaded, address_from, renewed}
use Rattle.model.specs.Parts.{address}
use Rattle.model.specs.History.{Held, absent, kept, held_in, held_address, or_factory, held_for, head_of, held_id_in, is_other, at_load}
use Rattle.laws.proofs.Tests.{cond_case, cond_ap, and_l, and_r}
use Rattle.laws.proofs.Bytes.{bytes_part, part_lt, part_mid}
use Rattle.laws.proofs.Values.{typed_kind, typed_holds}
use Rattle.laws.proofs.Image.{read_n}
use Rattle.laws.proofs.Parameters.{Fits, AllFit, all_typed, default_fine}
use Rattle.laws.proofs.Saving.{length_record, follows_c, field_record, loaded_record, built_saved, renewed_saved}

-- ---- what a store holds

-- an accepted record that is there has sound contents
pub sound_there : (g : Group) (x : ℕ) (xs : List ℕ) → ok g (x ∷ xs) ≡ true → sound_record g (x ∷ xs) ≡ true
unfolding ok
sound_there g x xs h =
    let j = rw (ne_eqb (length (x ∷ xs)) 0 (λ z. omega arith)) at h in
    and_r (eqb (length (x ∷ xs)) (size_of_record g)) (sound_record g (x ∷ xs)) j

pub sound_fields : (g : Group) (r : List ℕ) → sound_record g r ≡ true → sound g (field r) ≡ true
unfolding sound_record
sound_fields C r h = and_r (node_id (byte_at 0 r)) (sound C (field r)) h
sound_fields A r h = h

-- a parameter read from bytes fits it
pub field_fits : (p : Parameter) (r : List ℕ) → Bytes r → Fits p (field r p)
unfolding field
field_fits p r b = record { kind = typed_kind (row p).kind _; holds = typed_holds (row p).kind _ (part_lt (place_of p) (width_of (row p).kind) r b) }

pub read_bytes : (g : Group) (st : List ℕ) → Bytes st → Bytes (saved g (read st))
unfolding read n_in c_in a_in
read_bytes g st b = go g (is_good st)
  where
    go : (g : Group) (t : Bool) → Bytes (saved g (saved_if t (n_in st) (c_in st) (a_in st)))
    go g false = tt
    go C true = bytes_part _ _ st b
    go A true = bytes_part _ _ st b

-- what is held fits its parameter
abbrev pub FitsHeld : Parameter → Held Value → Type 0
FitsHeld q absent = Unit {0}
FitsHeld q (kept v) = Fits q v

pub first_held : (st : List ℕ) → Bytes st → (q : Parameter) → FitsHeld q (held_for (read st) q)
unfolding held_for
first_held st b q = go (saved (row q).group (read st)) (read_bytes (row q).group st b)
  where
    go : (r : List ℕ) → Bytes r → FitsHeld q (held_in (λ (x : List ℕ). field x q) r)
    go [] y = tt
    go (x ∷ xs) y = field_fits q (x ∷ xs) y

-- ---- what a load gives

default_fits : (id : ℕ) → 1 ≤ id → id ≤ 127 → AllFit (default_for id)
default_fits id a b q = (default_fine q id a b).fits

-- a group's part of the factory block is the record of the defaults
pub factory_part : (g : Group) (id : ℕ) → 1 ≤ id → id ≤ 127
    → part (factory_place g) (size_of_record g) (factory id) ≡ record_of g id (default_for id)
unfolding factory
factory_part C id a b =
    part_mid [] (record_of C id (default_for id)) (record_of A id (default_for id)) 0 21 refl (length_record C id (default_for id) (all_typed _ (default_fits id a b)))
factory_part A id a b =
    subst (λ (l : List ℕ). part 21 17 (record_of C id (default_for id) ++ l) ≡ record_of A id (default_for id)) (append-nil (record_of A id (default_for id)))
    (part_mid (record_of C id (default_for id)) (record_of A id (default_for id)) [] 21 17 (length_record C id (default_for id) (all_typed _ (default_fits id a b)))
    (length_record A id (default_for id) (all_typed _ (default_fits id a b))))

-- the COB-ID rule looks at the ID that is held with C
other_id : (q : Parameter) (sv : Saved) (id x : ℕ) (xs : List ℕ) → saved (row q).group sv ≡ x ∷ xs
    → (follows_id q && is_other (held_id_in sv) id) ≡ (follows_id q && not (eqb x id))
unfolding held_id_in
other_id q sv id x xs e = go (follows_id q) refl
  where
    go : (b : Bool) → follows_id q ≡ b → (b && is_other (held_in head_of (saved C sv)) id) ≡ (b && not (eqb x id))
    go true f = rw (ap (λ (g : Group). saved g sv) (sym (follows_c q f)) ∙ e) refl
    go false f = refl

-- a load gives what is held, else the default, by the COB-ID rule
pub loaded_at : (q : Parameter) (id : ℕ) (sv : Saved) → 1 ≤ id → id ≤ 127
    → loaded id sv q ≡ at_load q id (held_for sv q) (held_id_in sv)
unfolding held_for at_load group_from
loaded_at q id sv a b = go (saved (row q).group sv) refl
  where
    go : (r : List ℕ) → saved (row q).group sv ≡ r → loaded id sv q ≡ at_load q id (held_for sv q) (held_id_in sv)
    go [] e = rw e (loaded_record q id (default_for id) sv (default_fits id a b) (rw e (factory_part (row q).group id a b)))
    go (x ∷ xs) e = rw (e, other_id q sv id x xs e) (unfold loaded in rw e refl)

load_fits : (q : Parameter) (id : ℕ) (v : Held Value) (c : Held ℕ) → 1 ≤ id → id ≤ 127 → FitsHeld q v → Fits q (at_load q id v c)
unfolding at_load
load_fits q id absent c a b h = default_fits id a b q
load_fits q id (kept v) c a b h = cond_case (Fits q) (follows_id q && is_other c id) (λ _. default_fits id a b q) (λ _. h)

pub loaded_fits : (q : Parameter) (id : ℕ) (sv : Saved) → 1 ≤ id → id ≤ 127 → FitsHeld q (held_for sv q) → Fits q (loaded id sv q)
loaded_fits q id sv a b h = rw (loaded_at q id sv a b) (load_fits q id (held_for sv q) (held_id_in sv) a b h)

-- ---- what is held after a store was written anew

held_there : {X : Type 0} (f : List ℕ → X) (r : List ℕ) (n : ℕ) → length r ≡ suc n → held_in f r ≡ kept (f r)
held_there f [] n e = absurd (omega arith)
held_there f (x ∷ xs) n e = refl

-- of a record that was made of values, these
pub held_record : (q : Parameter) (id : ℕ) (f : Parameter → Value) → AllFit f
    → held_in (λ (r : List ℕ). field r q) (record_of (row q).group id f) ≡ kept (f q)
held_record q id f h = go (row q).group (length_record (row q).group id f (all_typed f h)) ∙ ap kept (field_record q id f h)
  where
    go : (g : Group) → length (record_of g id f) ≡ size_of_record g
        → held_in (λ (r : List ℕ). field r q) (record_of g id f) ≡ kept (field (record_of g id f) q)
    go C e = held_there (λ (r : List ℕ). field r q) (record_of C id f) 20 e
    go A e = held_there (λ (r : List ℕ). field r q) (record_of A id f) 16 e

module _ (n : List ℕ) (r : Group → List ℕ) (n_ok : ok_n n ≡ true) (r-ok : (g : Group) → ok g (r g) ≡ true) where
  pub built_held : (q : Parameter) → held_for (read (build n (r C) (r A))) q ≡ held_in (λ (x : List ℕ). field x q) (r (row q).group)
  unfolding held_for
  built_held q = ap (held_in (λ (x : List ℕ). field x q)) (built_saved n r n_ok r-ok (row q).group)

  pub built_id : held_id_in (read (build n (r C) (r A))) ≡ held_in head_of (r C)
  unfolding held_id_in
  built_id = ap (held_in head_of) (built_saved n r n_ok r-ok C)

module _ (gs : Groups) (r : Group → List ℕ) (st : List ℕ) (r-ok : (g : Group) → has gs g ≡ true → ok g (r g) ≡ true) where
  pub renewed_held : (q : Parameter)
      → held_for (read (renewed gs r (read st))) q ≡ cond (has gs (row q).group) (held_in (λ (x : List ℕ). field x q) (r (row q).group)) (held_for (read st) q)
  unfolding held_for
  renewed_held q =
      ap (held_in (λ (x : List ℕ). field x q)) (renewed_saved gs r st r-ok (row q).group)
      ∙ cond_ap (held_in (λ (x : List ℕ). field x q)) (has gs (row q).group) (r (row q).group) (saved (row q).group (read st))

  pub renewed_id : held_id_in (read (renewed gs r (read st))) ≡ cond (has gs C) (held_in head_of (r C)) (held_id_in (read st))
  unfolding held_id_in
  renewed_id =
      ap (held_in head_of) (renewed_saved gs r st r-ok C)
      ∙ cond_ap (held_in head_of) (has gs C) (r C) (saved C (read st))

-- ---- the address

there_n : (x : ℕ) (xs : List ℕ) → ok_n (x ∷ xs) ≡ true → sound_n (x ∷ xs) ≡ true
unfolding ok_n
there_n x xs h = let j = rw (ne_eqb (length (x ∷ xs)) 0 (λ z. omega arith)) at h in and_r (eqb (length (x ∷ xs)) 2) (sound_n (x ∷ xs)) j

-- the saved pair, or 1 and 3, may be in force
pub address_ok : (st : List ℕ) → (node_id (address_from (read st)).id ≡ true) × (bit_index (address_from (read st)).bit ≡ true)
unfolding address_from sound_n
address_ok st = go (saved_n (read st)) (read_n st)
  where
    go : (r : List ℕ) → ok_n r ≡ true
        → (node_id (byte_at 0 (or_else r (1 ∷ 3 ∷ []))) ≡ true) × (bit_index (byte_at 1 (or_else r (1 ∷ 3 ∷ []))) ≡ true)
    go [] h = (refl, refl)
    go (x ∷ xs) h = let k = there_n x xs h in (and_l _ (bit_index (byte_at 1 (x ∷ xs))) k, and_r (node_id x) _ k)

-- the address at a load is the one that is held, or 1 and 3
pub address_held : (sv : Saved) → address_from sv ≡ or_factory (held_address sv)
unfolding address_from or_factory held_address
address_held sv = go (saved_n sv)
  where
    go : (r : List ℕ)
        → let l = or_else r (1 ∷ 3 ∷ []) in
        address (byte_at 0 l) (byte_at 1 l) ≡ or_factory (held_in (λ (x : List ℕ). address (byte_at 0 x) (byte_at 1 x)) r)
    go [] = refl
    go (x ∷ xs) = refl
