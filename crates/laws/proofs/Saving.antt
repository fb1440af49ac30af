-- What is saved and loaded again is what was in force. Assumes nothing.
use mathlib.Core.Path.{◌≡◌, refl, sym, ap, ◌∙◌, subst, fun_ext}
use mathlib.Core.Bool.{Bool, true, false, ◌&&◌, ◌||◌, not, cond}
use mathlib.Core.List.{List, [], ◌∷◌, ◌++◌, append_assoc}
use Prim.Native.Nat.{ℕ, suc, ◌+◌}
use native.Mathlib.Omega.{arith}
use lib.Dec.{eqb, lit≤}
use lib.ListN.{length, length-append}
use borrow.Author.Tests.{eq-eqb}
use Rattle.model.specs.declared.Value.{Value}
use Rattle.model.specs.declared.Parameter.{Parameter}
use Rattle.model.specs.declared.Group.{Group}
use Rattle.model.specs.declared.Group.TheVariants.{C, A}
use Rattle.model.specs.declared.Groups.{Groups}
use Rattle.model.specs.declared.Settings.{Settings}
use Rattle.model.specs.Bytes.{as_number, part, byte_at}
use Rattle.model.specs.Values.{width_of, kind_of, number_of, typed, encoded}
use Rattle.model.specs.Settings.{row, rows, same, among, same_group, has, in_force, bytes_of, judge, is_inside, in_ranges}
use Rattle.model.specs.Validity.{signs, valid, sound}
use Rattle.model.specs.Store.{record_of, size_of_record, rows_at, place_from, place_of, field, node_id, sound_record, ok_n, ok, build, Saved, read, saved_n, saved, or_else, default_for, group_from, follows_id, loaded, renewed_record, renewed}
use Rattle.model.proofs.Numbers.{length_low, number_low}
use Rattle.laws.proofs.Tests.{cond_case, and_both, implies}
use Rattle.laws.proofs.Bytes.{part_mid}
use Rattle.laws.proofs.Values.{Holds, typed_number, number_small}
use Rattle.laws.proofs.Image.{read_build, read_n, read_ok}
use Rattle.laws.proofs.Parameters.{same_eq, by_table, group_eq, in_rows, Fits, AllFit, AllTyped, all_typed, in_force_fits, ranges_from, default_fine}

-- ---- a record

-- the bytes of a value are as many as its parameter's type has
length_encoded : (p : Parameter) (v : Value) → kind_of v ≡ (row p).kind → length (encoded v) ≡ width_of (row p).kind
length_encoded p v e = length_low (width_of (kind_of v)) (number_of v) ∙ ap width_of e

-- where rows stand one after the other, each is found in its place
found : (before : List ℕ) (at : ℕ) (ps : List Parameter) (f : Parameter → Value) (p : Parameter) → length before ≡ at → AllFit f
    → among ps p ≡ true
    → part (place_from at ps p) (width_of (row p).kind) (before ++ bytes_of ps f) ≡ encoded (f p)
unfolding bytes_of
found before at [] f p e h m = cc
found before at (q ∷ qs) f p e h m =
    go (same p q) refl m
    (λ n. rw (← (append_assoc before (encoded (f q)) (bytes_of qs f)))
    (found (before ++ encoded (f q)) (at + width_of (row q).kind) qs f p (simp length-append (omega (arith, e, length_encoded q (f q) (h q).kind))) h n))
  where
    go : (b : Bool) → same p q ≡ b → b || among qs p ≡ true
        → (among qs p ≡ true → part (place_from (at + width_of (row q).kind) qs p) (width_of (row p).kind) (before ++ (encoded (f q) ++ bytes_of qs f)) ≡ encoded (f p))
        → part (cond b at (place_from (at + width_of (row q).kind) qs p)) (width_of (row p).kind) (before ++ (encoded (f q) ++ bytes_of qs f)) ≡ encoded (f p)
    go true d m further =
        subst (λ (x : Parameter). part at (width_of (row p).kind) (before ++ (encoded (f x) ++ bytes_of qs f)) ≡ encoded (f p)) (same_eq p q d)
        (part_mid before (encoded (f p)) (bytes_of qs f) at (width_of (row p).kind) e (length_encoded p (f p) (h p).kind))
    go false d m further = further m

-- the value comes back from its bytes
value_back : (p : Parameter) (v : Value) → Fits p v → typed (row p).kind (as_number (encoded v)) ≡ v
value_back p v h =
    ap (typed (row p).kind) (number_low (width_of (kind_of v)) (number_of v) (number_small v h.holds))
    ∙ subst (λ k. typed k (number_of v) ≡ v) h.kind (typed_number v h.holds)

-- THE THEOREM, for a record: each parameter is read back from the record that was made of the values
pub field_record : (p : Parameter) (id : ℕ) (f : Parameter → Value) → AllFit f → field (record_of (row p).group id f) p ≡ f p
unfolding field place_of
field_record p id f h = ap (λ (l : List ℕ). typed (row p).kind (as_number l)) (go (row p).group (in_rows p)) ∙ value_back p (f p) (h p)
  where
    go : (g : Group) → among (rows g) p ≡ true
        → part (place_from (rows_at g) (rows g) p) (width_of (row p).kind) (record_of g id f) ≡ encoded (f p)
    go C m = unfold record_of in found (id ∷ []) 1 (rows C) f p refl h m
    go A m = unfold record_of in found [] 0 (rows A) f p refl h m

-- so it is with the values in force, if their types hold them
pub settings_record : (k : Settings) (id : ℕ) → ((q : Parameter) → Holds (in_force k q)) → (p : Parameter)
    → field (record_of (row p).group id (in_force k)) p ≡ in_force k p
settings_record k id h p = field_record p id (in_force k) (in_force_fits k h)

-- ---- a record of sound values is accepted

-- how many bytes some rows have
unfoldable pub widths : List Parameter → ℕ
widths [] = 0
widths (p ∷ ps) = width_of (row p).kind + widths ps

length_rows : (ps : List Parameter) (f : Parameter → Value) → AllTyped f → length (bytes_of ps f) ≡ widths ps
unfolding bytes_of widths
length_rows [] f h = refl
length_rows (p ∷ ps) f h = simp length-append (omega (arith, length_encoded p (f p) (h p), length_rows ps f h))

pub length_record : (g : Group) (id : ℕ) (f : Parameter → Value) → AllTyped f → length (record_of g id f) ≡ size_of_record g
unfolding record_of rows widths
length_record C id f h = ap suc (length_rows (rows C) f h)
length_record A id f h = length_rows (rows A) f h

-- soundness of a group looks at its own parameters alone
own : Group → (Parameter → Value) → Parameter → Value
own g f q = cond (same_group (row q).group g) (f q) (default_for 1 q)

sound_own : (g : Group) (f : Parameter → Value) → sound g (own g f) ≡ sound g f
unfolding sound own rows in_ranges valid signs bytes_of
sound_own C f = refl
sound_own A f = refl

ranges_own : (g : Group) (f : Parameter → Value) → in_ranges (rows g) (own g f) ≡ in_ranges (rows g) f
unfolding own rows in_ranges
ranges_own C f = refl
ranges_own A f = refl

-- so its ranges are kept if each of its own is
pub ranges_in : (g : Group) (f : Parameter → Value) → ((q : Parameter) → (row q).group ≡ g → is_inside (judge (row q).range (f q)) ≡ true)
    → in_ranges (rows g) f ≡ true
ranges_in g f h = sym (ranges_own g f) ∙ ranges_from (rows g) (own g f) inside
  where
    inside : (q : Parameter) → is_inside (judge (row q).range (own g f q)) ≡ true
    inside q =
        unfold own in
        cond_case (λ (v : Value). is_inside (judge (row q).range v) ≡ true) (same_group (row q).group g) (λ e. h q (group_eq (row q).group g e))
        (λ _. (default_fine q 1 (lit≤ tt) (lit≤ tt)).inside)

own_same : (g : Group) (f h : Parameter → Value) → ((q : Parameter) → (row q).group ≡ g → f q ≡ h q) → own g f ≡ own g h
unfolding own
own_same g f h e = fun_ext same_own
  where
    same_own : (q : Parameter) → own g f q ≡ own g h q
    same_own q = go (same_group (row q).group g) refl
      where
        go : (b : Bool) → same_group (row q).group g ≡ b → cond b (f q) (default_for 1 q) ≡ cond b (h q) (default_for 1 q)
        go true d = e q (group_eq (row q).group g d)
        go false d = refl

pub sound_by : (g : Group) (f h : Parameter → Value) → ((q : Parameter) → (row q).group ≡ g → f q ≡ h q) → sound g f ≡ sound g h
sound_by g f h e = sym (sound_own g f) ∙ ap (sound g) (own_same g f h e) ∙ sound_own g h

-- and so do the bytes of its rows
bytes_own : (g : Group) (f : Parameter → Value) → bytes_of (rows g) (own g f) ≡ bytes_of (rows g) f
unfolding own rows bytes_of
bytes_own C f = refl
bytes_own A f = refl

pub bytes_by : (g : Group) (f h : Parameter → Value) → ((q : Parameter) → (row q).group ≡ g → f q ≡ h q)
    → bytes_of (rows g) f ≡ bytes_of (rows g) h
bytes_by g f h e = sym (bytes_own g f) ∙ ap (bytes_of (rows g)) (own_same g f h e) ∙ bytes_own g h

record_sound : (g : Group) (id : ℕ) (f : Parameter → Value) → AllFit f → sound g (field (record_of g id f)) ≡ sound g f
record_sound g id f h =
    sound_by g (field (record_of g id f)) f (λ q e. subst (λ (x : Group). field (record_of x id f) q ≡ f q) e (field_record q id f h))

pub record_ok : (g : Group) (id : ℕ) (f : Parameter → Value) → node_id id ≡ true → AllFit f → sound g f ≡ true
    → ok g (record_of g id f) ≡ true
unfolding ok
record_ok g id f a h s =
    rw (length_record g id f (all_typed f h), eq-eqb (size_of_record g) (size_of_record g) refl, sound_of g s) (or_true (eqb (size_of_record g) 0))
  where
    or_true : (b : Bool) → b || true ≡ true
    or_true true = refl
    or_true false = refl

    sound_of : (g : Group) → sound g f ≡ true → sound_record g (record_of g id f) ≡ true
    sound_of C s = unfold sound_record record_of in and_both (node_id id) _ a (record_sound C id f h ∙ s)
    sound_of A s = unfold sound_record in record_sound A id f h ∙ s

-- ---- an image written anew

-- of an image that is built anew each record comes back
pub built_saved : (n : List ℕ) (r : Group → List ℕ) → ok_n n ≡ true → ((g : Group) → ok g (r g) ≡ true) → (g : Group)
    → saved g (read (build n (r C) (r A))) ≡ r g
built_saved n r a h C = ap (saved C) (read_build n (r C) (r A) (record { n_ok = a; c_ok = h C; a_ok = h A }))
built_saved n r a h A = ap (saved A) (read_build n (r C) (r A) (record { n_ok = a; c_ok = h C; a_ok = h A }))

-- where some groups are written anew, those have the new records and the others are kept
pub renewed_ok : (gs : Groups) (r : Group → List ℕ) (st : List ℕ) → ((g : Group) → has gs g ≡ true → ok g (r g) ≡ true)
    → (g : Group) → ok g (renewed_record gs r (read st) g) ≡ true
renewed_ok gs r st h g = cond_case (λ (x : List ℕ). ok g x ≡ true) (has gs g) (λ e. h g e) (λ _. read_ok g st)

pub renewed_saved : (gs : Groups) (r : Group → List ℕ) (st : List ℕ) → ((g : Group) → has gs g ≡ true → ok g (r g) ≡ true)
    → (g : Group) → saved g (read (renewed gs r (read st))) ≡ renewed_record gs r (read st) g
unfolding renewed
renewed_saved gs r st h g = built_saved (saved_n (read st)) (renewed_record gs r (read st)) (read_n st) (renewed_ok gs r st h) g

-- N comes back too, and is kept where groups are written
pub built_n : (n : List ℕ) (r : Group → List ℕ) → ok_n n ≡ true → ((g : Group) → ok g (r g) ≡ true) → saved_n (read (build n (r C) (r A))) ≡ n
built_n n r a h = ap saved_n (read_build n (r C) (r A) (record { n_ok = a; c_ok = h C; a_ok = h A }))

pub renewed_n : (gs : Groups) (r : Group → List ℕ) (st : List ℕ) → ((g : Group) → has gs g ≡ true → ok g (r g) ≡ true)
    → saved_n (read (renewed gs r (read st))) ≡ saved_n (read st)
unfolding renewed
renewed_n gs r st h = built_n (saved_n (read st)) (renewed_record gs r (read st)) (read_n st) (renewed_ok gs r st h)

-- ---- a load

-- a record that is there is what a load finds
or_else_lem : (r other : List ℕ) (n : ℕ) → length r ≡ suc n → or_else r other ≡ r
or_else_lem [] other n e = absurd (omega arith)
or_else_lem (x ∷ xs) other n e = refl

pub or_record : (g : Group) (id : ℕ) (f : Parameter → Value) (other : List ℕ) → AllFit f → or_else (record_of g id f) other ≡ record_of g id f
or_record C id f other h = or_else_lem (record_of C id f) other 20 (length_record C id f (all_typed f h))
or_record A id f other h = or_else_lem (record_of A id f) other 16 (length_record A id f (all_typed f h))

-- the COB-ID rule is about parameters of C
pub follows_c : (p : Parameter) → follows_id p ≡ true → (row p).group ≡ C
follows_c p h =
    group_eq (row p).group C (implies (follows_id p) _ h (by_table (λ (q : Parameter). not (follows_id q) || same_group (row q).group C) refl p))

-- and is not hit by a C that was saved under the active ID
own_id : (p : Parameter) (id : ℕ) (f : Parameter → Value) → follows_id p && not (eqb (byte_at 0 (record_of (row p).group id f)) id) ≡ false
own_id p id f = go (follows_id p) refl
  where
    go : (b : Bool) → follows_id p ≡ b → b && not (eqb (byte_at 0 (record_of (row p).group id f)) id) ≡ false
    go true e = subst (λ (g : Group). not (eqb (byte_at 0 (record_of g id f)) id) ≡ false) (sym (follows_c p e)) (unfold record_of in rw (eq-eqb id id refl) refl)
    go false e = refl

-- a load of a record that was made of the values gives those values
pub loaded_record : (p : Parameter) (id : ℕ) (f : Parameter → Value) (sv : Saved) → AllFit f
    → group_from (row p).group id sv ≡ record_of (row p).group id f → loaded id sv p ≡ f p
unfolding loaded
loaded_record p id f sv h e = rw (e, own_id p id f) (field_record p id f h)

-- THE THEOREM: what is saved under an ID and loaded under the same ID is what was there, for each parameter of the groups saved, whatever the store held
pub saved_loaded : (gs : Groups) (id : ℕ) (f : Parameter → Value) (st : List ℕ) → node_id id ≡ true → AllFit f
    → ((g : Group) → has gs g ≡ true → sound g f ≡ true)
    → (p : Parameter) → has gs (row p).group ≡ true
    → loaded id (read (renewed gs (λ (g : Group). record_of g id f) (read st))) p ≡ f p
unfolding group_from
saved_loaded gs id f st a h s p m =
    let g = (row p).group in
    let sv = read (renewed gs (λ (x : Group). record_of x id f) (read st)) in
    let e : saved g sv ≡ record_of g id f =
    renewed_saved gs (λ (x : Group). record_of x id f) st (λ x n. record_ok x id f a h (s x n)) g ∙ rw m refl in
    loaded_record p id f sv h (rw e (or_record g id f _ h))
