-- One image for each choice of records and values: a record that is accepted is the one that its own values make. So two good images that hold
-- the same N, the same ID with C and the same values are the same bytes. Assumes nothing.
use mathlib.Core.Path.{◌≡◌, refl, sym, ap, ◌∙◌, subst}
use mathlib.Core.Bool.{Bool, true, false, not, ◌&&◌, false≢true}
use mathlib.Core.List.{List, [], ◌∷◌, ◌++◌}
use mathlib.Core.Logic.{⊎_elim}
use Prim.Native.Nat.{ℕ, ◌+◌, ◌*◌, ◌%◌, ◌/◌, ◌^◌, ◌≤◌, ◌<◌}
use native.Mathlib.Omega.{arith}
use native.Mathlib.Nat.{min-eq_left}
use lib.Dec.{T, eqb}
use borrow.Author.Tests.{eqb-true}
use lib.ListN.{length, drop, length-take, length-drop, take-append-drop, drop_of_length-le}
use lib.Seq.{drop-drop}
use lib.Ieee.{Float, nan, inf, fin, binary32, of_bits, is_nan}
use Rattle.model.specs.declared.Value.{Value}
use Rattle.model.specs.declared.Kind.{Kind}
use Rattle.model.specs.declared.Kind.TheVariants as K
use Rattle.model.specs.declared.Parameter.{Parameter}
use Rattle.model.specs.declared.Group.{Group}
use Rattle.model.specs.declared.Group.TheVariants.{C, A}
use Rattle.model.specs.Bytes.{Bytes, low_bytes, as_number, part, number_at}
use Rattle.model.specs.Values.{width_of, typed, encoded}
use Rattle.model.specs.Reading.{judge_real}
use Rattle.model.specs.Settings.{Range, all, between, one_of, real, row, rows, bytes_of, judge, is_inside, in_ranges}
use Rattle.model.specs.Validity.{validity_of, honest, sound}
use Rattle.model.specs.Store.{record_of, size_of_record, rows_at, place_of, field, ok, build, n_in, c_in, a_in, is_good, read, saved_n, saved}
use Rattle.model.specs.History.{Held, absent, kept, held_in, held_for, head_of, held_id_in}
use Rattle.laws.proofs.Tests.{and_l, and_r}
use Rattle.laws.proofs.Bytes.{bytes_part, part_lt}
use Rattle.laws.proofs.Values.{NoNan, typed_kind, number_typed}
use Rattle.laws.proofs.Parameters.{by_table}
use Rattle.laws.proofs.Saving.{widths, bytes_by}
use Rattle.laws.proofs.Image.{only_one, sized_of, read_ok}
use Rattle.laws.proofs.Loading.{sound_there, sound_fields, read_bytes}

-- some bytes come back from the number that they are
low_number : (l : List ℕ) → Bytes l → low_bytes (length l) (as_number l) ≡ l
unfolding low_bytes as_number
low_number [] h = refl
low_number (b ∷ bs) h =
    let k : b < 256 = h.0 in
    let m : (b + as_number bs * 256) % 256 ≡ b = omega arith in
    let d : (b + as_number bs * 256) / 256 ≡ as_number bs = omega arith in
    rw (m, d) (ap (λ (t : List ℕ). b ∷ t) (low_number bs h.1))

-- so do those of a value
encoded_back : (k : Kind) (l : List ℕ) → length l ≡ width_of k → Bytes l → as_number l < 256 ^ width_of k → NoNan k (as_number l)
    → encoded (typed k (as_number l)) ≡ l
encoded_back k l e b h x =
    rw (typed_kind k (as_number l), number_typed k (as_number l) h x)
    (subst (λ (n : ℕ). low_bytes n (as_number l) ≡ l) e (low_number l b))

-- ---- parts side by side

part_next : (at w : ℕ) (r rest : List ℕ) → rest ≡ drop (at + w) r → part at w r ++ rest ≡ drop at r
unfolding part
part_next at w r rest e = rw (e, ← (drop-drop w at r)) (take-append-drop w (drop at r))

length_part : (at w : ℕ) (r : List ℕ) → at + w ≤ length r → length (part at w r) ≡ w
unfolding part
length_part at w r h = length-take w (drop at r) ∙ rw (length-drop at r) (min-eq_left (omega arith))

-- a field and what stands behind it
field_next : (p : Parameter) (r rest : List ℕ) → Bytes r → place_of p + width_of (row p).kind ≤ length r
    → NoNan (row p).kind (number_at (place_of p) (width_of (row p).kind) r)
    → rest ≡ drop (place_of p + width_of (row p).kind) r → encoded (field r p) ++ rest ≡ drop (place_of p) r
unfolding field
field_next p r rest b h x e =
    let w = width_of (row p).kind in
    let l = part (place_of p) w r in
    let f : encoded (typed (row p).kind (as_number l)) ≡ l =
    encoded_back (row p).kind l (length_part (place_of p) w r h) (bytes_part (place_of p) w r b) (part_lt (place_of p) w r b) x in
    rw f (part_next (place_of p) w r rest e)

-- ---- rows that stand one after the other

-- each stands where the one before it ends
standing : ℕ → List Parameter → Bool
standing at [] = true
standing at (p ∷ ps) = eqb (place_of p) at && standing (at + width_of (row p).kind) ps

rows_stand : (g : Group) → standing (rows_at g) (rows g) ≡ true
unfolding standing rows place_of
rows_stand C = refl
rows_stand A = refl

-- a Real32 has the range of finite ones
ranged : Kind → Range → Bool
ranged K.U8 g = true
ranged K.U16 g = true
ranged K.U32 g = true
ranged K.Integer32 g = true
ranged K.Real32 all = false
ranged K.Real32 (between lo hi) = false
ranged K.Real32 (one_of test) = false
ranged K.Real32 real = true

all_ranged : (p : Parameter) → ranged (row p).kind (row p).range ≡ true
unfolding ranged
all_ranged p = by_table (λ (q : Parameter). ranged (row q).kind (row q).range) refl p

-- so a value in range is no NaN
real_number : (x : Float) → is_inside (judge_real x) ≡ true → T (not (is_nan x))
unfolding judge_real is_nan
real_number nan h = false≢true h
real_number (inf s) h = absurd (false≢true h)
real_number (fin s m e) h = tt

no_nan : (k : Kind) (g : Range) (n : ℕ) → ranged k g ≡ true → is_inside (judge g (typed k n)) ≡ true → NoNan k n
unfolding ranged judge
no_nan K.U8 g n r h = tt
no_nan K.U16 g n r h = tt
no_nan K.U32 g n r h = tt
no_nan K.Integer32 g n r h = tt
no_nan K.Real32 all n r h = absurd (false≢true r)
no_nan K.Real32 (between lo hi) n r h = absurd (false≢true r)
no_nan K.Real32 (one_of test) n r h = absurd (false≢true r)
no_nan K.Real32 real n r h = real_number (of_bits binary32 n) h

-- the bytes of the values that stand in a record, from a place to its end, are what stands there
rows_back : (r : List ℕ) (at : ℕ) (ps : List Parameter) → Bytes r → length r ≡ at + widths ps → standing at ps ≡ true
    → in_ranges ps (field r) ≡ true → bytes_of ps (field r) ≡ drop at r
unfolding bytes_of widths standing in_ranges
rows_back r at [] b e s h = sym (drop_of_length-le r {i = at} (omega arith))
rows_back r at (p ∷ ps) b e s h =
    let w = width_of (row p).kind in
    let a : place_of p ≡ at = eqb-true (place_of p) at (and_l (eqb (place_of p) at) (standing (at + w) ps) s) in
    let rest : bytes_of ps (field r) ≡ drop (at + w) r =
    rows_back r (at + w) ps b (omega arith) (and_r (eqb (place_of p) at) (standing (at + w) ps) s)
    (and_r (is_inside (judge (row p).range (field r p))) (in_ranges ps (field r)) h) in
    subst (λ (n : ℕ). encoded (field r p) ++ bytes_of ps (field r) ≡ drop n r) a
    (field_next p r (bytes_of ps (field r)) b (omega arith)
    (unfold field in
    no_nan (row p).kind (row p).range (number_at (place_of p) w r) (all_ranged p)
    (and_l (is_inside (judge (row p).range (field r p))) (in_ranges ps (field r)) h))
    (rest ∙ ap (λ (n : ℕ). drop (n + w) r) (sym a)))

-- ---- the records

-- it has its size
size_there : (g : Group) (x : ℕ) (xs : List ℕ) → ok g (x ∷ xs) ≡ true → length (x ∷ xs) ≡ size_of_record g
size_there g x xs h = ⊎_elim (λ e. absurd (omega arith)) (λ e. e) (sized_of g (x ∷ xs) h)

-- a good image is made of what is saved in it
made_of : (image : List ℕ) → is_good image ≡ true → image ≡ build (saved_n (read image)) (saved C (read image)) (saved A (read image))
unfolding read
made_of image g = (only_one image (n_in image) (c_in image) (a_in image) (rw g refl)).0 ∙ rw g refl

-- a record that is there, and accepted, is the one that its first byte and its values make
record_back : (g : Group) (x : ℕ) (xs : List ℕ) → Bytes (x ∷ xs) → ok g (x ∷ xs) ≡ true → record_of g x (field (x ∷ xs)) ≡ x ∷ xs
unfolding sound record_of rows widths
record_back g x xs b h = go g (size_there g x xs h) (rows_stand g) (and_l (in_ranges (rows g) f) (honest g f) (sound_fields g (x ∷ xs) (sound_there g x xs h)))
  where
    f : Parameter → Value
    f = field (x ∷ xs)

    go : (g : Group) → length (x ∷ xs) ≡ size_of_record g → standing (rows_at g) (rows g) ≡ true → in_ranges (rows g) (field (x ∷ xs)) ≡ true
        → record_of g x (field (x ∷ xs)) ≡ x ∷ xs
    go C e s r = ap (λ (l : List ℕ). x ∷ l) (rows_back (x ∷ xs) 1 (rows C) b e s r)
    go A e s r = rows_back (x ∷ xs) 0 (rows A) b e s r

-- ---- two that hold the same

unkept : {X : Type 0} → X → Held X → X
unkept d absent = d
unkept d (kept v) = v

there : {X : Type 0} → Held X → Bool
there absent = false
there (kept v) = true

abbrev held_at : Parameter → List ℕ → Held Value
held_at q r = held_in (λ (l : List ℕ). field l q) r

same_fields : (x y : ℕ) (xs ys : List ℕ) (q : Parameter) → held_at q (x ∷ xs) ≡ held_at q (y ∷ ys) → field (x ∷ xs) q ≡ field (y ∷ ys) q
unfolding unkept
same_fields x y xs ys q e = ap (unkept (field (x ∷ xs) q)) e

-- the ID that a record begins with, which C alone has
abbrev id_in : Group → List ℕ → Held ℕ
id_in C r = held_in head_of r
id_in A r = absent

-- each group has a parameter
one_of_lem : (g : Group) → (row (validity_of g)).group ≡ g
one_of_lem C = refl
one_of_lem A = refl

made_same : (g : Group) (x y : ℕ) (xs ys : List ℕ) (f h : Parameter → Value) → id_in g (x ∷ xs) ≡ id_in g (y ∷ ys)
    → bytes_of (rows g) f ≡ bytes_of (rows g) h → record_of g x f ≡ record_of g y h
unfolding record_of unkept
made_same C x y xs ys f h i e = let k : x ≡ y = ap (unkept x) i in rw (k, e) refl
made_same A x y xs ys f h i e = e

record_same : (g : Group) (r t : List ℕ) → Bytes r → Bytes t → ok g r ≡ true → ok g t ≡ true → id_in g r ≡ id_in g t
    → ((q : Parameter) → (row q).group ≡ g → held_at q r ≡ held_at q t) → r ≡ t
unfolding there
record_same g [] [] b c k l i e = refl
record_same g [] (y ∷ ys) b c k l i e = absurd (false≢true (ap there (e (validity_of g) (one_of_lem g))))
record_same g (x ∷ xs) [] b c k l i e = absurd (false≢true (ap there (sym (e (validity_of g) (one_of_lem g)))))
record_same g (x ∷ xs) (y ∷ ys) b c k l i e =
    sym (record_back g x xs b k)
    ∙ made_same g x y xs ys (field (x ∷ xs)) (field (y ∷ ys)) i (bytes_by g _ _ (λ q j. same_fields x y xs ys q (e q j)))
    ∙ record_back g y ys c l

-- THE THEOREM: two good images that hold the same N, the same ID with C and the same values are the same bytes
pub one_for_values : (x y : List ℕ) → Bytes x → Bytes y → is_good x ≡ true → is_good y ≡ true → saved_n (read x) ≡ saved_n (read y)
    → held_id_in (read x) ≡ held_id_in (read y) → ((q : Parameter) → held_for (read x) q ≡ held_for (read y) q) → x ≡ y
unfolding held_for held_id_in
one_for_values x y b c good-x good-y n i e =
    let k = same_saved C i in
    let l = same_saved A refl in
    made_of x good-x ∙ rw (n, k, l) refl ∙ sym (made_of y good-y)
  where
    same_saved : (g : Group) → id_in g (saved g (read x)) ≡ id_in g (saved g (read y)) → saved g (read x) ≡ saved g (read y)
    same_saved g i =
        record_same g (saved g (read x)) (saved g (read y)) (read_bytes g x b) (read_bytes g y c) (read_ok g x) (read_ok g y) i
        (λ q j. subst (λ (w : Group). held_at q (saved w (read x)) ≡ held_at q (saved w (read y))) j (unfold held_for in e q))
