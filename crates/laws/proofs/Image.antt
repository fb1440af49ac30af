-- The store holds one image: records that are accepted come back from the image that they make, and no other image is read as them.
-- Assumes nothing.
use mathlib.Core.Path.{◌≡◌, refl}
use mathlib.Core.Bool.{Bool, true, false, ◌&&◌, ◌||◌, cond}
use mathlib.Core.List.{List, [], ◌∷◌, ◌++◌, append_assoc}
use mathlib.Core.Logic.{◌⊎◌, inl, inr, ⊎_elim}
use Prim.Native.Nat.{ℕ, ◌+◌, ◌≤◌, ◌<◌}
use native.Mathlib.Omega.{arith}
use borrow.Author.Tests.{eqb-true, eq-eqb, ne_eqb}
use lib.Dec.{eqb}
use lib.ListN.{length, length-append, length-replicate}
use Rattle.model.specs.declared.Group.{Group}
use Rattle.model.specs.declared.Group.TheVariants.{C, A}
use Rattle.model.specs.Bytes.{low_bytes, part, number_at, same_bytes}
use Rattle.model.specs.Store.{size_n, size_of_record, sound_n, sound_record, ok_n, ok, place_in, packed, placed, build, Saved, nothing, good, length_at, n_in, c_in, a_in, saved_if, is_good, read, saved_n, saved}
use Rattle.model.proofs.Numbers.{length_low, number_low}
use Rattle.laws.proofs.Bytes.{part_mid}
use Rattle.laws.proofs.Tests.{cond_case, and_l, and_r}

-- ---- the same bytes

pub same_eq : (x y : List ℕ) → same_bytes x y ≡ true → x ≡ y
unfolding same_bytes
same_eq [] [] h = refl
same_eq [] (y ∷ ys) h = cc
same_eq (x ∷ xs) [] h = cc
same_eq (x ∷ xs) (y ∷ ys) h = cc (eqb-true x y (and_l _ _ h), same_eq xs ys (and_r (eqb x y) (same_bytes xs ys) h))

pub eq_same : (x : List ℕ) → same_bytes x x ≡ true
unfolding same_bytes
eq_same [] = refl
eq_same (x ∷ xs) = rw (eq-eqb x x refl) (eq_same xs)

-- ---- only one image is read as given records

-- each of the three records is accepted
pub record Accepted (n c a : List ℕ) : Type 0 where
  pub n_ok : ok_n n ≡ true
  pub c_ok : ok C c ≡ true
  pub a_ok : ok A a ≡ true

saved_good : (b : Bool) (n c a x y z : List ℕ) → saved_if b n c a ≡ good x y z → (b ≡ true) × (n ≡ x) × (c ≡ y) × (a ≡ z)
saved_good true n c a x y z h = (refl, (cc), (cc), (cc))
saved_good false n c a x y z h = ((cc), (cc), (cc), (cc))

-- THE THEOREM, one half: what is read as good is the very image that these records make, and they are accepted
pub only_one : (image n c a : List ℕ) → read image ≡ good n c a → (image ≡ build n c a) × Accepted n c a
unfolding read is_good
only_one image n c a h =
    let q = saved_good (is_good image) (n_in image) (c_in image) (a_in image) n c a h in
    let g = q.0 in
    let s : same_bytes image (build (n_in image) (c_in image) (a_in image)) ≡ true = and_l _ _ g in
    let n_ok : ok_n (n_in image) ≡ true = search (and_l, and_r) in
    let c_ok : ok C (c_in image) ≡ true = search (and_l, and_r) in
    let a_ok : ok A (a_in image) ≡ true = search (and_l, and_r) in
    (cc (same_eq image (build (n_in image) (c_in image) (a_in image)) s), record { n_ok = cc n_ok; c_ok = cc c_ok; a_ok = cc a_ok })

-- ---- an image is read as the records that it was built from

or_and : (p q r : Bool) → p || (q && r) ≡ true → (p ≡ true) ⊎ (q ≡ true)
or_and true q r h = inl refl
or_and false true r h = inr refl
or_and false false r h = inl h

-- an accepted record is absent or of its size
abbrev Sized : ℕ → List ℕ → Type 0
Sized k r = (length r ≡ 0) ⊎ (length r ≡ k)

sized : (k : ℕ) (r : List ℕ) (b : Bool) → eqb (length r) 0 || (eqb (length r) k && b) ≡ true → Sized k r
sized k r b h = ⊎_elim (λ e. inl (eqb-true (length r) 0 e)) (λ e. inr (eqb-true (length r) k e)) (or_and (eqb (length r) 0) (eqb (length r) k) b h)

pub sized_n : (r : List ℕ) → ok_n r ≡ true → Sized size_n r
unfolding ok_n
sized_n r h = sized size_n r (sound_n r) h

pub sized_of : (g : Group) (r : List ℕ) → ok g r ≡ true → Sized (size_of_record g) r
unfolding ok
sized_of g r h = sized (size_of_record g) r (sound_record g r) h

pub size_le : (k : ℕ) (r : List ℕ) → Sized k r → length r ≤ k
size_le k r o = ⊎_elim (λ e. omega arith) (λ e. omega arith) o

-- a number behind some bytes
number_mid : (p r : List ℕ) (at x : ℕ) → length p ≡ at → x < 65536 → number_at at 2 (p ++ (low_bytes 2 x ++ r)) ≡ x
number_mid p r at x e h = rw (part_mid p (low_bytes 2 x) r at 2 e (length_low 2 x)) (number_low 2 x h)

place_lt : (at : ℕ) (r : List ℕ) → at < 65536 → place_in at r < 65536
unfolding place_in
place_lt at r h = cond_case (λ (x : ℕ). x < 65536) (eqb (length r) 0) (λ _. omega arith) (λ _. h)

-- a place that is read back says how long the record is
length_back : (r : List ℕ) (k at : ℕ) → 0 < k → at < 65535 → Sized k r → cond (eqb (place_in at r) 65535) 0 k ≡ length r
unfolding place_in
length_back r k at h j o =
    ⊎_elim (λ e. rw e refl)
    (λ e. rw (e, ne_eqb k 0 (λ z. omega arith), ne_eqb at 65535 (λ z. omega arith)) refl) o

module _ (n c a : List ℕ) (fits : length n + length c + length a ≤ 56) where
  length_packed : length (packed n c a) ≡ 56
  unfolding packed
  length_packed = simp (length-append, length-replicate) (omega arith)

  length_placed : length (placed n c a) ≡ 62
  unfolding placed
  length_placed = simp (length-append, length_low) (omega (arith, length_packed))

  pub length_build : length (build n c a) ≡ 64
  unfolding build
  length_build = simp (length-append, length_low) (omega (arith, length_placed))

  place_c : number_at 56 2 (build n c a) ≡ place_in (length n) c
  unfolding build placed
  place_c = simp append_assoc (number_mid (packed n c a) _ 56 _ length_packed (place_lt _ _ (omega arith)))

  place_a : number_at 58 2 (build n c a) ≡ place_in (length n + length c) a
  unfolding build placed
  place_a =
      simp append_assoc
      (rw (← (append_assoc (packed n c a) (low_bytes 2 (place_in (length n) c)) _))
      (number_mid (packed n c a ++ low_bytes 2 (place_in (length n) c)) _ 58 _
      (simp (length-append, length_low) (omega (arith, length_packed)))
      (place_lt _ _ (omega arith))))

  place_n : number_at 60 2 (build n c a) ≡ place_in 0 n
  unfolding build placed
  place_n =
      rw (append_assoc _ (low_bytes 2 (place_in 0 n)) _)
      (number_mid (packed n c a ++ low_bytes 2 (place_in (length n) c) ++ low_bytes 2 (place_in (length n + length c) a)) _ 60 _
      (simp (length-append, length_low) (omega (arith, length_packed)))
      (place_lt _ _ (omega arith)))

  part_n : part 0 (length n) (build n c a) ≡ n
  unfolding build placed packed
  part_n = simp append_assoc (part_mid [] n _ 0 (length n) refl refl)

  part_c : part (length n) (length c) (build n c a) ≡ c
  unfolding build placed packed
  part_c = simp append_assoc (part_mid n c _ (length n) (length c) refl refl)

  part_a : part (length n + length c) (length a) (build n c a) ≡ a
  unfolding build placed packed
  part_a =
      simp append_assoc
      (rw (← (append_assoc n c _)) (part_mid (n ++ c) a _ (length n + length c) (length a) (length-append n c) refl))

  module _ (n-size : Sized 2 n) (c-size : Sized 21 c) (a-size : Sized 17 a) where
    length_n : length_at 60 2 (build n c a) ≡ length n
    unfolding length_at
    length_n = rw place_n (length_back n 2 0 (omega arith) (omega arith) n-size)

    length_c : length_at 56 21 (build n c a) ≡ length c
    unfolding length_at
    length_c = rw place_c (length_back c 21 (length n) (omega arith) (omega arith) c-size)

    length_a : length_at 58 17 (build n c a) ≡ length a
    unfolding length_at
    length_a = rw place_a (length_back a 17 (length n + length c) (omega arith) (omega arith) a-size)

    n_back : n_in (build n c a) ≡ n
    unfolding n_in
    n_back = rw length_n part_n

    c_back : c_in (build n c a) ≡ c
    unfolding c_in
    c_back = rw (length_n, length_c) part_c

    a_back : a_in (build n c a) ≡ a
    unfolding a_in
    a_back = rw (length_n, length_c, length_a) part_a

-- accepted records fit the image
fits_in : (n c a : List ℕ) → Accepted n c a → length n + length c + length a ≤ 56
fits_in n c a h = omega (arith, size_le 2 n (sized_n n h.n_ok), size_le 21 c (sized_of C c h.c_ok), size_le 17 a (sized_of A a h.a_ok))

-- THE THEOREM, the other half: accepted records come back from the image that they make
pub read_build : (n c a : List ℕ) → Accepted n c a → read (build n c a) ≡ good n c a
unfolding read is_good
read_build n c a h =
    let sn = sized_n n h.n_ok in
    let sc = sized_of C c h.c_ok in
    let sa = sized_of A a h.a_ok in
    let f = fits_in n c a h in
    rw (n_back n c a f sn sc sa, c_back n c a f sn sc sa, a_back n c a f sn sc sa, eq_same (build n c a), h.n_ok, h.c_ok, h.a_ok) refl

-- and their image is 64 bytes
pub built_size : (n c a : List ℕ) → Accepted n c a → length (build n c a) ≡ 64
built_size n c a h = length_build n c a (fits_in n c a h)

-- ---- what is read is accepted, record by record: an absent one always is

pub read_n : (image : List ℕ) → ok_n (saved_n (read image)) ≡ true
unfolding ok_n
read_n image = go (read image) refl
  where
    go : (sv : Saved) → read image ≡ sv → ok_n (saved_n sv) ≡ true
    go nothing e = refl
    go (good n c a) e = (only_one image n c a e).1.n_ok

pub read_ok : (g : Group) (image : List ℕ) → ok g (saved g (read image)) ≡ true
unfolding ok
read_ok g image = go g (read image) refl
  where
    go : (g : Group) (sv : Saved) → read image ≡ sv → ok g (saved g sv) ≡ true
    go g nothing e = refl
    go C (good n c a) e = (only_one image n c a e).1.c_ok
    go A (good n c a) e = (only_one image n c a e).1.a_ok
