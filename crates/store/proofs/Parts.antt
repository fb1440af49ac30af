-- The saved records are the parts of the image that the sizes say: one law for each of N, C and A, by whether the image is good. Assumes nothing.
use Prim.Native.Nat.{ℕ, ◌+◌}
use mathlib.Core.Path.{◌≡◌, refl, ap, ◌∙◌}
use mathlib.Core.Bool.{Bool, true, false, ◌&&◌}
use mathlib.Core.List.{List}
use native.Mathlib.Omega.{arith}
use lib.ListN.{take, drop}
use Rattle.model.specs.declared.Group.TheVariants.{C, A}
use Rattle.model.specs.Bytes.{part, same_bytes}
use Rattle.model.specs.Store.{n_in, c_in, a_in, is_good, saved_if, read, saved_n, saved, or_else, build, ok_n, ok}
use Rattle.image.specs.declared.Sizes.{Sizes}
use Rattle.image.specs.declared.Records.{Records}
use Rattle.image.specs.Sizes.{sizes_in, Sized, Within}
use Rattle.store.specs.Saved.{sizes_if, Kept, SavedIn, GroupPart}

n_by : (image : List ℕ) (b : Bool) → part 0 (sizes_if b (sizes_in image)).n image ≡ saved_n (saved_if b (n_in image) (c_in image) (a_in image))
unfolding n_in part
n_by image true = refl
n_by image false = refl

c_by : (image : List ℕ) (b : Bool)
    → part (sizes_if b (sizes_in image)).n (sizes_if b (sizes_in image)).c image ≡ saved C (saved_if b (n_in image) (c_in image) (a_in image))
unfolding c_in part
c_by image true = refl
c_by image false = refl

a_by : (image : List ℕ) (b : Bool)
    → part ((sizes_if b (sizes_in image)).n + (sizes_if b (sizes_in image)).c) (sizes_if b (sizes_in image)).a image
    ≡ saved A (saved_if b (n_in image) (c_in image) (a_in image))
unfolding a_in part
a_by image true = refl
a_by image false = refl

-- the parts that the sizes of what is saved say are what is saved
pub saved_in : (image : List ℕ) (s : Sizes) (r : Records) → Kept image s → Within image s r → SavedIn image s r
unfolding read
saved_in image s r k w =
    record {
      n = w.n ∙ (ap (λ (t : Sizes). part 0 t.n image) k.told ∙ n_by image (is_good image));
      c = w.c ∙ (ap (λ (t : Sizes). part t.n t.c image) k.told ∙ c_by image (is_good image));
      a = w.a ∙ (ap (λ (t : Sizes). part (t.n + t.c) t.a image) k.told ∙ a_by image (is_good image));
      within = w;
      most = k.most;
    }

-- a group is its record or its part of a block
pub group_c : (image block x : List ℕ) (s : Sizes) (r : Records) → SavedIn image s r → x ≡ or_else r.c.now (take 21 block)
    → GroupPart C image block s x
unfolding part
group_c image block x s r h e = record { which = rw h.within.c at e; is_group = rw h.c at e }

pub group_a : (image block x : List ℕ) (s : Sizes) (r : Records) → SavedIn image s r → x ≡ or_else r.a.now (take 17 (drop 21 block))
    → GroupPart A image block s x
unfolding part
group_a image block x s r h e = record { which = rw h.within.a at e; is_group = rw h.a at e }

-- the two tests of an image, of the records that its trailer tells, are the definition's: where the first fails it is not good, and
-- where it holds the second decides
module _ (image : List ℕ) (s : Sizes) (own : Bool) (z : Sized image s)
    (h : own ≡ same_bytes image (build (part 0 s.n image) (part s.n s.c image) (part (s.n + s.c) s.a image)))
  where
    tests : (fine : Bool) → fine ≡ (ok_n (part 0 s.n image) && (ok C (part s.n s.c image) && ok A (part (s.n + s.c) s.a image)))
        → is_good image ≡ own && fine
    unfolding is_good n_in c_in a_in
    tests fine j = rw (h, j, z.told)

    pub not_own : own ≡ false → is_good image ≡ false
    not_own o = rw o at (tests _ refl)

    pub by_records : (r : Records) (fine : Bool) → Within image s r → own ≡ true → fine ≡ (ok_n r.n.now && (ok C r.c.now && ok A r.a.now))
        → is_good image ≡ fine
    by_records r fine w o j = rw o at (tests fine (rw (w.n, w.c, w.a) at j))

-- so what is saved is of those sizes, or nothing
pub kept : (image : List ℕ) (s : Sizes) → Sized image s → is_good image ≡ true → Kept image s
kept image s z h = record { told = rw h z.told; most = z.most }

pub nothing_kept : (image : List ℕ) (s : Sizes) → is_good image ≡ false → s.n ≡ 0 → s.c ≡ 0 → s.a ≡ 0 → Kept image s
nothing_kept image s h n c a = record {
  told = rw h (λ i. record { n = n i; c = c i; a = a i });
  most = record { n = omega arith; c = omega arith; a = omega arith };
}
