-- Numbers as bytes: one law for reading and one for writing, over every width. A read past the end finds zeros, so that reading asks for no length. Assumes nothing.
use Rattle.std.proofs.Common.{◌≡◌, ℕ, zero, suc, ◌+◌, ◌*◌, ◌<◌, ◌≤◌, List, [], ◌∷◌, ◌++◌, length, get_or, take, drop, set, sym, refl, ap, ◌∙◌, add-one, arith, length-take-le}
use lib.Seq.{take-nil, take-suc, take-length, sets, sets-eq}
use Rattle.model.specs.Bytes.{as_number, part}
use Rattle.wire.specs.Put.{put}

-- the number of n bytes at a place as code reads it: at, at + 1, (at + 1) + 1 and so on
abbrev pub num_at : ℕ → ℕ → List ℕ → ℕ
num_at zero at l = 0
num_at (suc n) at l = get_or l at 0 + num_at n (at + 1) l * 256

-- one byte is read, and the others stand one place further on
number_next : (n at : ℕ) (l : List ℕ) → as_number (take (suc n) (drop at l)) ≡ get_or l at 0 + as_number (take n (drop (suc at) l)) * 256
unfolding as_number
number_next n zero [] = rw take-nil
number_next n zero (x ∷ l) = refl
number_next n (suc at) [] = rw take-nil
number_next n (suc at) (x ∷ l) = number_next n at l

-- what each `get` cites at its width
pub get_law : (n at : ℕ) (l : List ℕ) → as_number (part at n l) ≡ num_at n at l
unfolding as_number part
get_law zero at l = refl
get_law (suc n) at l =
    number_next n at l ∙ rw (← (add-one at)) (ap (λ (r : ℕ). get_or l at 0 + r * 256) (get_law n (at + 1) l))

-- a run of stores as code makes it, one after the other (`copy`): at, at + 1, (at + 1) + 1 and so on
abbrev pub stores : List ℕ → ℕ → List ℕ → List ℕ
stores l at [] = l
stores l at (v ∷ vs) = stores (set l at v) (at + 1) vs

stores_sets : (l : List ℕ) (at : ℕ) (vs : List ℕ) → stores l at vs ≡ sets l at vs
stores_sets l at [] = refl
stores_sets l at (v ∷ vs) = rw add-one (stores_sets (set l at v) (suc at) vs)

-- what each `put` comes to at its width, by way of `copy`
pub put_law : (l : List ℕ) (at : ℕ) (vs : List ℕ) → at + length vs ≤ length l → stores l at vs ≡ put at vs l
unfolding put
put_law l at vs h = stores_sets l at vs ∙ sets-eq vs l at h

-- the same of a loop that has gone through all of vs
pub all_stored : (l : List ℕ) (at : ℕ) (vs : List ℕ) (n : ℕ) → n ≡ length vs → at + length vs ≤ length l → stores l at (take n vs) ≡ put at vs l
all_stored l at vs n e h = rw (e, take-length) (put_law l at vs h)

-- one store more, behind the others
stores_one : (l : List ℕ) (at : ℕ) (vs : List ℕ) (v : ℕ) → set (stores l at vs) (at + length vs) v ≡ stores l at (vs ++ (v ∷ []))
stores_one l at [] v = let none : at + 0 ≡ at = omega arith in ap (λ i. set l i v) none
stores_one l at (x ∷ vs) v =
    let on : at + suc (length vs) ≡ at + 1 + length vs = omega arith in
    ap (λ i. set (stores (set l at x) (at + 1) vs) i v) on ∙ stores_one (set l at x) (at + 1) vs v

-- a turn of that loop
pub store_more : (l : List ℕ) (at : ℕ) (vs : List ℕ) (j z : ℕ) → j < length vs
    → set (stores l at (take j vs)) (at + j) (get_or vs j z) ≡ stores l at (take (j + 1) vs)
store_more l at vs j z h =
    let long : length (take j vs) ≡ j = length-take-le j vs (omega (arith, h)) in
    let v = get_or vs j z in
    ap (λ i. set (stores l at (take j vs)) (at + i) v) (sym long)
    ∙ stores_one l at (take j vs) v
    ∙ rw add-one (ap (stores l at) (sym (take-suc vs j z h)))
