-- Records cut from bytes: one record more, turns enough for all, and bytes that come in two parts. Assumes nothing.
use Rattle.std.proofs.Common.{◌≡◌, ℕ, zero, suc, ◌*◌, ◌/◌, ◌%◌, ◌<◌, ◌≤◌, List, [], ◌∷◌, ◌++◌, length, take, drop, min, sym, refl, ap, ap₂, ◌∙◌, arith, length-append, length-drop, take_all, drop_of_length-le, take_at, drop_at, append-nil}
use lib.Seq.{take-append-le, drop-append-le}
use Rattle.model.specs.Run.{Call}
use Rattle.model.specs.Program.{records}
use Rattle.program.specs.Turns.{calling}

-- ---- Turns

no_records : (k : ℕ) → records k [] ≡ []
unfolding records
no_records zero = refl
no_records (suc k) = refl

-- turns enough
enough : (j k : ℕ) (s : List ℕ) → length s ≤ 13 * j → length s ≤ 13 * k → records j s ≡ records k s
unfolding records
enough zero k [] h g = sym (no_records k)
enough zero k (b ∷ bs) h g = absurd (omega arith)
enough (suc j) zero [] h g = refl
enough (suc j) zero (b ∷ bs) h g = absurd (omega arith)
enough (suc j) (suc k) [] h g = refl
enough (suc j) (suc k) (b ∷ bs) h g =
    ap (λ (cs : List Call). calling (take 13 (b ∷ bs)) ∷ cs)
    (enough j k (drop 13 (b ∷ bs)) (omega (arith, length-drop 13 (b ∷ bs))) (omega (arith, length-drop 13 (b ∷ bs))))

-- a chunk of 13 bytes, or of fewer at the end, is what the definition takes
chunk : (x rest : List ℕ) → length x ≡ min 13 (length (x ++ rest)) → (take 13 (x ++ rest) ≡ x) × (drop 13 (x ++ rest) ≡ rest)
chunk x [] e =
    rw (append-nil x) (take_all 13 x (omega (arith, length-append x [])), drop_of_length-le x {i = 13} (omega (arith, length-append x [])))
chunk x (r ∷ rest) e =
    let full : length x ≡ 13 = omega (arith, length-append x (r ∷ rest)) in
    (take_at x (r ∷ rest) 13 full, drop_at x (r ∷ rest) 13 full)

first : (d : List ℕ) → 0 < length d → records (length d) d ≡ calling (take 13 d) ∷ records (length (drop 13 d)) (drop 13 d)
unfolding records
first [] h = absurd (omega arith)
first (b ∷ bs) h =
    let k = length-drop 13 (b ∷ bs) in
    ap (λ (cs : List Call). calling (take 13 (b ∷ bs)) ∷ cs)
    (enough (length bs) (length (drop 13 (b ∷ bs))) (drop 13 (b ∷ bs)) (omega (arith, k)) (omega (arith, k)))

-- so the records of what is left are its chunk, and those of what is left then
pub next_record : {n : ℕ} {d : List ℕ} (x rest : List ℕ) → n ≡ 13 → (d ≡ x ++ rest) × (length x ≡ min n (length d)) × (0 < length d)
    → records (length d) d ≡ calling x ∷ records (length rest) rest
next_record {n} {d} x rest thirteen cut =
    let c = chunk x rest (cut.1 ∙ ap₂ (λ (m : ℕ) (l : List ℕ). min m (length l)) thirteen cut.0) in
    let front : take 13 d ≡ x = ap (take 13) cut.0 ∙ c.0 in
    let back : drop 13 d ≡ rest = ap (drop 13) cut.0 ∙ c.1 in
    first d cut.2 ∙ ap₂ (λ (a b : List ℕ). calling a ∷ records (length b) b) front back

-- ---- Two parts

join : (m k : ℕ) (a b : List ℕ) → length a ≡ 13 * m → length (a ++ b) ≤ 13 * k → records k (a ++ b) ≡ records m a ++ records (length b) b
unfolding records
join zero k [] b e h = enough k (length b) b h (omega arith)
join zero k (x ∷ xs) b e h = absurd (omega arith)
join (suc m) zero a b e h = absurd (omega (arith, length-append a b))
join (suc m) (suc k) [] b e h = absurd (omega arith)
join (suc m) (suc k) (x ∷ xs) b e h =
    let long : 13 ≤ length (x ∷ xs) = omega arith in
    let rest = length-drop 13 (x ∷ xs) in
    ap (λ (t : List ℕ). calling t ∷ records k (drop 13 ((x ∷ xs) ++ b))) (take-append-le 13 (x ∷ xs) b long)
    ∙ ap (λ (t : List ℕ). calling (take 13 (x ∷ xs)) ∷ records k t) (drop-append-le 13 (x ∷ xs) b long)
    ∙ ap (λ (cs : List Call). calling (take 13 (x ∷ xs)) ∷ cs)
    (join m k (drop 13 (x ∷ xs)) b (omega (arith, rest))
    (omega (arith, rest, length-append (drop 13 (x ∷ xs)) b, length-append (x ∷ xs) b)))

-- whole records, and then more bytes
pub joined : (a b : List ℕ) → length a % 13 ≡ 0 → records (length (a ++ b)) (a ++ b) ≡ records (length a) a ++ records (length b) b
joined a b e =
    let m = length a / 13 in
    let l : length a ≡ 13 * m = omega arith in
    join m (length (a ++ b)) a b l (omega arith)
    ∙ ap (λ (cs : List Call). cs ++ records (length b) b) (enough m (length a) a (omega arith) (omega arith))
