-- What the writes of `write_records`, `write_places` and `write_crc` leave, each from the lists that its calls leave. Assumes nothing.
use mathlib.Core.Path.{◌≡◌, refl, sym, ap, ◌∙◌}
use mathlib.Core.List.{List, [], ◌++◌}
use Prim.Native.Nat.{ℕ, ◌+◌, ◌-◌, ◌≤◌}
use native.Mathlib.Omega.{arith}
use lib.ListN.{length, take, replicate, length-append, length-replicate}
use lib.Seq.{length-take-le}
use Rattle.model.specs.Bytes.{low_bytes}
use Rattle.model.specs.Store.{packed}
use Rattle.wire.specs.Put.{put}
use Rattle.model.proofs.Numbers.{length_low}
use Rattle.wire.proofs.Puts.{starts_none, starts_take, starts_more, starts_all}

pub length_packed : (n c a : List ℕ) → length n + length c + length a ≤ 56 → length (packed n c a) ≡ 56
unfolding packed
length_packed n c a h = simp (length-append, length-replicate) (omega arith)

pub records_law : (s s₁ s₂ s₃ s₄ n c a : List ℕ) → length s ≡ 64 → length n + length c + length a ≤ 56
    → s₁ ≡ put 0 n s
    → s₂ ≡ put (length n) c s₁
    → s₃ ≡ put (length n + length c) a s₂
    → s₄ ≡ put (length n + length c + length a) (replicate (56 - (length n + length c + length a)) 0) s₃
    → take 56 s₄ ≡ packed n c a
unfolding packed
records_law s s₁ s₂ s₃ s₄ n c a e h e₁ e₂ e₃ e₄ =
    let lc = length-append n c in
    let la = length-append (n ++ c) a in
    let z : List ℕ = replicate (56 - (length n + length c + length a)) 0 in
    let lz : length z ≡ 56 - (length n + length c + length a) = length-replicate _ 0 in
    let t₁ = starts_more [] n s s₁ 64 0 (starts_none s 64 e) refl (omega arith) e₁ in
    let t₂ = starts_more n c s₁ s₂ 64 _ t₁ refl (omega arith) e₂ in
    let t₃ = starts_more (n ++ c) a s₂ s₃ 64 _ t₂ (omega arith) (omega arith) e₃ in
    let t₄ = starts_more (n ++ c ++ a) z s₃ s₄ 64 _ t₃ (omega arith) (omega arith) e₄ in
    ap (λ (k : ℕ). take k s₄) (sym (length_packed n c a h)) ∙ t₄.so_far

pub places_law : (s s₁ s₂ s₃ : List ℕ) (x y z : ℕ) → length s ≡ 64
    → s₁ ≡ put 56 (low_bytes 2 x) s
    → s₂ ≡ put 58 (low_bytes 2 y) s₁
    → s₃ ≡ put 60 (low_bytes 2 z) s₂
    → take 62 s₃ ≡ take 56 s ++ low_bytes 2 x ++ low_bytes 2 y ++ low_bytes 2 z
places_law s s₁ s₂ s₃ x y z e e₁ e₂ e₃ =
    let p : List ℕ = take 56 s in
    let lp : length p ≡ 56 = length-take-le 56 s (omega arith) in
    let lx = length_low 2 x in
    let ly = length_low 2 y in
    let lz = length_low 2 z in
    let l₁ = length-append p (low_bytes 2 x) in
    let l₂ = length-append (p ++ low_bytes 2 x) (low_bytes 2 y) in
    let l₃ : length (p ++ low_bytes 2 x ++ low_bytes 2 y ++ low_bytes 2 z) ≡ 62 = omega (arith, length-append (p ++ low_bytes 2 x ++ low_bytes 2 y) (low_bytes 2 z)) in
    let t₁ = starts_more p (low_bytes 2 x) s s₁ 64 56 (starts_take 56 s 64 e (omega arith)) (omega arith) (omega arith) e₁ in
    let t₂ = starts_more (p ++ low_bytes 2 x) (low_bytes 2 y) s₁ s₂ 64 58 t₁ (omega arith) (omega arith) e₂ in
    let t₃ = starts_more (p ++ low_bytes 2 x ++ low_bytes 2 y) (low_bytes 2 z) s₂ s₃ 64 60 t₂ (omega arith) (omega arith) e₃ in
    ap (λ (k : ℕ). take k s₃) (sym l₃) ∙ t₃.so_far

pub crc_law : (s s₁ : List ℕ) (x : ℕ) → length s ≡ 64 → s₁ ≡ put 62 (low_bytes 2 x) s → s₁ ≡ take 62 s ++ low_bytes 2 x
crc_law s s₁ x e e₁ =
    let lp : length (take 62 s) ≡ 62 = length-take-le 62 s (omega arith) in
    let lx = length_low 2 x in
    starts_all (take 62 s ++ low_bytes 2 x) s₁ 64
    (starts_more (take 62 s) (low_bytes 2 x) s s₁ 64 62 (starts_take 62 s 64 e (omega arith)) (omega arith) (omega arith) e₁)
    (omega (arith, length-append (take 62 s) (low_bytes 2 x)))
