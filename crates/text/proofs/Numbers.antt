-- std's decimal text of a number is the definition's. Assumes nothing.
use Rattle.std.proofs.Common.{◌≡◌, ℕ, zero, suc, ◌+◌, ◌/◌, ◌%◌, ◌^◌, ◌<◌, Bool, true, false, List, [], ◌∷◌, ◌++◌, eqb, eqb-true, refl, sym, ap, ◌∙◌, append_assoc, append-nil, arith}
use Rattle.std.proofs.lemmas.Bool.{eqb-false}
use Rattle.std.proofs.lemmas.Fmt.{decimal_digit, decimal_step}
use Rattle.std.specs.Fmt as std
use Rattle.model.specs.Program.{digits, decimal}

-- the definition writes the digits before some text
digits_onto : (k n : ℕ) (rest : List ℕ) → n < k → n < 2 ^ 64 → digits k n rest ≡ std.decimal n ++ rest
unfolding digits
digits_onto zero n rest h fits = absurd (omega arith)
digits_onto (suc k) n rest h fits = go (eqb (n / 10) 0) refl (digits_onto k (n / 10) ((48 + n % 10) ∷ rest))
  where
    go : (b : Bool) → eqb (n / 10) 0 ≡ b
        → (n / 10 < k → n / 10 < 2 ^ 64 → digits k (n / 10) ((48 + n % 10) ∷ rest) ≡ std.decimal (n / 10) ++ ((48 + n % 10) ∷ rest))
        → elim b [ true ↦ (48 + n % 10) ∷ rest | false ↦ digits k (n / 10) ((48 + n % 10) ∷ rest) ] ≡ std.decimal n ++ rest
    go true e more =
        let z : n / 10 ≡ 0 = eqb-true (n / 10) 0 e in
        let one : n % 10 ≡ n = omega arith in
        rw (decimal_digit n (omega arith), one) refl
    go false e more =
        let some : n / 10 ≡ 0 → ⊥ = eqb-false (n / 10) 0 e in
        more (omega arith) (omega arith)
        ∙ sym (ap (λ (t : List ℕ). t ++ rest) (decimal_step n (omega arith) fits) ∙ append_assoc (std.decimal (n / 10)) ((48 + n % 10) ∷ []) rest)

pub decimal_same : (n : ℕ) → n < 2 ^ 64 → std.decimal n ≡ decimal n
decimal_same n fits = sym (digits_onto (suc n) n [] (omega arith) fits ∙ append-nil (std.decimal n))
