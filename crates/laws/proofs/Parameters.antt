-- The seventeen saved parameters: what may stand in each, and that the values in force are read back as they were set. Assumes nothing.
use mathlib.Core.Path.{◌≡◌, refl, sym, ap, ◌∙◌, subst}
use mathlib.Core.Bool.{Bool, true, false, ◌&&◌, ◌||◌, false≢true}
use mathlib.Core.List.{List, [], ◌∷◌}
use Prim.Native.Nat.{ℕ, zero, suc, ◌+◌, ◌*◌, ◌%◌, ◌≤◌}
use native.Mathlib.Omega.{arith}
use lib.Dec.{ltb, lit<, lit≤}
use lib.ListN.{get_or}
use lib.Ieee.{Float, binary32, of_bits}
use lib.Ieee.Bits.{of_bits-fits}
use borrow.Author.Tests.{eqb-true, le-leb, ltb-false}
use Rattle.model.specs.declared.Value.{Value}
use Rattle.model.specs.declared.Value.TheVariants.{U8, U16, U32, Integer32, Real32}
use Rattle.model.specs.declared.Kind.{Kind}
use Rattle.model.specs.declared.Kind.TheVariants as K
use Rattle.model.specs.declared.Parameter.{Parameter}
use Rattle.model.specs.declared.Parameter.TheVariants.{P1017, P1301s1, P1301s2, P1301s3, P1301s5, P1301s6, P1800s2, P1800s5, P13FE, P13FF, P2330, P6121, P6123, P6124, P6132, P51FE, P51FF}
use Rattle.model.specs.declared.Group.{Group}
use Rattle.model.specs.declared.Group.TheVariants.{C, A}
use Rattle.model.specs.declared.Settings.{Settings}
use Rattle.model.specs.Values.{kind_of, number_of, typed, float_of}
use Rattle.model.specs.Reading.{judge_real}
use Rattle.model.specs.Settings.{row, table, same, among, same_group, rows, in_force, Now, stays, becomes, whole, float, altered, made, blank, first_cob, second_cob, judge, is_inside, in_ranges}
use Rattle.model.specs.Validity.{validity_of}
use Rattle.model.specs.Store.{default_for}
use Rattle.laws.proofs.Tests.{cond_case, and_l, and_r, and_both}
use Rattle.laws.proofs.Values.{Holds}

-- ---- the table

-- each parameter stands in its row
row_back : (p : Parameter) → get_or table (row p).number P1017 ≡ p
row_back P1017 = refl
row_back P1301s1 = refl
row_back P1301s2 = refl
row_back P1301s3 = refl
row_back P1301s5 = refl
row_back P1301s6 = refl
row_back P1800s2 = refl
row_back P1800s5 = refl
row_back P13FE = refl
row_back P13FF = refl
row_back P2330 = refl
row_back P6121 = refl
row_back P6123 = refl
row_back P6124 = refl
row_back P6132 = refl
row_back P51FE = refl
row_back P51FF = refl

-- so one row tells a parameter from all others
pub same_eq : (p q : Parameter) → same p q ≡ true → p ≡ q
same_eq p q h = sym (row_back p) ∙ ap (λ (n : ℕ). get_or table n P1017) (eqb-true (row p).number (row q).number h) ∙ row_back q

abbrev pub every : (Parameter → Bool) → List Parameter → Bool
every test [] = true
every test (p ∷ ps) = test p && every test ps

every_at : (test : Parameter → Bool) (ps : List Parameter) (n : ℕ) (d : Parameter) → test d ≡ true → every test ps ≡ true
    → test (get_or ps n d) ≡ true
every_at test [] n d t h = t
every_at test (p ∷ ps) zero d t h = and_l (test p) (every test ps) h
every_at test (p ∷ ps) (suc n) d t h = every_at test ps n d t (and_r (test p) (every test ps) h)

-- and what a look through the table shows holds of every parameter
pub by_table : (test : Parameter → Bool) → every test table ≡ true → (p : Parameter) → test p ≡ true
by_table test h p =
    subst (λ (q : Parameter). test q ≡ true) (row_back p)
    (every_at test table (row p).number P1017 (and_l (test P1017) _ h) h)

pub group_eq : (g h : Group) → same_group g h ≡ true → g ≡ h
group_eq C C e = refl
group_eq C A e = cc
group_eq A C e = cc
group_eq A A e = refl

pub in_rows : (p : Parameter) → among (rows (row p).group) p ≡ true
unfolding rows
in_rows p = by_table (λ (q : Parameter). among (rows (row q).group) q) refl p

-- ---- what may stand in a parameter

-- a value of its type
abbrev pub Typed : Parameter → Value → Type 0
Typed p v = kind_of v ≡ (row p).kind

-- which that type holds
pub record Fits (p : Parameter) (v : Value) : Type 0 where
  pub kind : Typed p v
  pub holds : Holds v

-- and which is in its range
pub record Fine (p : Parameter) (v : Value) : Type 0 where
  pub fits : Fits p v
  pub inside : is_inside (judge (row p).range v) ≡ true

-- every parameter has a value that fits it, or at least one of its type
abbrev pub AllFit : (Parameter → Value) → Type 0
AllFit f = (q : Parameter) → Fits q (f q)

abbrev pub AllTyped : (Parameter → Value) → Type 0
AllTyped f = (q : Parameter) → Typed q (f q)

pub all_typed : (f : Parameter → Value) → AllFit f → AllTyped f
all_typed f h q = (h q).kind

fine : {p : Parameter} {v : Value} → Typed p v → Holds v → is_inside (judge (row p).range v) ≡ true → Fine p v
fine k h i = record { fits = record { kind = k; holds = h }; inside = i }

-- each of some rows in range is in range
pub range_at : (ps : List Parameter) (f : Parameter → Value) (p : Parameter) → among ps p ≡ true → in_ranges ps f ≡ true
    → is_inside (judge (row p).range (f p)) ≡ true
unfolding in_ranges
range_at [] f p m h = cc
range_at (q ∷ qs) f p m h = go (same p q) refl m (λ n. range_at qs f p n (and_r (is_inside (judge (row q).range (f q))) _ h))
  where
    go : (b : Bool) → same p q ≡ b → b || among qs p ≡ true
        → (among qs p ≡ true → is_inside (judge (row p).range (f p)) ≡ true)
        → is_inside (judge (row p).range (f p)) ≡ true
    go true e m further =
        subst (λ (x : Parameter). is_inside (judge (row x).range (f x)) ≡ true) (sym (same_eq p q e)) (and_l _ (in_ranges qs f) h)
    go false e m further = further m

pub ranges_from : (ps : List Parameter) (f : Parameter → Value) → ((p : Parameter) → is_inside (judge (row p).range (f p)) ≡ true)
    → in_ranges ps f ≡ true
unfolding in_ranges
ranges_from [] f h = refl
ranges_from (p ∷ ps) f h = and_both _ (in_ranges ps f) (h p) (ranges_from ps f h)

-- 0 in a validity byte
pub zero_fine : (g : Group) → Fine (validity_of g) (U8 0)
unfolding judge
zero_fine C = fine refl (lit< tt) refl
zero_fine A = fine refl (lit< tt) refl

first_fine : (n : ℕ) → 0x101 ≤ n → n ≤ 0x17f → n % 2 ≡ 1 → Fine P1301s5 (U32 n)
unfolding judge
first_fine n a b c = fine refl (omega arith) (rw (le-leb _ _ a, le-leb _ _ b, c) refl)

second_fine : (n : ℕ) → 0x102 ≤ n → n ≤ 0x180 → n % 2 ≡ 0 → Fine P1301s6 (U32 n)
unfolding judge
second_fine n a b c = fine refl (omega arith) (rw (le-leb _ _ a, le-leb _ _ b, c) refl)

-- a default
pub default_fine : (p : Parameter) (id : ℕ) → 1 ≤ id → id ≤ 127 → Fine p (default_for id p)
unfolding judge judge_real of_bits first_cob second_cob
default_fine P1017 id a b = fine refl (lit< tt) refl
default_fine P1301s1 id a b = fine refl (lit< tt) refl
default_fine P1301s2 id a b = fine refl (lit< tt) refl
default_fine P1301s3 id a b = fine refl (lit< tt) refl
default_fine P1301s5 id a b =
    cond_case (λ (n : ℕ). Fine P1301s5 (U32 n)) (ltb 64 id) (λ _. first_fine 0x17f (lit≤ tt) (lit≤ tt) refl)
    (λ h. let k = ltb-false 64 id h in first_fine (0xff + 2 * id) (omega arith) (omega arith) (omega arith))
default_fine P1301s6 id a b =
    cond_case (λ (n : ℕ). Fine P1301s6 (U32 n)) (ltb 64 id) (λ _. second_fine 0x180 (lit≤ tt) (lit≤ tt) refl)
    (λ h. let k = ltb-false 64 id h in second_fine (0x100 + 2 * id) (omega arith) (omega arith) (omega arith))
default_fine P1800s2 id a b = fine refl (lit< tt) refl
default_fine P1800s5 id a b = fine refl (lit< tt) refl
default_fine P13FE id a b = fine refl (lit< tt) refl
default_fine P13FF id a b = fine refl (lit< tt) refl
default_fine P2330 id a b = fine refl (lit< tt) refl
default_fine P6121 id a b = fine refl (of_bits-fits binary32 0) refl
default_fine P6123 id a b = fine refl (of_bits-fits binary32 0x43200000) refl
default_fine P6124 id a b = fine refl (of_bits-fits binary32 0) refl
default_fine P6132 id a b = fine refl (lit< tt) refl
default_fine P51FE id a b = fine refl (lit< tt) refl
default_fine P51FF id a b = fine refl (lit< tt) refl

-- ---- the values in force

-- each is of its parameter's type
pub in_force_kind : (k : Settings) → AllTyped (in_force k)
in_force_kind k P1017 = refl
in_force_kind k P1301s1 = refl
in_force_kind k P1301s2 = refl
in_force_kind k P1301s3 = refl
in_force_kind k P1301s5 = refl
in_force_kind k P1301s6 = refl
in_force_kind k P1800s2 = refl
in_force_kind k P1800s5 = refl
in_force_kind k P13FE = refl
in_force_kind k P13FF = refl
in_force_kind k P2330 = refl
in_force_kind k P6121 = refl
in_force_kind k P6123 = refl
in_force_kind k P6124 = refl
in_force_kind k P6132 = refl
in_force_kind k P51FE = refl
in_force_kind k P51FF = refl

-- so it fits if its type holds it
pub in_force_fits : (k : Settings) → ((q : Parameter) → Holds (in_force k q)) → AllFit (in_force k)
in_force_fits k h q = record { kind = in_force_kind k q; holds = h q }

-- and after an alteration
abbrev pub after : Now → Value → Value
after stays v = v
after (becomes w) v = w

-- P of the new value, where there is one
abbrev pub Becomes : (Parameter → Value → Type 0) → Parameter → Now → Type 0
Becomes P p stays = Unit {0}
Becomes P p (becomes v) = P p v

-- a value without sign is what its number stands for
abbrev plain : Kind → Bool
plain K.U8 = true
plain K.U16 = true
plain K.U32 = true
plain K.Integer32 = false
plain K.Real32 = false

typed_is : (k : Kind) (v : Value) → kind_of v ≡ k → plain k ≡ true → typed k (number_of v) ≡ v
typed_is k (U8 n) e h = subst (λ (x : Kind). typed x n ≡ U8 n) e refl
typed_is k (U16 n) e h = subst (λ (x : Kind). typed x n ≡ U16 n) e refl
typed_is k (U32 n) e h = subst (λ (x : Kind). typed x n ≡ U32 n) e refl
typed_is k (Integer32 z) e h = absurd (false≢true (ap plain e ∙ h))
typed_is k (Real32 x) e h = absurd (false≢true (ap plain e ∙ h))

whole_after : (p : Parameter) (now : Now) (n : ℕ) → plain (row p).kind ≡ true → Becomes Typed p now
    → typed (row p).kind (whole now n) ≡ after now (typed (row p).kind n)
whole_after p stays n e h = refl
whole_after p (becomes v) n e h = typed_is (row p).kind v h e

real_is : (v : Value) → kind_of v ≡ K.Real32 → Real32 (float_of v) ≡ v
real_is (U8 n) e = cc
real_is (U16 n) e = cc
real_is (U32 n) e = cc
real_is (Integer32 z) e = cc
real_is (Real32 x) e = refl

float_after : (p : Parameter) (now : Now) (x : Float) → (row p).kind ≡ K.Real32 → Becomes Typed p now
    → Real32 (float now x) ≡ after now (Real32 x)
float_after p stays x e h = refl
float_after p (becomes v) x e h = real_is v (h ∙ e)

pub altered_is : (now : Parameter → Now) (k : Settings) → ((p : Parameter) → Becomes Typed p (now p)) → (p : Parameter)
    → in_force (altered now k) p ≡ after (now p) (in_force k p)
altered_is now k h P1017 = whole_after P1017 (now P1017) _ refl (h P1017)
altered_is now k h P1301s1 = whole_after P1301s1 (now P1301s1) _ refl (h P1301s1)
altered_is now k h P1301s2 = whole_after P1301s2 (now P1301s2) _ refl (h P1301s2)
altered_is now k h P1301s3 = whole_after P1301s3 (now P1301s3) _ refl (h P1301s3)
altered_is now k h P1301s5 = whole_after P1301s5 (now P1301s5) _ refl (h P1301s5)
altered_is now k h P1301s6 = whole_after P1301s6 (now P1301s6) _ refl (h P1301s6)
altered_is now k h P1800s2 = whole_after P1800s2 (now P1800s2) _ refl (h P1800s2)
altered_is now k h P1800s5 = whole_after P1800s5 (now P1800s5) _ refl (h P1800s5)
altered_is now k h P13FE = whole_after P13FE (now P13FE) _ refl (h P13FE)
altered_is now k h P13FF = whole_after P13FF (now P13FF) _ refl (h P13FF)
altered_is now k h P2330 = whole_after P2330 (now P2330) _ refl (h P2330)
altered_is now k h P6121 = float_after P6121 (now P6121) _ refl (h P6121)
altered_is now k h P6123 = float_after P6123 (now P6123) _ refl (h P6123)
altered_is now k h P6124 = float_after P6124 (now P6124) _ refl (h P6124)
altered_is now k h P6132 = whole_after P6132 (now P6132) _ refl (h P6132)
altered_is now k h P51FE = whole_after P51FE (now P51FE) _ refl (h P51FE)
altered_is now k h P51FF = whole_after P51FF (now P51FF) _ refl (h P51FF)

-- settings made of values have those values, and are made of those that they have
pub made_is : (f : Parameter → Value) → AllTyped f → (p : Parameter) → in_force (made f) p ≡ f p
made_is f h p = altered_is (λ (q : Parameter). becomes (f q)) blank h p

pub made_back : (k : Settings) → made (in_force k) ≡ k
made_back k = refl
