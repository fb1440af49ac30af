-- `rules::rules` meets its contract: the order of a conjunction does not matter, and the first part that fails decides it. The ranges give the digits that the reading needs. Assumes nothing.
use mathlib.Core.Path.{◌≡◌, refl, sym, ap, ◌∙◌}
use mathlib.Core.Bool.{Bool, true, false, ◌&&◌}
use Rattle.model.specs.declared.State.{State}
use Rattle.model.specs.Rules as Rules
use Rattle.laws.proofs.Tests.{and_r, and_false}
use Rattle.rules.proofs.Fits.{few_digits}
use Rattle.rules.proofs.rules.Goals as goal

-- the rules as they are asked: four, then one by one
abbrev first : State → Bool
first s = Rules.rule_ids s && (Rules.rule_bits s && (Rules.rule_nmt s && Rules.rule_ranges s))

grouped : (a b c d t : Bool) → a && (b && (c && (d && t))) ≡ (a && (b && (c && d))) && t
grouped false b c d t = refl
grouped true false c d t = refl
grouped true true false d t = refl
grouped true true true d t = refl

-- the first of four goes last, and the third before it
moved : (m s r t : Bool) → m && (s && (r && t)) ≡ (s && t) && (r && m)
moved true false r t = refl
moved false false r t = refl
moved true true true true = refl
moved true true true false = refl
moved true true false true = refl
moved true true false false = refl
moved false true true true = refl
moved false true true false = refl
moved false true false true = refl
moved false true false false = refl

module _ (s : State) where
  ordered : Rules.rules s
      ≡ first s && (Rules.rule_start s && (Rules.rule_lss s && (Rules.rule_sync s && (Rules.rule_upload s && (Rules.rule_reported s && Rules.rule_honest s)))))
  unfolding Rules.rules
  ordered =
      grouped (Rules.rule_ids s) (Rules.rule_bits s) (Rules.rule_nmt s) (Rules.rule_ranges s) _
      ∙ ap (λ (t : Bool). first s && t)
      (moved (Rules.rule_honest s) (Rules.rule_start s) (Rules.rule_reported s) _
      ∙ sym (grouped (Rules.rule_start s) (Rules.rule_lss s) (Rules.rule_sync s) (Rules.rule_upload s) _))

  -- one that fails decides, and the signatures decide where none has
  by_first : first s ≡ false → false ≡ Rules.rules s
  by_first h = rw (ordered, h)

  by_start : Rules.rule_start s ≡ false → false ≡ Rules.rules s
  by_start h = rw (ordered, h, and_false (first s))

  by_lss : Rules.rule_lss s ≡ false → false ≡ Rules.rules s
  by_lss h = rw (ordered, h, and_false (Rules.rule_start s), and_false (first s))

  by_sync : Rules.rule_sync s ≡ false → false ≡ Rules.rules s
  by_sync h = rw (ordered, h, and_false (Rules.rule_lss s), and_false (Rules.rule_start s), and_false (first s))

  by_upload : Rules.rule_upload s ≡ false → false ≡ Rules.rules s
  by_upload h =
      rw (ordered, h, and_false (Rules.rule_sync s), and_false (Rules.rule_lss s), and_false (Rules.rule_start s), and_false (first s))

  by_reading : Rules.rule_reported s ≡ false → false ≡ Rules.rules s
  by_reading h =
      rw (ordered, h, and_false (Rules.rule_upload s), and_false (Rules.rule_sync s), and_false (Rules.rule_lss s), and_false (Rules.rule_start s), and_false (first s))

  by_honest : first s ≡ true → Rules.rule_start s ≡ true → Rules.rule_lss s ≡ true → Rules.rule_sync s ≡ true → Rules.rule_upload s ≡ true
      → Rules.rule_reported s ≡ true → Rules.rule_honest s ≡ Rules.rules s
  by_honest a b c d e f = rw (ordered, a, b, c, d, e, f)

  in_range : first s ≡ true → Rules.rule_ranges s ≡ true
  in_range h = and_r (Rules.rule_nmt s) _ (and_r (Rules.rule_bits s) _ (and_r (Rules.rule_ids s) _ h))

pub returns-then-not-rule_ids-rule_bits : goal.returns-then-not-rule_ids-rule_bits
returns-then-not-rule_ids-rule_bits c =
    by_first c.args.s ((rw (c.rule_ids.ensures, c.rule_bits.ensures, c.rule_nmt.ensures, c.rule_ranges.ensures) at c.if-not-rule_ids-rule_bits.true))

pub returns-then-not-rule_start : goal.returns-then-not-rule_start
returns-then-not-rule_start c =
    by_start c.args.s ((rw c.rule_start.ensures at c.if-not-rule_start.true))

pub returns-then-not-rule_lss : goal.returns-then-not-rule_lss
returns-then-not-rule_lss c =
    by_lss c.args.s ((rw c.rule_lss.ensures at c.if-not-rule_lss.true))

pub returns-then-not-rule_sync : goal.returns-then-not-rule_sync
returns-then-not-rule_sync c =
    by_sync c.args.s ((rw c.rule_sync.ensures at c.if-not-rule_sync.true))

pub returns-then-not-rule_upload : goal.returns-then-not-rule_upload
returns-then-not-rule_upload c =
    by_upload c.args.s ((rw c.rule_upload.ensures at c.if-not-rule_upload.true))

pub rule_reported-requires : goal.rule_reported-requires
rule_reported-requires c =
    few_digits c.args.s (in_range c.args.s ((rw (c.rule_ids.ensures, c.rule_bits.ensures, c.rule_nmt.ensures, c.rule_ranges.ensures) at c.if-not-rule_ids-rule_bits.false)))

pub returns-then-not-rule_reported : goal.returns-then-not-rule_reported
returns-then-not-rule_reported c =
    by_reading c.args.s ((rw c.rule_reported.ensures at c.if-not-rule_reported.true))

pub returns : goal.returns
returns c =
    rw c.rule_honest.ensures
    (by_honest c.args.s
    ((rw (c.rule_ids.ensures, c.rule_bits.ensures, c.rule_nmt.ensures, c.rule_ranges.ensures) at c.if-not-rule_ids-rule_bits.false))
    ((rw c.rule_start.ensures at c.if-not-rule_start.false))
    ((rw c.rule_lss.ensures at c.if-not-rule_lss.false))
    ((rw c.rule_sync.ensures at c.if-not-rule_sync.false))
    ((rw c.rule_upload.ensures at c.if-not-rule_upload.false))
    ((rw c.rule_reported.ensures at c.if-not-rule_reported.false)))
