-- A state that keeps the rules is fit: each bound out of its rule. Assumes nothing.
use mathlib.Core.Path.{◌≡◌, refl}
use mathlib.Core.Bool.{Bool, true, false, cond}
use Prim.Native.Nat.{ℕ, ◌≤◌}
use lib.Dec.{leb}
use borrow.Author.Tests.{leb-true}
use native.Mathlib.Omega.{arith}
use Rattle.model.specs.declared.Value.TheVariants.{U8, U32}
use Rattle.model.specs.declared.Parameter.TheVariants.{P1301s5, P1301s6, P6132}
use Rattle.model.specs.declared.Verdict.TheVariants.{Inside, Outside, Above, Below}
use Rattle.model.specs.declared.Group.TheVariants.{C, A}
use Rattle.model.specs.declared.State.{State}
use Rattle.model.specs.Settings.{rows, judge, is_inside, in_force, in_ranges, odd_cob, even_cob, between, one_of}
use Rattle.model.specs.Rules.{rules, rule_ranges, rule_lss, rule_upload}
use Rattle.laws.proofs.Tests.{and_l, and_r, within_is}
use Rattle.laws.proofs.Parameters.{range_at}
use Rattle.laws.proofs.Allowed.{id_ok, pending_ok}
use Rattle.rules.specs.Fit.{Fit}

-- a number judged inside an interval is at most its end, and one inside a set is in it
at_most : (lo hi n : ℕ) → is_inside (judge (between lo hi) (U8 n)) ≡ true → n ≤ hi
unfolding judge
at_most lo hi n h = leb-true n hi (go (leb n hi) h)
  where
    go : (b : Bool) → is_inside (cond b (cond (leb lo n) Inside Below) Above) ≡ true → b ≡ true
    go true e = refl
    go false e = e

member : (test : ℕ → Bool) (n : ℕ) → is_inside (judge (one_of test) (U32 n)) ≡ true → test n ≡ true
unfolding judge
member test n h = go (test n) h
  where
    go : (b : Bool) → is_inside (cond b Inside Outside) ≡ true → b ≡ true
    go true e = refl
    go false e = e

-- the ranges alone give the digits, which the rule of the reported flag needs
pub few_digits : (s : State) → rule_ranges s ≡ true → s.settings.application.digits ≤ 4
unfolding rule_ranges rows
few_digits s r = at_most 0 4 _ (range_at (rows A) (in_force s.settings) P6132 refl (and_r (in_ranges (rows C) (in_force s.settings)) _ r))

in_ranges_lem : (s : State) → rules s ≡ true → rule_ranges s ≡ true
unfolding rules
in_ranges_lem s r = search (and_l, and_r) depth 12

progress_ok : (s : State) → rules s ≡ true → leb s.core.lss.progress 3 ≡ true
unfolding rules rule_lss
progress_ok s r = search (and_l, and_r) depth 12

upload_ok : (s : State) → rules s ≡ true → rule_upload s ≡ true
unfolding rules
upload_ok s r = search (and_l, and_r) depth 12

first_cob_lem : (s : State) → rule_ranges s ≡ true → s.settings.communication.srdo.first ≤ 0x180
unfolding rule_ranges rows
first_cob_lem s r =
    let n = s.settings.communication.srdo.first in
    let h = member odd_cob n (range_at (rows C) (in_force s.settings) P1301s5 refl (and_l _ (in_ranges (rows A) (in_force s.settings)) r)) in
    omega (arith, (within_is 0x101 0x17f n (and_l _ _ h)).1)

second_cob_lem : (s : State) → rule_ranges s ≡ true → s.settings.communication.srdo.second ≤ 0x180
unfolding rule_ranges rows
second_cob_lem s r =
    let n = s.settings.communication.srdo.second in
    let h = member even_cob n (range_at (rows C) (in_force s.settings) P1301s6 refl (and_l _ (in_ranges (rows A) (in_force s.settings)) r)) in
    (within_is 0x102 0x180 n (and_l _ _ h)).1

pub fit : (s : State) → rules s ≡ true → Fit s
fit s r =
    record {
      id = (within_is 1 127 _ (id_ok s r)).1;
      pending = (within_is 1 127 _ (pending_ok s r)).1;
      digits = few_digits s (in_ranges_lem s r);
      first = first_cob_lem s (in_ranges_lem s r);
      second = second_cob_lem s (in_ranges_lem s r);
      progress = leb-true _ 3 (progress_ok s r);
      upload = upload_ok s r;
    }
