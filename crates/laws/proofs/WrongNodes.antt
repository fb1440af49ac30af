-- No wrong node meets the third demand: for each, the run in which it parts from that. What it then has in force is set against what its own log tells,
-- or what it sends against what a safety pair needs. The runs are computed. Assumes nothing.
use Prim.Native.Nat.{ℕ}
use mathlib.Core.Path.{◌≡◌, refl, sym, ap, ◌∙◌}
use mathlib.Core.Bool.{Bool, true, false, ◌&&◌, false≢true}
use mathlib.Core.List.{List, [], ◌∷◌}
use lib.Dec.{eqb, ltb}
use lib.ListN.{length}
use borrow.Author.Tests.{eqb-false, ltb-true}
use Rattle.model.specs.declared.Value.{Value}
use Rattle.model.specs.declared.Value.TheVariants.{U8, U16, U32}
use Rattle.model.specs.declared.Parameter.{Parameter}
use Rattle.model.specs.declared.Parameter.TheVariants.{P1017, P1301s5, P51FE}
use Rattle.model.specs.declared.Group.TheVariants.{A}
use Rattle.model.specs.declared.Service.{Service}
use Rattle.model.specs.declared.Fv.{Fv}
use Rattle.model.specs.declared.Frame.{Frame}
use Rattle.model.specs.declared.Settings.{Settings}
use Rattle.model.specs.Bytes.{Bytes}
use Rattle.model.specs.Values.{number_of}
use Rattle.model.specs.Settings.{in_force}
use Rattle.model.specs.Validity.{signs}
use Rattle.model.specs.Store.{record_n, build, read}
use Rattle.model.specs.Parts.{address}
use Rattle.model.specs.Step.{step, done, power_on_refusal, output_size, zero_store}
use Rattle.model.specs.Run.{World, Node, begun_by, run_by}
use Rattle.model.specs.History.{deeds, value}
use Rattle.model.specs.Pairs.{safety, Safe, other, pair}
use Rattle.model.specs.Demands.{Meets}
use Rattle.model.proofs.Everything.{everything}
use Rattle.model.proofs.Replay.{writes, commands, lss, a_tick, identity, calls}
use Rattle.laws.specs.Nodes.{serving, saves_once, idles, starts_blindly, keeps_validity, keeps_at_reset, refuses_resets, keeps_its_id, always_pairs}
use Rattle.laws.proofs.Tests.{and_l, and_r}

-- ---- How a node is found out

-- the world after a power-on on a store and then some events
abbrev pub world_on : Node → List ℕ → List (List ℕ) → World
world_on node st es = run_by node (calls es) (begun_by node (identity 0 0 0 0) output_size st)

-- whether a list is one of bytes
abbrev all_bytes : List ℕ → Bool
all_bytes [] = true
all_bytes (b ∷ bs) = ltb b 256 && all_bytes bs

bytes_are : (l : List ℕ) → all_bytes l ≡ true → Bytes l
bytes_are [] h = tt
bytes_are (b ∷ bs) h = (ltb-true b 256 (and_l (ltb b 256) (all_bytes bs) h), bytes_are bs (and_r (ltb b 256) (all_bytes bs) h))

-- it has the value x in force for q, and its log tells y
found_out : (node : Node) (st : List ℕ) (es : List (List ℕ)) (q : Parameter) (x y : Value)
    → in_force (world_on node st es).state.settings q ≡ x → value (read st) q (deeds (read st) (world_on node st es).log) ≡ y
    → eqb (number_of x) (number_of y) ≡ false → power_on_refusal output_size (length st) ≡ done → all_bytes st ≡ true → Meets node → ⊥
found_out node st es q x y has told differ e b m =
    eqb-false (number_of x) (number_of y) differ
    (ap number_of (sym has ∙ (m (identity 0 0 0 0) output_size st (calls es) e (bytes_are st b)).values q ∙ told))

-- a safety frame while A is not signed
unsafe : {v : Service} {k : Settings} {fv : Fv} {a : Frame} {fs : List Frame} → Safe v k fv (a ∷ fs) → safety a ≡ true → signs A (in_force k) ≡ false → ⊥
unsafe (other h t) e n = false≢true (sym h ∙ e)
unsafe (pair p t) e n = false≢true (sym n ∙ p.signed A)

-- ---- The runs

-- the save word, and group C's reset
abbrev save : List ℕ
save = writes 4 0x1010 1 0x65766173

abbrev reset : List ℕ
reset = commands 130 0

-- a store that a right node wrote, with 1017h at 500; and one whose N says 5
abbrev five_hundred : List ℕ
five_hundred = (world_on (serving step) zero_store (writes 2 0x1017 0 500 ∷ save ∷ [])).store

abbrev five : List ℕ
five = build (record_n (address 5 3)) [] []

-- 500 is saved and then 7; after a reset it has 500
pub saves_once_lem : Meets saves_once → ⊥
unfolding everything
saves_once_lem =
    found_out saves_once zero_store (writes 2 0x1017 0 500 ∷ save ∷ writes 2 0x1017 0 7 ∷ save ∷ reset ∷ []) P1017 (U16 500) (U16 7)
    refl refl refl refl refl

-- 500 was saved before, and it has the default
pub idles_found : Meets idles → ⊥
unfolding everything
idles_found = found_out idles five_hundred [] P1017 (U16 0) (U16 500) refl refl refl refl refl

-- N says 5, and it boots up as 1
pub starts_blindly_lem : Meets starts_blindly → ⊥
unfolding everything
starts_blindly_lem = found_out starts_blindly five [] P1301s5 (U32 0x101) (U32 0x109) refl refl refl refl refl

-- 500 is written and not saved, and the reset, which may not be refused, is
pub refuses_resets_lem : Meets refuses_resets → ⊥
unfolding everything
refuses_resets_lem = found_out refuses_resets zero_store (writes 2 0x1017 0 500 ∷ reset ∷ []) P1017 (U16 500) (U16 0) refl refl refl refl refl

-- 11h is answered, and the reset boots up as 1
pub keeps_its_id_lem : Meets keeps_its_id → ⊥
unfolding everything
keeps_its_id_lem =
    found_out keeps_its_id zero_store (lss (4 ∷ 1 ∷ []) ∷ lss (0x11 ∷ 5 ∷ []) ∷ reset ∷ []) P1301s5 (U32 0x101) (U32 0x109) refl refl refl refl refl

-- signed off, and then the digits are written again
pub keeps_validity_lem : Meets keeps_validity → ⊥
unfolding everything
keeps_validity_lem =
    found_out keeps_validity zero_store (writes 2 0x51ff 1 0xea44 ∷ writes 1 0x51fe 0 0xa5 ∷ writes 1 0x6132 1 3 ∷ []) P51FE (U8 0xa5) (U8 0)
    refl refl refl refl refl

-- 500 is written and not saved, and the reset brings it back
pub keeps_at_reset_lem : Meets keeps_at_reset → ⊥
unfolding everything
keeps_at_reset_lem = found_out keeps_at_reset zero_store (writes 2 0x1017 0 500 ∷ reset ∷ []) P1017 (U16 500) (U16 0) refl refl refl refl refl

-- a frame on 101h, while no signature matches
pub always_pairs_lem : Meets always_pairs → ⊥
unfolding everything
always_pairs_lem m = unsafe (m (identity 0 0 0 0) output_size zero_store (calls (a_tick ∷ [])) refl (bytes_are zero_store refl)).pairs.0 refl refl
