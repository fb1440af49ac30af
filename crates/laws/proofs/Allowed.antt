-- What a change that is made can count on: a service changes nothing but what document 01 allows it to. Assumes nothing.
use mathlib.Core.Path.{◌≡◌, refl}
use mathlib.Core.Bool.{true, false, ◌&&◌, ◌||◌, not}
use mathlib.Core.List.{List}
use Prim.Native.Nat.{ℕ}
use lib.Dec.{eqb}
use borrow.Author.Tests.{eqb-true, not-false}
use Rattle.std.proofs.Common.{Option, Result, Ok, Err}
use Rattle.model.specs.declared.Value.{Value}
use Rattle.model.specs.declared.Parameter.{Parameter}
use Rattle.model.specs.declared.Group.{Group}
use Rattle.model.specs.declared.Group.TheVariants.{C, A}
use Rattle.model.specs.declared.Verdict.{Verdict}
use Rattle.model.specs.declared.Verdict.TheVariants.{Inside, Outside, Above, Below}
use Rattle.model.specs.declared.Entry.{Entry}
use Rattle.model.specs.declared.Entry.TheVariants.{Fixed, Name, Shown, Setting, SaveWord, LoadWord}
use Rattle.model.specs.declared.Missing.{Missing}
use Rattle.model.specs.declared.Change.{Change}
use Rattle.model.specs.declared.Change.TheVariants.{Keep, Write, Save, TakeOut, Load, SavePending}
use Rattle.model.specs.declared.Service.{Service}
use Rattle.model.specs.declared.Service.TheVariants.{Nothing, Tick, Sample, Nmt, Sync, Remote, Sdo, Lss}
use Rattle.model.specs.declared.SdoRequest.{SdoRequest}
use Rattle.model.specs.declared.SdoRequest.TheVariants as R
use Rattle.model.specs.declared.LssRequest.{LssRequest}
use Rattle.model.specs.declared.LssRequest.TheVariants.{SwitchMode, Select, SetNodeId, SetBitIndex, StorePending, AskIdentity, AskNodeId, OtherLss}
use Rattle.model.specs.declared.State.{State}
use Rattle.model.specs.Values.{decoded}
use Rattle.model.specs.Settings.{row, has, in_force, judge, is_inside, in_ranges, rows}
use Rattle.model.specs.Validity.{honest, sound}
use Rattle.model.specs.Store.{node_id, bit_index, read}
use Rattle.model.specs.Parts.{id_of, is_operational, is_pre_operational}
use Rattle.model.specs.Dictionary.{find}
use Rattle.model.specs.Nmt.{is_for, reset_asked, nmt_change}
use Rattle.model.specs.Sdo.{range_code, unearned, write_code, asked, checked_write, change_in, sdo_change, serves}
use Rattle.model.specs.Lss.{in_configuration, lss_change}
use Rattle.model.specs.Rules.{rules, rule_ids, rule_bits, rule_ranges, rule_honest}
use Rattle.model.specs.Step.{change_of}
use Rattle.laws.proofs.Tests.{cond_case, and_l, and_r, and_both, hit_case, hit_zero}
use Rattle.laws.proofs.Values.{decoded_kind, decoded_holds}
use Rattle.laws.proofs.Parameters.{Fine}
use Rattle.laws.proofs.Loading.{address_ok}

-- ---- what the rules say

pub id_ok : (s : State) → rules s ≡ true → node_id s.core.active.id ≡ true
unfolding rules rule_ids
id_ok s r = search (and_l, and_r)

pub pending_ok : (s : State) → rules s ≡ true → node_id s.core.pending.id ≡ true
unfolding rules rule_ids
pending_ok s r = search (and_l, and_r)

pub pending_bit_ok : (s : State) → rules s ≡ true → bit_index s.core.pending.bit ≡ true
unfolding rules rule_bits
pending_bit_ok s r = search (and_l, and_r)

-- each group of the values in force is sound
pub sound_ok : (s : State) → rules s ≡ true → (g : Group) → sound g (in_force s.settings) ≡ true
unfolding rules rule_ranges rule_honest sound
sound_ok s r C = and_both (in_ranges (rows C) (in_force s.settings)) (honest C (in_force s.settings)) (search (and_l, and_r) depth 7) (search (and_l, and_r) depth 7)
sound_ok s r A = and_both (in_ranges (rows A) (in_force s.settings)) (honest A (in_force s.settings)) (search (and_l, and_r) depth 7) (search (and_l, and_r) depth 7)

-- ---- an accepted write

-- its value may stand in the parameter, a starred one is not written in Operational, and A5h makes no false validity byte
pub record Written (p : Parameter) (v : Value) (s : State) : Type 0 where
  pub fine : Fine p v
  pub unlocked : (row p).star && is_operational s.core ≡ false
  pub honestly : unearned p v s ≡ false

-- what each change that is made can count on
abbrev pub Allowed : Change → State → Type 0
Allowed Keep s = Unit {0}
Allowed (Write p v) s = Written p v s
Allowed (Save gs) s = rules s ≡ true
Allowed (TakeOut gs) s = is_operational s.core ≡ false
Allowed (Load gs id) s = (node_id id ≡ true) × (has gs C ≡ true)
Allowed SavePending s = rules s ≡ true

range_told : (v : Verdict) → not (eqb (range_code v) 0) || not (not (is_inside v)) ≡ true
range_told Inside = refl
range_told Outside = refl
range_told Above = refl
range_told Below = refl

pub asked_allowed : (s : State) → rules s ≡ true → (f : Result Entry Missing) (size : Option ℕ) (d : ℕ) → write_code f size d s ≡ 0 → Allowed (asked f d) s
unfolding write_code
asked_allowed s r (Err m) size d e = tt
asked_allowed s r (Ok (Fixed v)) size d e = tt
asked_allowed s r (Ok Name) size d e = tt
asked_allowed s r (Ok (Shown l)) size d e = tt
asked_allowed s r (Ok (Setting p)) size d e =
    let n = hit_zero _ (rw (range_told (judge (row p).range (decoded (row p).kind d))) refl) e in
    record {
      fine =
          record {
            fits = record { kind = decoded_kind (row p).kind d; holds = decoded_holds (row p).kind d };
            inside = not-false _ n.1.1.1.0;
          };
      unlocked = n.0;
      honestly = n.1.1.1.1.0;
    }
asked_allowed s r (Ok (SaveWord gs)) size d e = r
asked_allowed s r (Ok (LoadWord gs)) size d e = let n = hit_zero _ refl e in n.0

-- ---- each service

abbrev May : State → Change → Type 0
May s c = Allowed c s

sdo_allowed : (s : State) → rules s ≡ true → (q : SdoRequest) → Allowed (sdo_change q s) s
unfolding sdo_change checked_write
sdo_allowed s r (R.Download index sub size d) =
    cond_case (λ (x : Result Change ℕ). Allowed (change_in x) s) (eqb (write_code (find index sub) size d s) 0)
    (λ e. asked_allowed s r (find index sub) size d (eqb-true _ 0 e))
    (λ _. tt)
sdo_allowed s r (R.Upload index sub) = tt
sdo_allowed s r (R.UploadSegment toggle) = tt
sdo_allowed s r R.ClientAbort = tt
sdo_allowed s r R.DownloadSegment = tt
sdo_allowed s r (R.Unknown index sub) = tt

lss_allowed : (s : State) → rules s ≡ true → (q : LssRequest) → Allowed (lss_change q s) s
unfolding lss_change
lss_allowed s r (Select n number) = tt
lss_allowed s r (SwitchMode mode) = tt
lss_allowed s r (SetNodeId id) = tt
lss_allowed s r (SetBitIndex table bit) = tt
lss_allowed s r StorePending = cond_case (May s) (in_configuration s) (λ _. r) (λ _. tt)
lss_allowed s r (AskIdentity n) = tt
lss_allowed s r AskNodeId = tt
lss_allowed s r OtherLss = tt

pub change_allowed : (s : State) (st : List ℕ) → rules s ≡ true → (v : Service) → Allowed (change_of v s (read st)) s
unfolding change_of nmt_change reset_asked
change_allowed s st r Nothing = tt
change_allowed s st r Tick = tt
change_allowed s st r (Sample fv) = tt
change_allowed s st r (Nmt command to) =
    cond_case (May s) (is_for to (id_of s))
    (λ _. hit_case (May s) _ _ ((λ _. ((address_ok st).0, refl)), ((λ _. (pending_ok s r, refl)), tt)) tt)
    (λ _. tt)
change_allowed s st r Sync = tt
change_allowed s st r (Remote to) = tt
change_allowed s st r (Sdo to q) = cond_case (May s) (serves to s) (λ _. sdo_allowed s r q) (λ _. tt)
change_allowed s st r (Lss q) = cond_case (May s) (is_pre_operational s.core) (λ _. lss_allowed s r q) (λ _. tt)
