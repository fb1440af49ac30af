-- What a record leaves, as the functions of the reader have it, and records one after the other. Assumes nothing.
use Rattle.std.proofs.lemmas.List.{take-append-drop}
use Rattle.std.proofs.Common.{◌≡◌, ◌≢◌, ℕ, ◌+◌, ◌-◌, ◌%◌, ◌^◌, ◌<◌, ◌≤◌, Bool, true, false, nat_lt, List, [], ◌∷◌, ◌++◌, length, take, drop, sym, refl, ap, ap₂, ◌∙◌, append_assoc, append-nil, arith, length-append, length-take, length-take-le, min, subst, ltb-false, ltb-true, le-ltb, lt-ltb}
use Rattle.model.specs.Run.{Call, Line, World, sent_in, run, continued}
use Rattle.model.specs.Program.{line_text, end_line, records}
use Rattle.wire.proofs.Puts.{take_put}
use Rattle.wire.proofs.Lay.{tail_all}
use Rattle.text.specs.declared.Text.{Text}
use Rattle.text.specs.Written.{Wrote}
use Rattle.program.specs.declared.Turn.{Turn}
use Rattle.program.specs.Turns.{calling, world, Turned}
use Rattle.events.specs.declared.Run.{Run}
use Rattle.events.specs.Reads.{Kept, waits, kept, goes, stays, noted, all_noted, handed, Roomy, Went, Took}
use Rattle.events.proofs.Cut.{next_record, joined}

-- ---- One after the other

run_append : (cs ds : List Call) (w : World) → run (cs ++ ds) w ≡ run ds (run cs w)
unfolding run continued
run_append [] ds w = refl
run_append (c ∷ cs) ds w = run_append cs ds (continued c w)

noted_append : (news olds : List Line) (k : Kept) → all_noted (news ++ olds) k ≡ all_noted news (all_noted olds k)
unfolding all_noted
noted_append [] olds k = refl
noted_append (l ∷ news) olds k = ap (noted l) (noted_append news olds k)

handed_append : (news olds : List Line) (k : Kept) → handed (news ++ olds) k ≡ handed olds k ++ handed news (all_noted olds k)
unfolding handed
handed_append [] olds k = sym (append-nil (handed olds k))
handed_append (l ∷ news) olds k =
    ap₂ (λ (t : List ℕ) (j : Kept). t ++ goes j.waits) (handed_append news olds k) (noted_append news olds k)
    ∙ append_assoc (handed olds k) (handed news (all_noted olds k)) (goes (all_noted news (all_noted olds k)).waits)

-- where two texts are none, each is none
neither : (a b : List ℕ) → a ++ b ≡ [] → (a ≡ []) × (b ≡ [])
neither [] b e = (refl, e)
neither (x ∷ a) b e = let z : length (x ∷ (a ++ b)) ≡ 0 = ap length e in absurd (omega arith)

-- no records
pub none_went : (r : Run) → Went [] r r
unfolding run all_noted
none_went r = record { lines = []; goes_on = λ log. refl; keeps = refl; closed = λ h. h; untried = λ h. refl }

-- some, and then some more
pub then_went : {cs ds : List Call} {r q p : Run} → Went cs r q → Went ds q p → Went (cs ++ ds) r p
then_went {cs} {ds} {r} {q} {p} w v =
    record {
      lines = v.lines ++ w.lines;
      goes_on = λ log.
          run_append cs ds (world r.state r.store.now log)
          ∙ ap (run ds) (w.goes_on log)
          ∙ v.goes_on (w.lines ++ log)
          ∙ ap (world p.state p.store.now) (sym (append_assoc v.lines w.lines log));
      keeps = v.keeps ∙ ap (all_noted v.lines) w.keeps ∙ sym (noted_append v.lines w.lines (kept r));
      closed = λ h. w.closed (v.closed h);
      untried = λ h.
          let n = neither _ _ (sym (handed_append v.lines w.lines (kept r)) ∙ h) in
          v.untried (ap (handed v.lines) w.keeps ∙ n.1) ∙ w.untried n.0;
    }

-- ---- Room

module _ (r : Run) where
  pub waiting : length (waits r) ≡ r.text.len
  waiting = length-take-le r.text.len r.text.bytes.now (omega (arith, r.fits))

  -- text that lacks room goes, all of it
  all_goes : 16216 < r.text.len → goes (waits r) ≡ waits r
  unfolding goes
  all_goes h = rw (lt-ltb 16216 (length (waits r)) (omega (arith, waiting))) refl

  pub none_stays : 16216 < r.text.len → stays (waits r) ≡ []
  unfolding stays
  none_stays h = rw (lt-ltb 16216 (length (waits r)) (omega (arith, waiting))) refl

  -- other text stays
  pub all_stays : r.text.len ≤ 16216 → stays (waits r) ≡ waits r
  unfolding stays
  all_stays h = rw (le-ltb 16216 (length (waits r)) (omega (arith, waiting))) refl

  -- where nothing goes, there was room
  none_goes : goes (waits r) ≡ [] → r.text.len ≤ 16216
  none_goes none = go (nat_lt 16216 r.text.len) refl
    where
      go : (b : Bool) → nat_lt 16216 r.text.len ≡ b → r.text.len ≤ 16216
      go true e =
          let h = ltb-true 16216 r.text.len e in
          absurd (omega (arith, waiting, h, ap length (sym (all_goes h) ∙ none)))
      go false e = ltb-false 16216 r.text.len e

-- ---- One record

-- the text up to the end of what was written
pub text_written : {k : ℕ} {text : List ℕ} {t u : Text} → Wrote k text t u → take u.len u.bytes.now ≡ take t.len t.bytes.now ++ text
text_written {k} {text} {t} {u} w =
    let p = w.written in
    rw (p.place, p.bytes) (take_put t.len text t.bytes.now (omega (arith, w.fits, w.long, p.place)))

-- one record, by its call
pub one_went : {e : List ℕ} {r m q : Run} {t : Turn} → Roomy r m → Turned e q.records m.state m.store.now m.text q.text q.store.now t
    → q.records ≡ (m.records + 1) % 2 ^ 64 → q.frames ≡ (m.frames + t.frames) % 2 ^ 64 → q.state ≡ t.state → q.«open» ≡ m.«open»
    → Went (calling e ∷ []) r q
unfolding run continued all_noted noted handed
one_went {e} {r} {m} {q} {t} h u n f state same =
    record {
      lines = u.line ∷ [];
      goes_on = λ log.
          ap₂ (λ s st. continued (calling e) (world s st log)) (sym h.state) (sym h.store)
          ∙ u.goes_on log
          ∙ ap (λ s. world s q.store.now (u.line ∷ log)) (sym state);
      keeps = λ i. record { records = number i; frames = count i; waits = text i };
      closed = λ o. h.closed (sym same ∙ o);
      untried = λ none. same ∙ h.untried (none_goes r none);
    }
  where
    number : q.records ≡ (r.records + 1) % 2 ^ 64
    number = n ∙ ap (λ (k : Kept). (k.records + 1) % 2 ^ 64) h.keeps

    count : q.frames ≡ (r.frames + length (sent_in u.line)) % 2 ^ 64
    count = f ∙ ap (λ (k : Kept). (k.frames + t.frames) % 2 ^ 64) h.keeps ∙ ap (λ (j : ℕ). (r.frames + j) % 2 ^ 64) u.frames

    text : waits q ≡ stays (waits r) ++ line_text ((r.records + 1) % 2 ^ 64) u.line
    text =
        text_written u.text
        ∙ ap₂ (λ (k : Kept) (j : ℕ). k.waits ++ line_text j u.line) h.keeps number

-- ---- The records of a buffer, a turn each

-- of the records of s, those of d are left
pub record Far (s d : List ℕ) (r q : Run) : Type 0 where
  pub done : List Call
  pub went : Went done r q
  pub left : done ++ records (length d) d ≡ records (length s) s

pub far_none : (s : List ℕ) (r : Run) → Far s s r r
far_none s r = record { done = []; went = none_went r; left = refl }

pub far_more : {n : ℕ} {s d x rest : List ℕ} {r q p : Run} → Far s d r q → n ≡ 13 → (d ≡ x ++ rest) × (length x ≡ min n (length d)) × (0 < length d)
    → Went (calling x ∷ []) q p → Far s rest r p
far_more {n} {s} {d} {x} {rest} f thirteen cut w =
    record {
      done = f.done ++ (calling x ∷ []);
      went = then_went f.went w;
      left =
          append_assoc f.done (calling x ∷ []) (records (length rest) rest)
          ∙ ap (λ (cs : List Call). f.done ++ cs) (sym (next_record x rest thirteen cut))
          ∙ f.left;
    }

-- the same of a slice, cut behind a whole record
pub far_cut : {s d : List ℕ} {r q p : Run} → Far s d r q → 13 ≤ length d → Went (calling (take 13 d) ∷ []) q p
    → Far s (take (length d - 13) (drop 13 d)) r p
far_cut {s} {d} {r} {q} {p} f h w =
    let more : 0 < length d = omega (arith, h) in
    subst (λ l. Far s l r p) (sym (tail_all 13 d)) (far_more f refl (sym (take-append-drop 13 d), length-take 13 d, more) w)

pub far_all : {s d : List ℕ} {r q : Run} → Far s d r q → length d ≡ 0 → Went (records (length s) s) r q
unfolding records
far_all {s} {d} {r} {q} f none =
    let e : records (length d) d ≡ [] = rw none refl in
    subst (λ (cs : List Call). Went cs r q) (sym (append-nil f.done) ∙ ap (λ (cs : List Call). f.done ++ cs) (sym e) ∙ f.left) f.went

-- a short record is the last
pub far_last : {s d : List ℕ} {r q p : Run} → Far s d r q → length d < 13 → (length d ≡ 0 → ⊥) → Went (calling d ∷ []) q p
    → Went (records (length s) s) r p
far_last {s} {d} f h some w =
    let left : length d ≢ 0 = some in
    let more : 0 < length d = omega (arith, left) in
    let long : length d ≡ min 13 (length d) = omega (arith, h) in
    far_all (far_more f refl (sym (append-nil d), long, more) w) refl

-- ---- Buffers

-- nothing was read yet
pub none_took : (r : Run) → Took r r true
unfolding records
none_took r = record { bytes = []; went = none_went r; whole = λ more. refl }

-- what was read before, and a buffer more
pub then_took : {r q p : Run} {more : Bool} → Took r q true → Took q p more → Took r p more
then_took {more} a b =
    let e : length a.bytes % 13 ≡ 0 = a.whole refl in
    record {
      bytes = a.bytes ++ b.bytes;
      went = rw (joined a.bytes b.bytes e) (then_went a.went b.went);
      whole = λ m. let f : length b.bytes % 13 ≡ 0 = b.whole m in rw (length-append a.bytes b.bytes) (omega arith);
    }

-- all that was read
pub all_took : {r q : Run} {more : Bool} → Took r q more → Took r q false
all_took t = record { bytes = t.bytes; went = t.went; whole = λ m. let z : ◌≡◌ {A = ℕ} 0 1 = cc in absurd (omega arith) }

-- ---- The end

pub ended : {r m : Run} {u : Text} → Roomy r m → Wrote 60 (end_line m.records m.frames) m.text u
    → take u.len u.bytes.now ≡ stays (waits r) ++ end_line r.records r.frames
ended h w = text_written w ∙ ap (λ (k : Kept). k.waits ++ end_line k.records k.frames) h.keeps
