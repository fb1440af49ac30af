-- All that the reader hands over, with what waits and the last line, is the text of the definition `program`. Assumes nothing.
use Rattle.std.proofs.Common.{◌≡◌, ℕ, suc, ◌+◌, ◌-◌, ◌%◌, ◌^◌, ◌<◌, Bool, true, false, cond, ltb, List, [], ◌∷◌, ◌++◌, length, take, sym, refl, ap, ◌∙◌, ap₂, append_assoc, append-nil, arith, length-append}
use Rattle.model.specs.Run.{Line, World, sent_in, begun, run}
use Rattle.model.specs.Step.{output_size, zero_store}
use Rattle.model.specs.Program
use Rattle.model.specs.Program.{line_text, log_text, frame_count, end_line, zero_identity, log_of, program}
use Rattle.text.specs.declared.Text.{Text}
use Rattle.program.specs.declared.Turn.{Turn}
use Rattle.program.specs.Turns.{world, Begins}
use Rattle.events.specs.declared.Run.{Run}
use Rattle.events.specs.Reads.{Kept, waits, kept, goes, stays, noted, all_noted, handed, fresh, Took, Whole, Ended, Done}
use Rattle.events.proofs.Going.{text_written}

-- ---- The text of lines, newest first, that are numbered on from n

unfoldable pub text_from : ℕ → List Line → List ℕ
text_from n [] = []
text_from n (l ∷ ls) = text_from n ls ++ line_text (n + suc (length ls)) l

goes_stays : (w : List ℕ) → goes w ++ stays w ≡ w
unfolding goes stays
goes_stays w = go (ltb 16216 (length w))
  where
    go : (b : Bool) → cond b w [] ++ cond b [] w ≡ w
    go true = append-nil w
    go false = refl

-- the counts, where 64 bits hold them
counted : (ls : List Line) (k : Kept) → k.records + length ls < 2 ^ 64 → (all_noted ls k).records ≡ k.records + length ls
unfolding all_noted noted
counted [] k h = omega arith
counted (l ∷ ls) k h = let e : (all_noted ls k).records ≡ k.records + length ls = counted ls k (omega arith) in omega arith

framed : (ls : List Line) (k : Kept) → k.frames + frame_count ls < 2 ^ 64 → (all_noted ls k).frames ≡ k.frames + frame_count ls
unfolding all_noted noted frame_count
framed [] k h = omega arith
framed (l ∷ ls) k h = let e : (all_noted ls k).frames ≡ k.frames + frame_count ls = framed ls k (omega arith) in omega arith

-- no text is lost, and none is written twice
pub all_text : (ls : List Line) (k : Kept) → k.records + length ls < 2 ^ 64
    → handed ls k ++ (all_noted ls k).waits ≡ k.waits ++ text_from k.records ls
unfolding all_noted noted handed text_from
all_text [] k h = sym (append-nil k.waits)
all_text (l ∷ ls) k h =
    let w = (all_noted ls k).waits in
    let e : (all_noted ls k).records ≡ k.records + length ls = counted ls k (omega arith) in
    let n : ((all_noted ls k).records + 1) % 2 ^ 64 ≡ k.records + suc (length ls) = omega arith in
    let t = line_text (((all_noted ls k).records + 1) % 2 ^ 64) l in
    append_assoc (handed ls k) (goes w) (stays w ++ t)
    ∙ ap (λ (u : List ℕ). handed ls k ++ u) (sym (append_assoc (goes w) (stays w) t) ∙ ap (λ (u : List ℕ). u ++ t) (goes_stays w))
    ∙ sym (append_assoc (handed ls k) w t)
    ∙ ap (λ (u : List ℕ). u ++ t) (all_text ls k (omega arith))
    ∙ append_assoc k.waits (text_from k.records ls) t
    ∙ ap (λ (m : ℕ). k.waits ++ (text_from k.records ls ++ line_text m l)) n

-- ---- The definition's text, by its lines after the first

log_text_lem : (ls : List Line) (first : Line) (later : List ℕ) → log_text (ls ++ (first ∷ [])) later ≡ (line_text 0 first ++ text_from 0 ls) ++ later
unfolding log_text text_from
log_text_lem [] first later = ap (λ (u : List ℕ). u ++ later) (sym (append-nil (line_text 0 first)))
log_text_lem (l ∷ ls) first later =
    let e : length (ls ++ (first ∷ [])) ≡ 0 + suc (length ls) = omega (arith, length-append ls (first ∷ [])) in
    log_text_lem ls first (line_text (length (ls ++ (first ∷ []))) l ++ later)
    ∙ ap (λ (m : ℕ). (line_text 0 first ++ text_from 0 ls) ++ (line_text m l ++ later)) e
    ∙ sym (append_assoc (line_text 0 first ++ text_from 0 ls) (line_text (0 + suc (length ls)) l) later)
    ∙ ap (λ (u : List ℕ). u ++ later) (append_assoc (line_text 0 first) (text_from 0 ls) (line_text (0 + suc (length ls)) l))

last_frames : (ls : List Line) (first : Line) → frame_count (ls ++ (first ∷ [])) ≡ length (sent_in first) + frame_count ls
unfolding frame_count
last_frames [] first = omega arith
last_frames (l ∷ ls) first = let e : frame_count (ls ++ (first ∷ [])) ≡ length (sent_in first) + frame_count ls = last_frames ls first in omega arith

-- so it is what the reader hands over, what waits, and the last line
module _ (ls : List Line) (first : Line) (few : length ls < 2 ^ 64) (less : frame_count (ls ++ (first ∷ [])) < 2 ^ 64) where
  all_records : length (ls ++ (first ∷ [])) - 1 ≡ (all_noted ls (fresh first)).records
  all_records = omega (arith, length-append ls (first ∷ []), counted ls (fresh first) (omega arith))

  all_frames : frame_count (ls ++ (first ∷ [])) ≡ (all_noted ls (fresh first)).frames
  all_frames = let f = last_frames ls first in omega (arith, framed ls (fresh first) (omega arith))

  whole_text : (bytes : List ℕ) → log_of bytes ≡ ls ++ (first ∷ []) → (k : Kept) → k ≡ all_noted ls (fresh first)
      → program bytes ≡ handed ls (fresh first) ++ k.waits ++ end_line k.records k.frames
  unfolding program
  whole_text bytes log k keeps =
      let whole = ls ++ (first ∷ []) in
      ap (λ (l : List Line). log_text l (end_line (length l - 1) (frame_count l))) log
      ∙ log_text_lem ls first (end_line (length whole - 1) (frame_count whole))
      ∙ ap₂ (λ (m n : ℕ). (line_text 0 first ++ text_from 0 ls) ++ end_line m n) all_records all_frames
      ∙ ap (λ (u : List ℕ). u ++ end_line (all_noted ls (fresh first)).records (all_noted ls (fresh first)).frames)
      (sym (all_text ls (fresh first) (omega arith)))
      ∙ ap (λ (j : Kept). handed ls (fresh first) ++ j.waits ++ end_line j.records j.frames) (sym keeps)

-- ---- From the power-on

-- the run r starts as the power-on leaves it, its text in front
module _ {st : List ℕ} {t : Text} {turn : Turn} (r : Run) (b : Begins zero_identity st t r.text turn) (front : t.len ≡ 0) (state : r.state ≡ turn.state)
    (store : r.store.now ≡ st) (records : r.records ≡ 0) (frames : r.frames ≡ turn.frames) where
  started : kept r ≡ fresh b.line
  started = λ i. record { records = records i; frames = (frames ∙ b.frames) i; waits = text i }
    where
      text : waits r ≡ line_text 0 b.line
      text = text_written b.text ∙ ap (λ (n : ℕ). take n t.bytes.now ++ line_text 0 b.line) front

  -- the log is the definition's
  whole_log : {q : Run} → st ≡ zero_store → (a : Took r q false) → log_of a.bytes ≡ a.went.lines ++ (b.line ∷ [])
  unfolding log_of
  whole_log zeros a =
      let cs = Program.records (length a.bytes) a.bytes in
      ap (λ (s : List ℕ). (run cs (begun zero_identity output_size s)).log) (sym zeros)
      ∙ ap (λ (w : World). (run cs w).log) (b.starts ∙ ap₂ (λ s z. world s z (b.line ∷ [])) (sym state) (sym store))
      ∙ ap (λ (w : World). w.log) (a.went.goes_on (b.line ∷ []))

  pub whole_run : {q : Run} → st ≡ zero_store → Took r q false → Whole q
  whole_run zeros a =
      record {
        bytes = a.bytes;
        first = b.line;
        lines = a.went.lines;
        log = whole_log zeros a;
        keeps = a.went.keeps ∙ ap (all_noted a.went.lines) started;
      }

-- ---- To the end

-- all that is handed over: on the way, for room at the end, and at last
pub all_handed : {r q : Run} → Whole r → Ended r q → Done q
all_handed {r} {q} w e =
    record {
      bytes = w.bytes;
      first = w.first;
      lines = w.lines;
      log = w.log;
      text = λ few less.
          let h = handed w.lines (fresh w.first) in
          let t = waits r in
          let l = end_line r.records r.frames in
          ap (λ (k : Kept). h ++ goes k.waits ++ waits q) (sym w.keeps)
          ∙ ap (λ (u : List ℕ). h ++ goes t ++ u) e
          ∙ sym (append_assoc (h ++ goes t) (stays t) l)
          ∙ ap (λ (u : List ℕ). u ++ l) (append_assoc h (goes t) (stays t) ∙ ap (λ (u : List ℕ). h ++ u) (goes_stays t))
          ∙ sym (whole_text w.lines w.first few less w.bytes w.log (kept r) w.keeps);
    }
