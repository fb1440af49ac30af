-- What the reader of records keeps, what a record leaves of it, and what each of its functions promises of that. Assumes nothing.
use Rattle.std.specs.Prelude.{◌≡◌, ℕ, ◌+◌, ◌%◌, ◌^◌, ◌<◌, ◌≤◌, Bool, true, cond, ◌⊎◌, List, [], ◌∷◌, ◌++◌, length, take, nat_lt}
use Rattle.model.specs.Run.{Call, Line, sent_in, run}
use Rattle.model.specs.Program.{line_text, frame_count, end_line, records, log_of, program}
use Rattle.program.specs.Turns.{world}
use Rattle.events.specs.declared.Run.{Run}

-- ---- Definitions

-- what is kept beside state and store: the records and frames counted, in 64 bits, and the text that waits to be handed over to standard output
pub record Kept : Type 0 where
  pub records : ℕ
  pub frames : ℕ
  pub waits : List ℕ

-- these, as the program has them
abbrev pub waits : Run → List ℕ
waits r = take r.text.len r.text.bytes.now

abbrev pub kept : Run → Kept
kept r = record { records = r.records; frames = r.frames; waits = waits r }

-- a record's lines have at most 168 bytes, and the text 16,384: where more than 16,216 wait, all that waits is handed over first
unfoldable pub goes : List ℕ → List ℕ
goes waits = cond (nat_lt 16216 (length waits)) waits []

-- and what stays
unfoldable pub stays : List ℕ → List ℕ
stays waits = cond (nat_lt 16216 (length waits)) [] waits

-- one record more, by its line of the log: it is counted, and its text, with that number, waits behind what stays
unfoldable pub noted : Line → Kept → Kept
noted l k =
    let n = (k.records + 1) % 2 ^ 64 in
    record { records = n; frames = (k.frames + length (sent_in l)) % 2 ^ 64; waits = stays k.waits ++ line_text n l }

-- some lines, newest first as in a log
unfoldable pub all_noted : List Line → Kept → Kept
all_noted [] k = k
all_noted (l ∷ ls) k = noted l (all_noted ls k)

-- all that is handed over on the way, in order
unfoldable pub handed : List Line → Kept → List ℕ
handed [] k = []
handed (l ∷ ls) k = handed ls k ++ goes (all_noted ls k).waits

-- what is kept after the power-on, whose line has number 0
abbrev pub fresh : Line → Kept
fresh l = record { records = 0; frames = length (sent_in l); waits = line_text 0 l }

-- ---- Promises: r is what the program has before, and q after

-- what may be handed over: all that waits, where there is no room for a record's lines, or with the last line at its end
pub record MayGo (r : Run) (out : List ℕ) : Type 0 where
  pub all : out ≡ waits r
  pub due : (16216 < length out) ⊎ ((before : List ℕ) × (out ≡ before ++ end_line r.records r.frames))

-- room for a record's lines: nothing else changes, but that an output may be found closed by handing text over to it, and then stays so
pub record Roomy (r q : Run) : Type 0 where
  pub state : q.state ≡ r.state
  pub store : q.store.now ≡ r.store.now
  pub keeps : kept q ≡ record { records = r.records; frames = r.frames; waits = stays (waits r) }
  pub room : q.text.len + 168 ≤ 16384
  pub closed : q.«open» ≡ true → r.«open» ≡ true
  pub untried : r.text.len ≤ 16216 → q.«open» ≡ r.«open»

-- some calls: a run goes on by their lines, whatever its log, and what is kept is what these lines leave; so what is handed over on the way is
-- `handed lines (kept r)`
pub record Went (cs : List Call) (r q : Run) : Type 0 where
  pub lines : List Line
  pub goes_on : (log : List Line) → run cs (world r.state r.store.now log) ≡ world q.state q.store.now (lines ++ log)
  pub keeps : kept q ≡ all_noted lines (kept r)
  pub closed : q.«open» ≡ true → r.«open» ≡ true
  pub untried : handed lines (kept r) ≡ [] → q.«open» ≡ r.«open»

-- some bytes that were read: their records; where there is more to read, the bytes are whole records
pub record Took (r q : Run) (more : Bool) : Type 0 where
  pub bytes : List ℕ
  pub went : Went (records (length bytes) bytes) r q
  pub whole : more ≡ true → length bytes % 13 ≡ 0

-- the power-on and all that was read: the log is the definition's, and what is kept is what its lines leave
pub record Whole (q : Run) : Type 0 where
  pub bytes : List ℕ
  pub first : Line
  pub lines : List Line
  pub log : log_of bytes ≡ lines ++ (first ∷ [])
  pub keeps : kept q ≡ all_noted lines (fresh first)

-- the end: what is handed over at last
abbrev pub Ended : Run → Run → Type 0
Ended r q = waits q ≡ stays (waits r) ++ end_line r.records r.frames

-- the program: what is handed over on the way, then for room at the end, and then at last is the text of the definition, where 64 bits hold the counts
pub record Done (q : Run) : Type 0 where
  pub bytes : List ℕ
  pub first : Line
  pub lines : List Line
  pub log : log_of bytes ≡ lines ++ (first ∷ [])
  pub text : length lines < 2 ^ 64 → frame_count (lines ++ (first ∷ [])) < 2 ^ 64
      → handed lines (fresh first) ++ goes (all_noted lines (fresh first)).waits ++ waits q ≡ program bytes
