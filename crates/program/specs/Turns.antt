-- What the event program does with one call: its lines are those of the call's line in the log of a run. Assumes nothing.
use Rattle.std.specs.Prelude.{◌≡◌, List, [], ◌∷◌, ℕ, length}
use Rattle.model.specs.declared.Identity.{Identity}
use Rattle.model.specs.declared.State.{State}
use Rattle.model.specs.Step.{output_size}
use Rattle.model.specs.Run.{Call, Line, sent_in, World, begun, continued}
use Rattle.model.specs.Program.{line_text}
use Rattle.text.specs.declared.Text.{Text}
use Rattle.text.specs.Written.{Wrote}
use Rattle.program.specs.declared.Turn.{Turn}

-- a call with an output of 48 bytes
abbrev pub calling : List ℕ → Call
calling e = record { event = e; room = output_size }

abbrev pub world : State → List ℕ → List Line → World
world s st log = record { state = s; store = st; log = log }

-- event number n, from state s and store st: a run goes on by one line, and that line's text is put behind the text so far
pub record Turned (e : List ℕ) (n : ℕ) (s : State) (st : List ℕ) (t u : Text) (zs : List ℕ) (r : Turn) : Type 0 where
  pub line : Line
  pub goes_on : (log : List Line) → continued (calling e) (world s st log) ≡ world r.state zs (line ∷ log)
  pub text : Wrote 168 (line_text n line) t u
  pub frames : r.frames ≡ length (sent_in line)

-- the power-on: a run begins with one line, and its text is put behind the text so far
pub record Begins (i : Identity) (st : List ℕ) (t u : Text) (r : Turn) : Type 0 where
  pub line : Line
  pub starts : begun i output_size st ≡ world r.state st (line ∷ [])
  pub text : Wrote 168 (line_text 0 line) t u
  pub frames : r.frames ≡ length (sent_in line)
