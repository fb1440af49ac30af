-- Runs: a power-on and then events, state and store going from call to call, and the log of what the bus saw. Assumes nothing.
use Rattle.std.specs.Prelude.{ℕ, cond, List, [], ◌∷◌, eqb, length}
use Rattle.model.specs.declared.Identity.{Identity}
use Rattle.model.specs.declared.Frame.{Frame}
use Rattle.model.specs.declared.State.{State}
use Rattle.model.specs.declared.Answer.{Answer}
use Rattle.model.specs.Frames.{frames_read}
use Rattle.model.specs.Step.{done, refusal, power_on_refusal, Outcome, step, power_on, zero_store, event_answer, power_on_answer, Gives}

-- a call of `event`: its bytes, and the length of the output that is lent
pub record Call : Type 0 where
  pub event : List ℕ
  pub room : ℕ

-- a line of the log: the power-on or a call, the output's length, the number given, the frames sent
pub data Line : Type 0 where
  powered : (room number : ℕ) → (sent : List Frame) → Line
  called : (event : List ℕ) → (room number : ℕ) → (sent : List Frame) → Line

-- its number, and its frames
abbrev pub number_in : Line → ℕ
number_in (powered room number sent) = number
number_in (called event room number sent) = number

abbrev pub sent_in : Line → List Frame
sent_in (powered room number sent) = sent
sent_in (called event room number sent) = sent

-- state and store, and the log, its newest line first
pub record World : Type 0 where
  pub state : State
  pub store : List ℕ
  pub log : List Line

-- ---- A node, as its callers see it

-- what its power-on comes to, the number that it gives a call, and what a call that it serves comes to
pub record Node : Type 0 where
  pub starts : Identity → List ℕ → Outcome
  pub numbers : List ℕ → State → ℕ → ℕ → ℕ
  pub serves : List ℕ → State → List ℕ → Outcome

-- the one of document 01
abbrev pub right_node : Node
right_node = record { starts = power_on; numbers = refusal; serves = step }

-- the world after its power-on; a refused one has the state that an all-zero store gives
abbrev pub begun_by : Node → Identity → ℕ → List ℕ → World
begun_by node i room st =
    let n = power_on_refusal room (length st) in
    let o = node.starts i st in
    cond (eqb n done) (record { state = o.state; store = o.store; log = powered room done o.sent ∷ [] })
    (record { state = (node.starts i zero_store).state; store = st; log = powered room n [] ∷ [] })

-- the world after a call that is served
abbrev pub after : Call → Outcome → List Line → World
after c o log = record { state = o.state; store = o.store; log = called c.event c.room done o.sent ∷ log }

-- one more call
abbrev pub continued_by : Node → Call → World → World
continued_by node c w =
    let n = node.numbers c.event w.state c.room (length w.store) in
    cond (eqb n done) (after c (node.serves c.event w.state w.store) w.log)
    (record { state = w.state; store = w.store; log = called c.event c.room n [] ∷ w.log })

-- some calls, the first first
abbrev pub run_by : Node → List Call → World → World
run_by node [] w = w
run_by node (c ∷ cs) w = run_by node cs (continued_by node c w)

-- the same of the node of document 01
unfoldable pub begun : Identity → ℕ → List ℕ → World
begun i room st = begun_by right_node i room st

unfoldable pub continued : Call → World → World
continued c w = continued_by right_node c w

unfoldable pub run : List Call → World → World
run cs w = run_by right_node cs w

-- ---- The same as the caller of the two calls has it: by what each call hands back, and by what its output and its store then hold

-- the world after a call with the answer r, where its output holds ys and its store zs; l makes the call's line of a number and frames
abbrev pub handed : (ℕ → List Frame → Line) → List Line → Answer → List ℕ → List ℕ → World
handed l log r ys zs = record { state = r.state; store = zs; log = l r.number (frames_read r.count ys) ∷ log }

-- calls of `event`, the first first: each with an event and an output of any length and content, on the state and the store last handed back, and
-- with an answer that meets the call's promise
pub data Chain : World → List Call → World → Type 0 where
  ends : {w : World} → Chain w [] w
  goes_on : {w y : World} {cs : List Call} (e lent : List ℕ) (r : Answer) (ys zs : List ℕ)
      → Gives (event_answer e w.state lent w.store) r ys zs
      → Chain (handed (called e (length lent)) w.log r ys zs) cs y
      → Chain w (record { event = e; room = length lent } ∷ cs) y

-- a power-on with an identity, a store and an output, whose answer meets its promise, and then such calls
pub record Session (i : Identity) (st lent : List ℕ) (cs : List Call) (y : World) : Type 0 where
  pub answer : Answer
  pub output : List ℕ
  pub store : List ℕ
  pub powers_on : Gives (power_on_answer i lent st) answer output store
  pub goes_on : Chain (handed (powered (length lent)) [] answer output store) cs y
