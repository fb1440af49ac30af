-- Runs to be computed: events as a bus would bring them, and what the node said. Assumes nothing.
use Prim.Native.Nat.{ℕ, ◌+◌, ◌-◌, ◌*◌}
use mathlib.Core.List.{List, [], ◌∷◌, ◌++◌}
use lib.ListN.{length, replicate}
use Rattle.model.specs.declared.Identity.{Identity}
use Rattle.model.specs.declared.Frame.{Frame}
use Rattle.model.specs.Bytes.{low_bytes}
use Rattle.model.specs.Frames.{data_of, sync_id, tpdos, sdo_requests, lss_requests}
use Rattle.model.specs.Step.{output_size, zero_store}
use Rattle.model.specs.Run.{Call, Line, sent_in, World, begun, run}
use Rattle.model.proofs.Everything.{everything}

-- ---- Events

-- some bytes, and zeros to make them n
abbrev pub padded : ℕ → List ℕ → List ℕ
padded n d = d ++ replicate (n - length d) 0

-- a data frame
abbrev pub gets : ℕ → List ℕ → List ℕ
gets id d = padded 13 ((1 ∷ low_bytes 2 id) ++ (0 ∷ length d ∷ d))

-- an SDO request to a node
abbrev pub asks : ℕ → List ℕ → List ℕ
asks to d = gets (sdo_requests + to) (padded 8 d)

-- a read from node 1, and a write of w bytes to it
abbrev pub reads : ℕ → ℕ → List ℕ
reads index sub = asks 1 (0x40 ∷ low_bytes 2 index ++ (sub ∷ []))

abbrev pub writes : ℕ → ℕ → ℕ → ℕ → List ℕ
writes w index sub n = asks 1 ((0x23 + (4 - w) * 4) ∷ low_bytes 2 index ++ (sub ∷ low_bytes w n))

-- an NMT command to a node, 0 for all
abbrev pub commands : ℕ → ℕ → List ℕ
commands command to = gets 0 (command ∷ to ∷ [])

-- an LSS frame
abbrev pub lss : List ℕ → List ℕ
lss d = gets lss_requests (padded 8 d)

abbrev pub sync : List ℕ
sync = gets sync_id []

-- a remote frame on the TPDO of node 1
abbrev pub asks_tpdo : List ℕ
asks_tpdo = padded 13 ((1 ∷ low_bytes 2 (tpdos + 1)) ++ (1 ∷ []))

abbrev pub a_tick : List ℕ
a_tick = padded 13 (2 ∷ [])

abbrev pub sample : ℕ → List ℕ
sample fv = padded 13 (3 ∷ low_bytes 2 fv)

abbrev pub ticks : ℕ → List (List ℕ)
ticks n = replicate n a_tick

-- 1018h:1..4
abbrev pub identity : ℕ → ℕ → ℕ → ℕ → Identity
identity a b c d = record { vendor = a; product = b; revision = c; serial = d }

-- ---- What was sent

-- a frame as its CAN-ID and its data
abbrev pub short : Frame → List ℕ
short f = f.id ∷ data_of f

abbrev pub shorts : List Frame → List (List ℕ) → List (List ℕ)
shorts [] later = later
shorts (f ∷ fs) later = short f ∷ shorts fs later

-- the frames of a log, oldest first
abbrev pub spoken : List Line → List (List ℕ) → List (List ℕ)
spoken [] later = later
spoken (l ∷ ls) later = spoken ls (shorts (sent_in l) later)

-- ---- Replaying

-- each event with an output that is just long enough
abbrev pub calls : List (List ℕ) → List Call
calls [] = []
calls (e ∷ es) = record { event = e; room = output_size } ∷ calls es

-- the world after a power-on with an identity on 64 zero bytes, and some events
unfoldable pub after : Identity → List (List ℕ) → World
unfolding everything
after i es = run (calls es) (begun i output_size zero_store)

-- the same with a zero identity
abbrev pub plainly : List (List ℕ) → World
plainly es = after (identity 0 0 0 0) es

-- the frames of such a run
abbrev pub transcript : List (List ℕ) → List (List ℕ)
transcript es = spoken (plainly es).log []

-- the first frame of the newest line of a log
abbrev pub first_of : List Frame → List ℕ
first_of [] = []
first_of (f ∷ fs) = short f

abbrev pub last_of : List Line → List ℕ
last_of [] = []
last_of (l ∷ ls) = first_of (sent_in l)
