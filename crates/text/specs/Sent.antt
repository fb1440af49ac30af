-- The frames that an output holds, read back out of its bytes, and what a call adds to the text. Assumes nothing.
use Rattle.std.specs.Prelude.{ℕ, zero, suc, ◌%◌, ◌<◌, cond, List, [], ◌∷◌, eqb, drop}
use Rattle.model.specs.declared.Frame.{Frame}
use Rattle.model.specs.Bytes.{byte_at, number_at}
use Rattle.model.specs.Step.{done}
use Rattle.model.specs.Program.{frames_texts, refusal_text}

-- the frame in the first 12 bytes, with the three digits of its CAN-ID that a line shows
unfoldable pub frame_in : List ℕ → Frame
frame_in l =
    record {
      id = number_at 0 2 l % 4096;
      len = byte_at 3 l;
      d0 = byte_at 4 l;
      d1 = byte_at 5 l;
      d2 = byte_at 6 l;
      d3 = byte_at 7 l;
      d4 = byte_at 8 l;
      d5 = byte_at 9 l;
      d6 = byte_at 10 l;
      d7 = byte_at 11 l;
    }

-- the first k frames of an output
unfoldable pub frames_in : ℕ → List ℕ → List Frame
frames_in zero l = []
frames_in (suc k) l = frame_in l ∷ frames_in k (drop 12 l)

-- frames whose CAN-IDs have three digits
abbrev pub Shown : List Frame → Type 0
Shown [] = Unit
Shown (f ∷ fs) = (f.id < 4096) × Shown fs

-- what call number n adds: `line_text` of the model, by the call's answer number and frames
unfoldable pub added : ℕ → ℕ → List Frame → List ℕ
added n number fs = cond (eqb number done) (frames_texts n fs) (refusal_text n number)
