-- Document 01, "Events, frames and the answer": the bytes of an event, the bytes of a frame, and where frames are laid. Assumes nothing.
use Rattle.std.specs.Prelude.{ℕ, zero, suc, ◌+◌, ◌*◌, ◌/◌, ◌%◌, Bool, true, false, List, [], ◌∷◌, ◌++◌, length, take, drop, Option, Some, None}
use Rattle.model.specs.declared.Frame.{Frame}
use Rattle.model.specs.Bytes.{byte_at, number_at}

-- ---- An event is 13 bytes: its kind (1 a frame, 2 a tick, 3 a sample), then twelve

-- the kind
abbrev pub kind_of_event : List ℕ → ℕ
kind_of_event e = byte_at 0 e

-- of a sample: FV stands in the next two bytes
abbrev pub sample_in : List ℕ → ℕ
sample_in e = number_at 1 2 e

-- of a frame: CAN-ID in two bytes, flag (0 data, 1 remote), length, eight bytes of data
abbrev pub can_id : List ℕ → ℕ
can_id e = number_at 1 2 e

-- 0 for a data frame, 1 for a remote frame
abbrev pub flag_in : List ℕ → ℕ
flag_in e = byte_at 3 e

-- how many of the data bytes count
abbrev pub length_in : List ℕ → ℕ
length_in e = byte_at 4 e

-- data byte number i, from 0; those past the length are ignored, since each service asks for the length that it reads
abbrev pub data_at : ℕ → List ℕ → ℕ
data_at i e = byte_at (5 + i) e

-- the number of n data bytes from byte i on
abbrev pub data_number : ℕ → ℕ → List ℕ → ℕ
data_number i n e = number_at (5 + i) n e

-- ---- CAN-IDs, which the sections of document 01 name; but for SYNC and LSS the Node-ID is added

-- SYNC
abbrev pub sync_id : ℕ
sync_id = 0x80

abbrev pub emcys : ℕ
emcys = 0x80

abbrev pub tpdos : ℕ
tpdos = 0x180

-- SDO, to the node and from it
abbrev pub sdo_requests : ℕ
sdo_requests = 0x600

abbrev pub sdo_replies : ℕ
sdo_replies = 0x580

-- boot-up and heartbeat
abbrev pub heartbeats : ℕ
heartbeats = 0x700

-- LSS, to the node and from it
abbrev pub lss_requests : ℕ
lss_requests = 0x7e5

abbrev pub lss_answers : ℕ
lss_answers = 0x7e4

-- ---- A frame that the node sends

-- a data frame of an ID, a length and its data, with zeros past them
abbrev pub framed : ℕ → ℕ → List ℕ → Frame
framed id len d =
    record {
      id = id;
      len = len;
      d0 = byte_at 0 d;
      d1 = byte_at 1 d;
      d2 = byte_at 2 d;
      d3 = byte_at 3 d;
      d4 = byte_at 4 d;
      d5 = byte_at 5 d;
      d6 = byte_at 6 d;
      d7 = byte_at 7 d;
    }

-- one that is as long as its data
abbrev pub frame : ℕ → List ℕ → Frame
frame id d = framed id (length d) d

-- one of length 8, whose data end in zeros
abbrev pub full : ℕ → List ℕ → Frame
full id d = framed id 8 d

-- its eight data bytes
abbrev pub data_bytes : Frame → List ℕ
data_bytes f = f.d0 ∷ f.d1 ∷ f.d2 ∷ f.d3 ∷ f.d4 ∷ f.d5 ∷ f.d6 ∷ f.d7 ∷ []

-- those that its length counts
abbrev pub data_of : Frame → List ℕ
data_of f = take f.len (data_bytes f)

-- its 12 bytes: CAN-ID, flag 0, length, data
abbrev pub frame_bytes : Frame → List ℕ
frame_bytes f = f.id % 256 ∷ f.id / 256 ∷ 0 ∷ f.len ∷ data_bytes f

-- a frame where a test holds, else none
abbrev pub when : Bool → Frame → List Frame
when true f = f ∷ []
when false f = []

-- the frames of a reply, which is at most one
abbrev pub frames_of : Option Frame → List Frame
frames_of None = []
frames_of (Some f) = f ∷ []

-- ---- Where frames are laid

-- the frames' bytes, each 12 on from the last
abbrev pub laid : List Frame → List ℕ
laid [] = []
laid (f ∷ fs) = frame_bytes f ++ laid fs

-- the output after a call: the frames from byte 0 on, and past them what stood there
unfoldable pub overlay : List Frame → List ℕ → List ℕ
overlay fs out = laid fs ++ drop (12 * length fs) out

-- ---- Frames read back out of an output

-- the one in the first 12 bytes
abbrev pub frame_read : List ℕ → Frame
frame_read l = framed (number_at 0 2 l) (byte_at 3 l) (drop 4 l)

-- the first k
unfoldable pub frames_read : ℕ → List ℕ → List Frame
frames_read zero l = []
frames_read (suc k) l = frame_read l ∷ frames_read k (drop 12 l)
