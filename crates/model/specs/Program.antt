-- Document 01, "Marked cases", its last paragraph: the event program, from the bytes that it reads to the text that it writes. Assumes nothing.
use Rattle.std.specs.Prelude.{ℕ, zero, suc, ◌+◌, ◌-◌, ◌/◌, ◌%◌, true, false, cond, List, [], ◌∷◌, ◌++◌, eqb, ltb, length, take, drop}
use Rattle.model.specs.declared.Identity.{Identity}
use Rattle.model.specs.declared.Frame.{Frame}
use Rattle.model.specs.Frames.{data_of}
use Rattle.model.specs.Step.{done, output_size, zero_store}
use Rattle.model.specs.Run.{Call, Line, number_in, sent_in, begun, run}

-- ---- Numbers as text (ASCII)

-- a hexadecimal digit, in upper case
unfoldable pub hex_digit : ℕ → ℕ
hex_digit n = cond (ltb n 10) (48 + n) (55 + n)

-- a byte as two of them
abbrev pub hex_byte : ℕ → List ℕ
hex_byte n = hex_digit (n / 16) ∷ hex_digit (n % 16) ∷ []

-- some bytes so
abbrev pub hex_bytes : List ℕ → List ℕ
hex_bytes [] = []
hex_bytes (n ∷ ns) = hex_byte n ++ hex_bytes ns

-- the decimal digits of n before some text; n has at most so many digits
unfoldable pub digits : ℕ → ℕ → List ℕ → List ℕ
digits zero n rest = rest
digits (suc k) n rest = elim (eqb (n / 10) 0) [ true ↦ (48 + n % 10) ∷ rest | false ↦ digits k (n / 10) ((48 + n % 10) ∷ rest) ]

-- a number in decimal
abbrev pub decimal : ℕ → List ℕ
decimal n = digits (suc n) n []

-- ---- Lines

abbrev pub space : ℕ
space = 32

abbrev pub newline : ℕ
newline = 10

-- ` refused `
abbrev pub refused_text : List ℕ
refused_text = 32 ∷ 114 ∷ 101 ∷ 102 ∷ 117 ∷ 115 ∷ 101 ∷ 100 ∷ 32 ∷ []

-- `end `
abbrev pub end_text : List ℕ
end_text = 101 ∷ 110 ∷ 100 ∷ 32 ∷ []

-- ` events `
abbrev pub events_text : List ℕ
events_text = 32 ∷ 101 ∷ 118 ∷ 101 ∷ 110 ∷ 116 ∷ 115 ∷ 32 ∷ []

-- ` frames`
abbrev pub frames_text : List ℕ
frames_text = 32 ∷ 102 ∷ 114 ∷ 97 ∷ 109 ∷ 101 ∷ 115 ∷ []

-- a CAN-ID in three digits
abbrev pub id_text : ℕ → List ℕ
id_text id = hex_digit (id / 256) ∷ hex_byte (id % 256)

-- a frame's line: the event's number, CAN-ID, data
unfoldable pub frame_text : ℕ → Frame → List ℕ
frame_text n f = decimal n ++ (space ∷ id_text f.id) ++ (space ∷ hex_bytes (data_of f)) ++ (newline ∷ [])

abbrev pub frames_texts : ℕ → List Frame → List ℕ
frames_texts n [] = []
frames_texts n (f ∷ fs) = frame_text n f ++ frames_texts n fs

-- a refused record's line: the event's number and the refusal's
unfoldable pub refusal_text : ℕ → ℕ → List ℕ
refusal_text n number = decimal n ++ refused_text ++ decimal number ++ (newline ∷ [])

-- what a call adds: a line for each frame, so none for a silent event
unfoldable pub line_text : ℕ → Line → List ℕ
line_text n l = cond (eqb (number_in l) done) (frames_texts n (sent_in l)) (refusal_text n (number_in l))

-- the lines of a log, newest first, before some text: the power-on is number 0
unfoldable pub log_text : List Line → List ℕ → List ℕ
log_text [] later = later
log_text (l ∷ ls) later = log_text ls (line_text (length ls) l ++ later)

-- the frames of a log
unfoldable pub frame_count : List Line → ℕ
frame_count [] = 0
frame_count (l ∷ ls) = length (sent_in l) + frame_count ls

-- the last line: the records read, refused and short ones too, and the frames written, the power-on's too
unfoldable pub end_line : ℕ → ℕ → List ℕ
end_line records frames = end_text ++ decimal records ++ events_text ++ decimal frames ++ frames_text ++ (newline ∷ [])

-- ---- The program

-- records of 13 bytes, the last one short where bytes are left over; there are at most so many
unfoldable pub records : ℕ → List ℕ → List Call
records zero bytes = []
records (suc k) [] = []
records (suc k) (b ∷ bs) = record { event = take 13 (b ∷ bs); room = output_size } ∷ records k (drop 13 (b ∷ bs))

abbrev pub zero_identity : Identity
zero_identity = record { vendor = 0; product = 0; revision = 0; serial = 0 }

-- the log of a run on these bytes, from a zero identity and a zero store
unfoldable pub log_of : List ℕ → List Line
log_of bytes = (run (records (length bytes) bytes) (begun zero_identity output_size zero_store)).log

-- what the program writes, of what it reads
unfoldable pub program : List ℕ → List ℕ
program bytes = let log = log_of bytes in log_text log (end_line (length log - 1) (frame_count log))
