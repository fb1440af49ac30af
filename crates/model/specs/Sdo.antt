-- Document 01, "SDO (CiA 301)": the write checks, what an accepted write changes, the replies, and the upload by segments. Assumes nothing.
use Rattle.std.specs.Prelude.{ℕ, ◌+◌, ◌-◌, ◌*◌, Bool, true, cond, not, ◌&&◌, List, [], ◌∷◌, ◌++◌, eqb, leb, ltb, length, Option, Result, Ok, Err}
use Rattle.std.specs.Option.{unwrap_or}
use Rattle.model.specs.declared.Value.{Value}
use Rattle.model.specs.declared.Kind.{Kind}
use Rattle.model.specs.declared.Kind.TheVariants as K
use Rattle.model.specs.declared.Parameter.{Parameter}
use Rattle.model.specs.declared.Verdict.{Verdict}
use Rattle.model.specs.declared.Verdict.TheVariants.{Inside, Outside, Above, Below}
use Rattle.model.specs.declared.Entry.{Entry}
use Rattle.model.specs.declared.Entry.TheVariants.{Fixed, Name, Shown, Setting, SaveWord, LoadWord}
use Rattle.model.specs.declared.Missing.{Missing}
use Rattle.model.specs.declared.Missing.TheVariants.{NoObject, NoSub}
use Rattle.model.specs.declared.Change.{Change}
use Rattle.model.specs.declared.Change.TheVariants.{Keep, Write, Save, TakeOut}
use Rattle.model.specs.declared.Content.{Content}
use Rattle.model.specs.declared.Content.TheVariants.{Text, Plain}
use Rattle.model.specs.declared.SdoRequest.{SdoRequest}
use Rattle.model.specs.declared.SdoRequest.TheVariants as R
use Rattle.model.specs.declared.Frame.{Frame}
use Rattle.model.specs.declared.Upload.{Upload}
use Rattle.model.specs.declared.Core.{Core}
use Rattle.model.specs.declared.State.{State}
use Rattle.model.specs.Choice.{Arm, ◌⇒◌, first_hit}
use Rattle.model.specs.Bytes.{low_bytes, part}
use Rattle.model.specs.Values.{width_of, kind_of, number_of, encoded, decoded}
use Rattle.model.specs.Frames.{full, sdo_replies}
use Rattle.model.specs.Settings.{row, same, judge, is_inside, in_force}
use Rattle.model.specs.Validity.{valid, validity_of, a5h}
use Rattle.model.specs.Parts.{with_upload, open_upload, no_upload, id_of, is_stopped, is_operational}
use Rattle.model.specs.Dictionary.{find, name, content_of}

-- ---- Abort codes

-- a segment request whose toggle is not the upload's
abbrev pub wrong_toggle : ℕ
wrong_toggle = 0x05030000

-- a command byte that is not served, a download that is not expedited, a segment request where no upload is open
abbrev pub unknown_command : ℕ
unknown_command = 0x05040001

-- no object at the index; no sub of it
abbrev pub no_object : ℕ
no_object = 0x06020000

abbrev pub no_sub : ℕ
no_sub = 0x06090011

abbrev pub read_only : ℕ
read_only = 0x06010002

-- a starred entry (*) while Operational
abbrev pub locked : ℕ
locked = 0x08000022

-- more bytes than the entry has; fewer
abbrev pub too_long : ℕ
too_long = 0x06070012

abbrev pub too_short : ℕ
too_short = 0x06070013

-- a Real32 that is not finite, a COB-ID or a type outside its set; above the range; below it
abbrev pub invalid_value : ℕ
invalid_value = 0x06090030

abbrev pub too_high : ℕ
too_high = 0x06090031

abbrev pub too_low : ℕ
too_low = 0x06090032

-- not the word that saves, or that loads defaults
abbrev pub wrong_word : ℕ
wrong_word = 0x08000020

-- A5h where the validity byte would be false
abbrev pub not_valid : ℕ
not_valid = 0x06040043

-- no abort: the write is accepted
abbrev pub accepted : ℕ
accepted = 0

-- ---- The write checks: the first that is broken gives the abort code

-- the words that 1010h and 1011h take
abbrev pub save_word : ℕ
save_word = 0x65766173

abbrev pub load_word : ℕ
load_word = 0x64616f6c

-- the size of a write: the entry's own where none is indicated
unfoldable pub size_for : Kind → Option ℕ → ℕ
size_for k size = unwrap_or size (width_of k)

-- the code that tells how a value stands to its range
abbrev pub range_code : Verdict → ℕ
range_code Inside = accepted
range_code Outside = invalid_value
range_code Above = too_high
range_code Below = too_low

-- A5h for a validity byte that could not vouch: the group is not valid
unfoldable pub unearned : Parameter → Value → State → Bool
unearned p v s =
    same p (validity_of (row p).group) && (eqb (number_of v) a5h && not (valid (row p).group (in_force s.settings)))

-- a starred entry while Operational, then the length
abbrev pub access_checks : Bool → Kind → Option ℕ → State → List (Arm ℕ)
access_checks star k size s =
    (star && is_operational s.core ⇒ locked)
    ∷ (ltb (width_of k) (size_for k size) ⇒ too_long)
    ∷ (ltb (size_for k size) (width_of k) ⇒ too_short)
    ∷ []

-- a saved parameter's value
abbrev pub value_checks : Parameter → Value → State → List (Arm ℕ)
value_checks p v s =
    (not (is_inside (judge (row p).range v)) ⇒ range_code (judge (row p).range v)) ∷ (unearned p v s ⇒ not_valid) ∷ []

-- a word that must be this one
abbrev pub word_checks : ℕ → ℕ → List (Arm ℕ)
word_checks word d = (not (eqb d word) ⇒ wrong_word) ∷ []

-- the first two checks, which a read has too: what the look at index and sub finds
abbrev pub found_code : Result Entry Missing → ℕ
found_code (Err NoObject) = no_object
found_code (Err NoSub) = no_sub
found_code (Ok e) = accepted

-- the abort code of a write of four bytes d, of which `size` count, to what was found; or that it is accepted
unfoldable pub write_code : Result Entry Missing → Option ℕ → ℕ → State → ℕ
write_code (Err m) size d s = found_code (Err m)
write_code (Ok (Fixed v)) size d s = read_only
write_code (Ok Name) size d s = read_only
write_code (Ok (Shown l)) size d s = read_only
write_code (Ok (Setting p)) size d s =
    first_hit (access_checks (row p).star (row p).kind size s ++ value_checks p (decoded (row p).kind d) s) accepted
write_code (Ok (SaveWord gs)) size d s = first_hit (access_checks true K.U32 size s ++ word_checks save_word d) accepted
write_code (Ok (LoadWord gs)) size d s = first_hit (access_checks true K.U32 size s ++ word_checks load_word d) accepted

-- ---- What a write changes, if it is accepted

-- a parameter's value, a save of some groups, or their records taken out
abbrev pub asked : Result Entry Missing → ℕ → Change
asked (Err m) d = Keep
asked (Ok (Fixed v)) d = Keep
asked (Ok Name) d = Keep
asked (Ok (Shown l)) d = Keep
asked (Ok (Setting p)) d = Write p (decoded (row p).kind d)
asked (Ok (SaveWord gs)) d = Save gs
asked (Ok (LoadWord gs)) d = TakeOut gs

-- a write that was checked: what it changes, or the code that it is refused with
unfoldable pub checked_write : Result Entry Missing → Option ℕ → ℕ → State → Result Change ℕ
checked_write f size d s = let code = write_code f size d s in cond (eqb code accepted) (Ok (asked f d)) (Err code)

-- the change of each answer
abbrev pub change_in : Result Change ℕ → Change
change_in (Ok c) = c
change_in (Err code) = Keep

-- of all requests a download alone changes anything
unfoldable pub sdo_change : SdoRequest → State → Change
sdo_change (R.Download index sub size d) s = change_in (checked_write (find index sub) size d s)
sdo_change (R.Upload index sub) s = Keep
sdo_change (R.UploadSegment toggle) s = Keep
sdo_change R.ClientAbort s = Keep
sdo_change R.DownloadSegment s = Keep
sdo_change (R.Unknown index sub) s = Keep

-- ---- The replies

-- eight bytes on the node's own CAN-ID, zeros after these
abbrev pub replied : State → List ℕ → Frame
replied s d = full (sdo_replies + id_of s) d

-- command byte, index and sub, then four bytes
abbrev pub headed : ℕ → ℕ → ℕ → List ℕ → List ℕ
headed command index sub rest = command ∷ (low_bytes 2 index ++ (sub ∷ rest))

-- an accepted write
abbrev pub acknowledged : ℕ → ℕ → State → Frame
acknowledged index sub s = replied s (headed 0x60 index sub [])

-- an abort, with its code
abbrev pub aborted : ℕ → ℕ → ℕ → State → Frame
aborted index sub code s = replied s (headed 0x80 index sub (low_bytes 4 code))

-- a value of up to four bytes goes in the reply itself
abbrev pub expedited : Kind → ℕ
expedited K.U8 = 0x4f
expedited K.U16 = 0x4b
expedited K.U32 = 0x43
expedited K.Integer32 = 0x43
expedited K.Real32 = 0x43

-- the reply that begins an upload: the name's length, since it goes by segments, or the value
abbrev pub uploaded : Content → ℕ → ℕ → State → Frame
uploaded Text index sub s = replied s (headed 0x41 index sub (low_bytes 4 (length name)))
uploaded (Plain v) index sub s = replied s (headed (expedited (kind_of v)) index sub (encoded v))

-- a read has only the first two of the checks
abbrev pub read_from : Result Entry Missing → ℕ → ℕ → State → Frame
read_from (Err m) index sub s = aborted index sub (found_code (Err m)) s
read_from (Ok e) index sub s = uploaded (content_of e s) index sub s

-- ---- The upload by segments, seven bytes each

-- the bytes of the segment that is next, and whether it is the last
abbrev pub segment_bytes : Upload → List ℕ
segment_bytes u = part u.at 7 name

abbrev pub is_last : Upload → Bool
is_last u = leb (length name) (u.at + 7)

-- its first byte: the toggle, how many of the seven are unused, and 1 for the last
unfoldable pub segment_command : Upload → ℕ
segment_command u = u.toggle * 16 + (7 - length (segment_bytes u)) * 2 + cond (is_last u) 1 0

-- the upload after it: the last segment closes it
unfoldable pub segment_sent : Upload → Upload
segment_sent u = cond (is_last u) no_upload (open_upload (u.at + 7) (1 - u.toggle))

-- a segment is sent where an upload is open and its toggle is the one asked for
abbrev pub sends_segment : ℕ → Upload → Bool
sends_segment toggle u = u.busy && eqb toggle u.toggle

-- the object that an open upload reads
abbrev pub upload_index : ℕ
upload_index = 0x1008

-- what an abort names for a request that names nothing: the open upload, or 0000h:00
unfoldable pub open_index : Upload → ℕ
open_index u = cond u.busy upload_index 0

-- no segment: the toggle is wrong, or no upload is open
unfoldable pub segment_code : Upload → ℕ
segment_code u = cond u.busy wrong_toggle unknown_command

unfoldable pub segment_reply : ℕ → State → Frame
segment_reply toggle s =
    let u = s.core.upload in
    cond (sends_segment toggle u) (replied s (segment_command u ∷ segment_bytes u)) (aborted (open_index u) 0 (segment_code u) s)

-- ---- A request as a whole

-- served are requests to this node, unless Stopped
abbrev pub serves : ℕ → State → Bool
serves to s = eqb to (id_of s) && not (is_stopped s.core)

-- the reply to a write
abbrev pub write_reply : Result Change ℕ → ℕ → ℕ → State → Frame
write_reply (Ok c) index sub s = acknowledged index sub s
write_reply (Err code) index sub s = aborted index sub code s

-- the reply to each request; a client's abort has none
unfoldable pub sdo_reply : SdoRequest → State → List Frame
sdo_reply (R.Download index sub size d) s = write_reply (checked_write (find index sub) size d s) index sub s ∷ []
sdo_reply (R.Upload index sub) s = read_from (find index sub) index sub s ∷ []
sdo_reply (R.UploadSegment toggle) s = segment_reply toggle s ∷ []
sdo_reply R.ClientAbort s = []
sdo_reply R.DownloadSegment s = aborted (open_index s.core.upload) 0 unknown_command s ∷ []
sdo_reply (R.Unknown index sub) s = aborted index sub unknown_command s ∷ []

-- an upload of the name opens one
abbrev pub opened : Result Entry Missing → Upload
opened (Err m) = no_upload
opened (Ok (Fixed v)) = no_upload
opened (Ok Name) = open_upload 0 0
opened (Ok (Shown l)) = no_upload
opened (Ok (Setting p)) = no_upload
opened (Ok (SaveWord gs)) = no_upload
opened (Ok (LoadWord gs)) = no_upload

-- the upload after each request: only the next segment keeps an open one, and only a read of the name opens one
unfoldable pub upload_after : SdoRequest → Upload → Upload
upload_after (R.Download index sub size d) u = no_upload
upload_after (R.Upload index sub) u = opened (find index sub)
upload_after (R.UploadSegment toggle) u = cond (sends_segment toggle u) (segment_sent u) no_upload
upload_after R.ClientAbort u = no_upload
upload_after R.DownloadSegment u = no_upload
upload_after (R.Unknown index sub) u = no_upload

-- the core after a request
abbrev pub sdo_served : SdoRequest → Core → Core
sdo_served r c = with_upload c (upload_after r c.upload)
