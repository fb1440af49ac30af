-- Worked examples: short runs from a power-on on 64 zero bytes, each to show one rule, computed. First the events, then every frame sent, as
-- CAN-ID and data. Assumes nothing.
use Prim.Native.Nat.{ℕ}
use mathlib.Core.Path.{◌≡◌, refl}
use mathlib.Core.Bool.{false}
use mathlib.Core.List.{List, [], ◌∷◌, ◌++◌}
use lib.ListN.{replicate}
use Rattle.model.specs.declared.Value.TheVariants.{U16}
use Rattle.model.specs.declared.Parameter.TheVariants.{P1017}
use Rattle.model.specs.declared.Groups.TheVariants.{Both, OnlyC}
use Rattle.model.specs.declared.Change.TheVariants.{Keep, Write, Save, Load}
use Rattle.model.specs.declared.State.{State}
use Rattle.model.specs.Parts.{with_core, with_nmt, with_timers, timers, sending, address}
use Rattle.model.specs.Store.{read}
use Rattle.model.specs.Step.{refusal, refused, power_on_answer, zero_store}
use Rattle.model.specs.Run.{called, World, run}
use Rattle.model.specs.History.{kept, three, addresses, deeds, value}
use Rattle.model.specs.Program.{program}
use Rattle.model.proofs.Everything.{everything}
use Rattle.model.proofs.Replay.{asks, asks_tpdo, reads, writes, commands, lss, sync, a_tick, ticks, sample, identity, spoken, calls, after, plainly, transcript}

-- ---- The program's example: 6132h:1 is read, 5 is written to it, a tick passes
--
--   0 701 00
--   1 581 4F32610102000000
--   2 581 8032610131000906
--   end 3 events 3 frames

pub example : program (reads 0x6132 1 ++ writes 1 0x6132 1 5 ++ a_tick) ≡
    (48 ∷ 32 ∷ 55 ∷ 48 ∷ 49 ∷ 32 ∷ 48 ∷ 48 ∷ 10 ∷ [])
    ++ (49 ∷ 32 ∷ 53 ∷ 56 ∷ 49 ∷ 32 ∷ 52 ∷ 70 ∷ 51 ∷ 50 ∷ 54 ∷ 49 ∷ 48 ∷ 49 ∷ 48 ∷ 50 ∷ 48 ∷ 48 ∷ 48 ∷ 48 ∷ 48 ∷ 48 ∷ 10 ∷ [])
    ++ (50 ∷ 32 ∷ 53 ∷ 56 ∷ 49 ∷ 32 ∷ 56 ∷ 48 ∷ 51 ∷ 50 ∷ 54 ∷ 49 ∷ 48 ∷ 49 ∷ 51 ∷ 49 ∷ 48 ∷ 48 ∷ 48 ∷ 57 ∷ 48 ∷ 54 ∷ 10 ∷ [])
    ++ (101 ∷ 110 ∷ 100 ∷ 32 ∷ 51 ∷ 32 ∷ 101 ∷ 118 ∷ 101 ∷ 110 ∷ 116 ∷ 115 ∷ 32 ∷ 51 ∷ 32 ∷ 102 ∷ 114 ∷ 97 ∷ 109 ∷ 101 ∷ 115 ∷ 10 ∷ [])
unfolding everything
example = refl

-- ---- A short record is refused by 1, and counts as read
--
--   0 701 00
--   1 refused 1
--   end 1 events 1 frames

pub short_record : program (2 ∷ 0 ∷ []) ≡
    (48 ∷ 32 ∷ 55 ∷ 48 ∷ 49 ∷ 32 ∷ 48 ∷ 48 ∷ 10 ∷ [])
    ++ (49 ∷ 32 ∷ 114 ∷ 101 ∷ 102 ∷ 117 ∷ 115 ∷ 101 ∷ 100 ∷ 32 ∷ 49 ∷ 10 ∷ [])
    ++ (101 ∷ 110 ∷ 100 ∷ 32 ∷ 49 ∷ 32 ∷ 101 ∷ 118 ∷ 101 ∷ 110 ∷ 116 ∷ 115 ∷ 32 ∷ 49 ∷ 32 ∷ 102 ∷ 114 ∷ 97 ∷ 109 ∷ 101 ∷ 115 ∷ 10 ∷ [])
unfolding everything
short_record = refl

-- ---- The order of the checks, two rules broken at once: in Operational a starred entry is locked before its value is looked at (5 is out of range);
-- 1000h is read-only before its length is; without a star, the length comes before the value

pub in_order : transcript
    (writes 1 0x1301 1 0
    ∷ writes 2 0x51ff 1 0xea44
    ∷ writes 1 0x51fe 0 0xa5
    ∷ commands 1 0
    ∷ writes 1 0x6132 1 5
    ∷ writes 1 0x1000 0 0
    ∷ writes 2 0x1800 2 250
    ∷ [])
    ≡ (0x701 ∷ 0 ∷ [])
    ∷ (0x581 ∷ 0x60 ∷ 0x01 ∷ 0x13 ∷ 1 ∷ 0 ∷ 0 ∷ 0 ∷ 0 ∷ [])
    ∷ (0x581 ∷ 0x60 ∷ 0xff ∷ 0x51 ∷ 1 ∷ 0 ∷ 0 ∷ 0 ∷ 0 ∷ [])
    ∷ (0x581 ∷ 0x60 ∷ 0xfe ∷ 0x51 ∷ 0 ∷ 0 ∷ 0 ∷ 0 ∷ 0 ∷ [])
    ∷ (0x581 ∷ 0x80 ∷ 0x32 ∷ 0x61 ∷ 1 ∷ 0x22 ∷ 0x00 ∷ 0x00 ∷ 0x08 ∷ [])
    ∷ (0x581 ∷ 0x80 ∷ 0x00 ∷ 0x10 ∷ 0 ∷ 0x02 ∷ 0x00 ∷ 0x01 ∷ 0x06 ∷ [])
    ∷ (0x581 ∷ 0x80 ∷ 0x00 ∷ 0x18 ∷ 2 ∷ 0x12 ∷ 0x00 ∷ 0x07 ∷ 0x06 ∷ [])
    ∷ []
unfolding after
in_order = refl

-- ---- Both groups signed, Start, a sample of 12000 and 25 ticks: the SRDO pair, 80.0 bar and its inverse

pub pair : transcript
    (writes 2 0x13ff 1 0x0a32
    ∷ writes 1 0x13fe 0 0xa5
    ∷ writes 2 0x51ff 1 0xea44
    ∷ writes 1 0x51fe 0 0xa5
    ∷ commands 1 1
    ∷ sample 12000
    ∷ ticks 25)
    ≡ (0x701 ∷ 0 ∷ [])
    ∷ (0x581 ∷ 0x60 ∷ 0xff ∷ 0x13 ∷ 1 ∷ 0 ∷ 0 ∷ 0 ∷ 0 ∷ [])
    ∷ (0x581 ∷ 0x60 ∷ 0xfe ∷ 0x13 ∷ 0 ∷ 0 ∷ 0 ∷ 0 ∷ 0 ∷ [])
    ∷ (0x581 ∷ 0x60 ∷ 0xff ∷ 0x51 ∷ 1 ∷ 0 ∷ 0 ∷ 0 ∷ 0 ∷ [])
    ∷ (0x581 ∷ 0x60 ∷ 0xfe ∷ 0x51 ∷ 0 ∷ 0 ∷ 0 ∷ 0 ∷ 0 ∷ [])
    ∷ (0x101 ∷ 0x00 ∷ 0x00 ∷ 0xa0 ∷ 0x42 ∷ [])
    ∷ (0x102 ∷ 0xff ∷ 0xff ∷ 0x5f ∷ 0xbd ∷ [])
    ∷ []
unfolding after
pair = refl

-- ---- What the user lost a lot of spruce by: signed off, then the digits written again. The same digits leave 51FEh; others set it to 0, and
-- A5h is then refused and Start not obeyed

pub digits_again : transcript
    (writes 2 0x51ff 1 0xea44
    ∷ writes 1 0x51fe 0 0xa5
    ∷ writes 1 0x6132 1 2
    ∷ reads 0x51fe 0
    ∷ writes 1 0x6132 1 4
    ∷ reads 0x51fe 0
    ∷ writes 1 0x51fe 0 0xa5
    ∷ commands 1 0
    ∷ ticks 100)
    ≡ (0x701 ∷ 0 ∷ [])
    ∷ (0x581 ∷ 0x60 ∷ 0xff ∷ 0x51 ∷ 1 ∷ 0 ∷ 0 ∷ 0 ∷ 0 ∷ [])
    ∷ (0x581 ∷ 0x60 ∷ 0xfe ∷ 0x51 ∷ 0 ∷ 0 ∷ 0 ∷ 0 ∷ 0 ∷ [])
    ∷ (0x581 ∷ 0x60 ∷ 0x32 ∷ 0x61 ∷ 1 ∷ 0 ∷ 0 ∷ 0 ∷ 0 ∷ [])
    ∷ (0x581 ∷ 0x4f ∷ 0xfe ∷ 0x51 ∷ 0 ∷ 0xa5 ∷ 0 ∷ 0 ∷ 0 ∷ [])
    ∷ (0x581 ∷ 0x60 ∷ 0x32 ∷ 0x61 ∷ 1 ∷ 0 ∷ 0 ∷ 0 ∷ 0 ∷ [])
    ∷ (0x581 ∷ 0x4f ∷ 0xfe ∷ 0x51 ∷ 0 ∷ 0 ∷ 0 ∷ 0 ∷ 0 ∷ [])
    ∷ (0x581 ∷ 0x80 ∷ 0xfe ∷ 0x51 ∷ 0 ∷ 0x43 ∷ 0x00 ∷ 0x04 ∷ 0x06 ∷ [])
    ∷ []
unfolding after
digits_again = refl

-- ---- Capped: 1,000,000.0 at FV 20000 with four digits. EMCY FF01h goes after the reply; with two digits again, EMCY 0000h

pub capping : transcript
    (sample 20000
    ∷ writes 4 0x6123 1 0x49742400
    ∷ writes 1 0x6132 1 4
    ∷ reads 0x1001 0
    ∷ reads 0x9130 1
    ∷ writes 1 0x6132 1 2
    ∷ [])
    ≡ (0x701 ∷ 0 ∷ [])
    ∷ (0x581 ∷ 0x60 ∷ 0x23 ∷ 0x61 ∷ 1 ∷ 0 ∷ 0 ∷ 0 ∷ 0 ∷ [])
    ∷ (0x581 ∷ 0x60 ∷ 0x32 ∷ 0x61 ∷ 1 ∷ 0 ∷ 0 ∷ 0 ∷ 0 ∷ [])
    ∷ (0x081 ∷ 0x01 ∷ 0xff ∷ 0x81 ∷ 0 ∷ 0 ∷ 0 ∷ 0 ∷ 0 ∷ [])
    ∷ (0x581 ∷ 0x4f ∷ 0x01 ∷ 0x10 ∷ 0 ∷ 0x81 ∷ 0 ∷ 0 ∷ 0 ∷ [])
    ∷ (0x581 ∷ 0x43 ∷ 0x30 ∷ 0x91 ∷ 1 ∷ 0xff ∷ 0xff ∷ 0xff ∷ 0x7f ∷ [])
    ∷ (0x581 ∷ 0x60 ∷ 0x32 ∷ 0x61 ∷ 1 ∷ 0 ∷ 0 ∷ 0 ∷ 0 ∷ [])
    ∷ (0x081 ∷ 0 ∷ 0 ∷ 0 ∷ 0 ∷ 0 ∷ 0 ∷ 0 ∷ 0 ∷ [])
    ∷ []
unfolding after
capping = refl

-- ---- Saved and taken out: 1017h is written and saved, the load word takes group C out of the store, and its value stays until the reset

abbrev pub saving : List (List ℕ)
saving =
    writes 2 0x1017 0 500
    ∷ writes 4 0x1010 1 0x65766173
    ∷ writes 4 0x1011 2 0x64616f6c
    ∷ reads 0x1017 0
    ∷ commands 130 0
    ∷ reads 0x1017 0
    ∷ []

pub save_and_load : transcript saving ≡
    (0x701 ∷ 0 ∷ [])
    ∷ (0x581 ∷ 0x60 ∷ 0x17 ∷ 0x10 ∷ 0 ∷ 0 ∷ 0 ∷ 0 ∷ 0 ∷ [])
    ∷ (0x581 ∷ 0x60 ∷ 0x10 ∷ 0x10 ∷ 1 ∷ 0 ∷ 0 ∷ 0 ∷ 0 ∷ [])
    ∷ (0x581 ∷ 0x60 ∷ 0x11 ∷ 0x10 ∷ 2 ∷ 0 ∷ 0 ∷ 0 ∷ 0 ∷ [])
    ∷ (0x581 ∷ 0x4b ∷ 0x17 ∷ 0x10 ∷ 0 ∷ 0xf4 ∷ 0x01 ∷ 0 ∷ 0 ∷ [])
    ∷ (0x701 ∷ 0 ∷ [])
    ∷ (0x581 ∷ 0x4b ∷ 0x17 ∷ 0x10 ∷ 0 ∷ 0 ∷ 0 ∷ 0 ∷ 0 ∷ [])
    ∷ []
unfolding after
save_and_load = refl

-- the store then: A from byte 0, zeros, the places of C (absent), A and N (absent), the CRC
pub saved_store : (plainly saving).store ≡
    (0 ∷ 0 ∷ 0 ∷ 0 ∷ 0 ∷ 0 ∷ 0 ∷ 0x20 ∷ 0x43 ∷ 0 ∷ 0 ∷ 0 ∷ 0 ∷ 2 ∷ 0 ∷ 0 ∷ 0 ∷ [])
    ++ replicate 39 0
    ++ (0xff ∷ 0xff ∷ 0 ∷ 0 ∷ 0xff ∷ 0xff ∷ 0x1f ∷ 0x66 ∷ [])
unfolding after
saved_store = refl

-- ---- Reset node brings group A back as it was saved: 3 digits are saved, 4 are written, and after the reset there are 3

pub node_reset : transcript
    (writes 1 0x6132 1 3
    ∷ writes 4 0x1010 1 0x65766173
    ∷ writes 1 0x6132 1 4
    ∷ commands 129 0
    ∷ reads 0x6132 1
    ∷ [])
    ≡ (0x701 ∷ 0 ∷ [])
    ∷ (0x581 ∷ 0x60 ∷ 0x32 ∷ 0x61 ∷ 1 ∷ 0 ∷ 0 ∷ 0 ∷ 0 ∷ [])
    ∷ (0x581 ∷ 0x60 ∷ 0x10 ∷ 0x10 ∷ 1 ∷ 0 ∷ 0 ∷ 0 ∷ 0 ∷ [])
    ∷ (0x581 ∷ 0x60 ∷ 0x32 ∷ 0x61 ∷ 1 ∷ 0 ∷ 0 ∷ 0 ∷ 0 ∷ [])
    ∷ (0x701 ∷ 0 ∷ [])
    ∷ (0x581 ∷ 0x4f ∷ 0x32 ∷ 0x61 ∷ 1 ∷ 3 ∷ 0 ∷ 0 ∷ 0 ∷ [])
    ∷ []
unfolding after
node_reset = refl

-- ---- A changed ID: C is saved under ID 1 with 1301h:5 at 17Fh, the node becomes 5, and 1301h:5 and :6 take the defaults of ID 5

pub changed_id : transcript
    (writes 4 0x1301 5 0x17f
    ∷ writes 4 0x1010 2 0x65766173
    ∷ lss (0x04 ∷ 1 ∷ [])
    ∷ lss (0x11 ∷ 5 ∷ [])
    ∷ commands 130 0
    ∷ asks 5 (0x40 ∷ 0x01 ∷ 0x13 ∷ 5 ∷ [])
    ∷ asks 5 (0x40 ∷ 0x01 ∷ 0x13 ∷ 6 ∷ [])
    ∷ [])
    ≡ (0x701 ∷ 0 ∷ [])
    ∷ (0x581 ∷ 0x60 ∷ 0x01 ∷ 0x13 ∷ 5 ∷ 0 ∷ 0 ∷ 0 ∷ 0 ∷ [])
    ∷ (0x581 ∷ 0x60 ∷ 0x10 ∷ 0x10 ∷ 2 ∷ 0 ∷ 0 ∷ 0 ∷ 0 ∷ [])
    ∷ (0x7e4 ∷ 0x11 ∷ 0 ∷ 0 ∷ 0 ∷ 0 ∷ 0 ∷ 0 ∷ 0 ∷ [])
    ∷ (0x705 ∷ 0 ∷ [])
    ∷ (0x585 ∷ 0x43 ∷ 0x01 ∷ 0x13 ∷ 5 ∷ 0x09 ∷ 0x01 ∷ 0 ∷ 0 ∷ [])
    ∷ (0x585 ∷ 0x43 ∷ 0x01 ∷ 0x13 ∷ 6 ∷ 0x0a ∷ 0x01 ∷ 0 ∷ 0 ∷ [])
    ∷ []
unfolding after
changed_id = refl

-- ---- LSS: a selection that is broken by a wrong number, then one that is not, and the active ID

pub selecting : spoken (after (identity 1 2 3 4)
    (lss (0x40 ∷ 1 ∷ [])
    ∷ lss (0x41 ∷ 9 ∷ [])
    ∷ lss (0x42 ∷ 3 ∷ [])
    ∷ lss (0x43 ∷ 4 ∷ [])
    ∷ lss (0x5e ∷ [])
    ∷ lss (0x40 ∷ 1 ∷ [])
    ∷ lss (0x41 ∷ 2 ∷ [])
    ∷ lss (0x42 ∷ 3 ∷ [])
    ∷ lss (0x43 ∷ 4 ∷ [])
    ∷ lss (0x5e ∷ [])
    ∷ [])).log []
    ≡ (0x701 ∷ 0 ∷ []) ∷ (0x7e4 ∷ 0x44 ∷ 0 ∷ 0 ∷ 0 ∷ 0 ∷ 0 ∷ 0 ∷ 0 ∷ []) ∷ (0x7e4 ∷ 0x5e ∷ 1 ∷ 0 ∷ 0 ∷ 0 ∷ 0 ∷ 0 ∷ 0 ∷ []) ∷ []
unfolding after
selecting = refl

-- ---- The name in its three segments, and a request too many

pub name_read : transcript
    (reads 0x1008 0
    ∷ asks 1 (0x60 ∷ [])
    ∷ asks 1 (0x70 ∷ [])
    ∷ asks 1 (0x60 ∷ [])
    ∷ asks 1 (0x70 ∷ [])
    ∷ [])
    ≡ (0x701 ∷ 0 ∷ [])
    ∷ (0x581 ∷ 0x41 ∷ 0x08 ∷ 0x10 ∷ 0 ∷ 0x0f ∷ 0 ∷ 0 ∷ 0 ∷ [])
    ∷ (0x581 ∷ 0x00 ∷ 0x43 ∷ 0x52 ∷ 0x41 ∷ 0x44 ∷ 0x4c ∷ 0x45 ∷ 0x2d ∷ [])
    ∷ (0x581 ∷ 0x10 ∷ 0x50 ∷ 0x52 ∷ 0x45 ∷ 0x53 ∷ 0x53 ∷ 0x55 ∷ 0x52 ∷ [])
    ∷ (0x581 ∷ 0x0d ∷ 0x45 ∷ 0 ∷ 0 ∷ 0 ∷ 0 ∷ 0 ∷ 0 ∷ [])
    ∷ (0x581 ∷ 0x80 ∷ 0x00 ∷ 0x00 ∷ 0 ∷ 0x01 ∷ 0x00 ∷ 0x04 ∷ 0x05 ∷ [])
    ∷ []
unfolding after
name_read = refl

-- ---- What ends an upload, and what its abort names: a wrong toggle, 1008h:00, and then there is none (0000h:00); a download segment likewise

pub name_broken : transcript
    (reads 0x1008 0
    ∷ asks 1 (0x70 ∷ [])
    ∷ asks 1 (0x60 ∷ [])
    ∷ reads 0x1008 0
    ∷ asks 1 (0x00 ∷ [])
    ∷ asks 1 (0x60 ∷ [])
    ∷ [])
    ≡ (0x701 ∷ 0 ∷ [])
    ∷ (0x581 ∷ 0x41 ∷ 0x08 ∷ 0x10 ∷ 0 ∷ 0x0f ∷ 0 ∷ 0 ∷ 0 ∷ [])
    ∷ (0x581 ∷ 0x80 ∷ 0x08 ∷ 0x10 ∷ 0 ∷ 0x00 ∷ 0x00 ∷ 0x03 ∷ 0x05 ∷ [])
    ∷ (0x581 ∷ 0x80 ∷ 0x00 ∷ 0x00 ∷ 0 ∷ 0x01 ∷ 0x00 ∷ 0x04 ∷ 0x05 ∷ [])
    ∷ (0x581 ∷ 0x41 ∷ 0x08 ∷ 0x10 ∷ 0 ∷ 0x0f ∷ 0 ∷ 0 ∷ 0 ∷ [])
    ∷ (0x581 ∷ 0x80 ∷ 0x08 ∷ 0x10 ∷ 0 ∷ 0x01 ∷ 0x00 ∷ 0x04 ∷ 0x05 ∷ [])
    ∷ (0x581 ∷ 0x80 ∷ 0x00 ∷ 0x00 ∷ 0 ∷ 0x01 ∷ 0x00 ∷ 0x04 ∷ 0x05 ∷ [])
    ∷ []
unfolding after
name_broken = refl

-- ---- A sample is used up by the TPDO that tells it, and forgotten at a restart: type 253 answers a remote frame; type 0, written after a sample, sends
-- nothing at the SYNC that follows, and then once at the first SYNC after another sample

abbrev pub sampling : List (List ℕ)
sampling =
    writes 1 0x1301 1 0
    ∷ writes 2 0x51ff 1 0xea44
    ∷ writes 1 0x51fe 0 0xa5
    ∷ writes 1 0x1800 2 253
    ∷ commands 1 0
    ∷ sample 12000
    ∷ asks_tpdo
    ∷ []

pub sample_told : (plainly sampling).state.core.tpdo ≡ sending 0 false
unfolding after
sample_told = refl

pub sample_once : transcript (sampling ++ (sample 12000 ∷ writes 1 0x1800 2 0 ∷ sync ∷ sample 8000 ∷ sync ∷ sync ∷ [])) ≡
    (0x701 ∷ 0 ∷ [])
    ∷ (0x581 ∷ 0x60 ∷ 0x01 ∷ 0x13 ∷ 1 ∷ 0 ∷ 0 ∷ 0 ∷ 0 ∷ [])
    ∷ (0x581 ∷ 0x60 ∷ 0xff ∷ 0x51 ∷ 1 ∷ 0 ∷ 0 ∷ 0 ∷ 0 ∷ [])
    ∷ (0x581 ∷ 0x60 ∷ 0xfe ∷ 0x51 ∷ 0 ∷ 0 ∷ 0 ∷ 0 ∷ 0 ∷ [])
    ∷ (0x581 ∷ 0x60 ∷ 0x00 ∷ 0x18 ∷ 2 ∷ 0 ∷ 0 ∷ 0 ∷ 0 ∷ [])
    ∷ (0x181 ∷ 0x40 ∷ 0x1f ∷ 0 ∷ 0 ∷ [])
    ∷ (0x581 ∷ 0x60 ∷ 0x00 ∷ 0x18 ∷ 2 ∷ 0 ∷ 0 ∷ 0 ∷ 0 ∷ [])
    ∷ (0x181 ∷ 0xa0 ∷ 0x0f ∷ 0 ∷ 0 ∷ [])
    ∷ []
unfolding after
sample_once = refl

-- ---- A heartbeat of 2 ms across the wrap of the clock: from 65535 the ticks go to 0, 1, 2, 3

abbrev pub at_the_top : State → State
at_the_top s = with_core s (with_timers s.core (timers 65535 65535 65535 65535))

abbrev pub beating : World
beating = plainly (writes 2 0x1017 0 2 ∷ [])

pub across_the_wrap : spoken (run (calls (ticks 4)) (record { state = at_the_top beating.state; store = beating.store; log = [] })).log []
    ≡ (0x701 ∷ 0x7f ∷ []) ∷ (0x701 ∷ 0x7f ∷ []) ∷ []
unfolding everything after
across_the_wrap = refl

-- ---- A stopped node beats on, and says that it is Stopped (4)

pub stopped_heartbeat : transcript (writes 2 0x1017 0 2 ∷ commands 2 0 ∷ ticks 4) ≡
    (0x701 ∷ 0 ∷ [])
    ∷ (0x581 ∷ 0x60 ∷ 0x17 ∷ 0x10 ∷ 0 ∷ 0 ∷ 0 ∷ 0 ∷ 0 ∷ [])
    ∷ (0x701 ∷ 4 ∷ [])
    ∷ (0x701 ∷ 4 ∷ [])
    ∷ []
unfolding after
stopped_heartbeat = refl

-- ---- Type 255 goes by the event timer as 254 does: 3 ms, and the integer PV at FV 0, -4000

pub type_255 : transcript
    (writes 1 0x1301 1 0
    ∷ writes 2 0x51ff 1 0xea44
    ∷ writes 1 0x51fe 0 0xa5
    ∷ writes 1 0x1800 2 255
    ∷ writes 2 0x1800 5 3
    ∷ commands 1 0
    ∷ ticks 6)
    ≡ (0x701 ∷ 0 ∷ [])
    ∷ (0x581 ∷ 0x60 ∷ 0x01 ∷ 0x13 ∷ 1 ∷ 0 ∷ 0 ∷ 0 ∷ 0 ∷ [])
    ∷ (0x581 ∷ 0x60 ∷ 0xff ∷ 0x51 ∷ 1 ∷ 0 ∷ 0 ∷ 0 ∷ 0 ∷ [])
    ∷ (0x581 ∷ 0x60 ∷ 0xfe ∷ 0x51 ∷ 0 ∷ 0 ∷ 0 ∷ 0 ∷ 0 ∷ [])
    ∷ (0x581 ∷ 0x60 ∷ 0x00 ∷ 0x18 ∷ 2 ∷ 0 ∷ 0 ∷ 0 ∷ 0 ∷ [])
    ∷ (0x581 ∷ 0x60 ∷ 0x00 ∷ 0x18 ∷ 5 ∷ 0 ∷ 0 ∷ 0 ∷ 0 ∷ [])
    ∷ (0x181 ∷ 0x60 ∷ 0xf0 ∷ 0xff ∷ 0xff ∷ [])
    ∷ (0x181 ∷ 0x60 ∷ 0xf0 ∷ 0xff ∷ 0xff ∷ [])
    ∷ []
unfolding after
type_255 = refl

-- ---- A write of 1301h:2 at clock 5 restarts the SRDO's timer, and no other. (1301h:2 can't be written while Operational, and Start restarts the timer
-- too: so this shows in the state alone)

pub srdo_restarted : (plainly (ticks 5 ++ (writes 2 0x1301 2 50 ∷ []))).state.core.timers ≡ timers 5 0 0 5
unfolding after
srdo_restarted = refl

-- ---- The refusals: each by itself, the lowest of several, and a tick that ignores its other bytes; and a refused power-on

abbrev pub idle : State
idle = (plainly []).state

abbrev pub broken : State
broken = with_core idle (with_nmt idle.core 6)

pub refusals : refusal (replicate 12 2) idle 48 64
    ∷ refusal (4 ∷ replicate 12 0) idle 48 64
    ∷ refusal (1 ∷ 0 ∷ 8 ∷ replicate 10 0) idle 48 64
    ∷ refusal (2 ∷ replicate 12 0) idle 47 64
    ∷ refusal (2 ∷ replicate 12 0) idle 48 63
    ∷ refusal (2 ∷ replicate 12 0) broken 48 64
    ∷ refusal (0 ∷ replicate 12 0) broken 0 0
    ∷ refusal (2 ∷ replicate 12 255) idle 48 64
    ∷ []
    ≡ 1 ∷ 2 ∷ 3 ∷ 4 ∷ 5 ∷ 6 ∷ 2 ∷ 0 ∷ []
unfolding everything after
refusals = refl

pub refused_power_on : power_on_answer (identity 1 2 3 4) (7 ∷ 7 ∷ []) [] ≡ refused 4 (after (identity 1 2 3 4) []).state (7 ∷ 7 ∷ []) []
unfolding everything after
refused_power_on = refl

-- ---- What the log alone tells: a write, a save, a write that is not saved, a refused one (5 is out of range), a reset. 1017h is 500 again

abbrev pub remembering : World
remembering =
    plainly
    (writes 2 0x1017 0 500 ∷ writes 4 0x1010 1 0x65766173 ∷ writes 2 0x1017 0 7 ∷ writes 1 0x6132 1 5 ∷ commands 130 0 ∷ [])

pub deeds_told : deeds (read zero_store) remembering.log ≡
    Load OnlyC 1 ∷ Keep ∷ Write P1017 (U16 7) ∷ Save Both ∷ Write P1017 (U16 500) ∷ Load Both 1 ∷ []
unfolding everything after
deeds_told = refl

pub value_told : value (read zero_store) P1017 (deeds (read zero_store) remembering.log) ≡ U16 500
unfolding everything after
value_told = refl

-- ---- and of Node-ID and bit index: 5 and 2 are set by LSS and stored, then 7 is set, and after 128, which is out of range, the node is reset: 7 is
-- active, its bit index stays 3 till the next power-on or reset node, and N holds 5 and 2

abbrev pub moving : World
moving =
    plainly
    (lss (0x04 ∷ 1 ∷ []) ∷ lss (0x11 ∷ 5 ∷ []) ∷ lss (0x13 ∷ 0 ∷ 2 ∷ []) ∷ lss (0x17 ∷ []) ∷ lss (0x11 ∷ 7 ∷ []) ∷ lss (0x11 ∷ 128 ∷ []) ∷ commands 130 0 ∷ [])

pub addresses_told : addresses (read zero_store) moving.log ≡ three (address 7 3) (address 7 2) (kept (address 5 2))
unfolding everything after
addresses_told = refl

-- a reset that a line shows as refused by 2 is a load all the same: its bytes and its output are in order
pub number_not_believed : deeds (read zero_store) (called (commands 130 0) 48 2 [] ∷ moving.log) ≡ Load OnlyC 7 ∷ deeds (read zero_store) moving.log
unfolding everything after
number_not_believed = refl
