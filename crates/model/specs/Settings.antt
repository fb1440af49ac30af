-- Document 01, "Dictionary": the saved parameters. One table gives each its star, type, range, default and group. Assumes nothing.
use Rattle.std.specs.Prelude.{ℕ, ◌+◌, ◌*◌, ◌%◌, Bool, true, false, cond, ◌&&◌, ◌||◌, List, [], ◌∷◌, ◌++◌, eqb, leb, ltb, Float}
use Rattle.std.specs.Float.{binary32}
use Rattle.std.specs.Float.Ieee.{of_bits}
use Rattle.model.specs.declared.Value.{Value}
use Rattle.model.specs.declared.Value.TheVariants.{U8, U16, U32, Real32}
use Rattle.model.specs.declared.Kind.{Kind}
use Rattle.model.specs.declared.Kind.TheVariants as K
use Rattle.model.specs.declared.Parameter.{Parameter}
use Rattle.model.specs.declared.Parameter.TheVariants.{P1017, P1301s1, P1301s2, P1301s3, P1301s5, P1301s6, P1800s2, P1800s5, P13FE, P13FF, P2330, P6121, P6123, P6124, P6132, P51FE, P51FF}
use Rattle.model.specs.declared.Group.{Group}
use Rattle.model.specs.declared.Group.TheVariants.{C, A}
use Rattle.model.specs.declared.Groups.{Groups}
use Rattle.model.specs.declared.Groups.TheVariants.{Both, OnlyC, OnlyA}
use Rattle.model.specs.declared.Verdict.{Verdict}
use Rattle.model.specs.declared.Verdict.TheVariants.{Inside, Outside, Above, Below}
use Rattle.model.specs.declared.Settings.{Settings}
use Rattle.model.specs.Bytes.{within}
use Rattle.model.specs.Reading.{judge_real}
use Rattle.model.specs.Values.{number_of, encoded, float_of}

-- ---- The columns of the table

-- a range: every value of the type; from .. to; a set of numbers; or the one of the Real32 parameters
pub data Range : Type 0 where
  all : Range
  between : ℕ → ℕ → Range
  one_of : (ℕ → Bool) → Range
  real : Range

-- a row: its number, whether it has the star *, type, range, default for a Node-ID, group
pub record Row : Type 0 where
  pub number : ℕ
  pub star : Bool
  pub kind : Kind
  pub range : Range
  pub default : ℕ → Value
  pub group : Group

abbrev pub line : ℕ → Bool → Kind → Range → (ℕ → Value) → Group → Row
line number star kind range default group =
    record { number = number; star = star; kind = kind; range = range; default = default; group = group }

-- the star *, and none
abbrev pub starred : Bool
starred = true

abbrev pub free : Bool
free = false

-- a default that is the same for every ID
abbrev pub is : Value → ℕ → Value
is v id = v

-- the COB-IDs that 1301h:5 may have, and 1301h:6
abbrev pub odd_cob : ℕ → Bool
odd_cob n = within 0x101 0x17f n && eqb (n % 2) 1

abbrev pub even_cob : ℕ → Bool
even_cob n = within 0x102 0x180 n && eqb (n % 2) 0

-- the transmission types
abbrev pub tpdo_type : ℕ → Bool
tpdo_type n = leb n 240 || within 252 255 n

-- the default COB-IDs for an ID, the same for all above 64
unfoldable pub first_cob : ℕ → ℕ
first_cob id = cond (ltb 64 id) 0x17f (0xff + 2 * id)

unfoldable pub second_cob : ℕ → ℕ
second_cob id = cond (ltb 64 id) 0x180 (0x100 + 2 * id)

-- ---- The table

-- number, star *, type, range, default, group
abbrev pub row : Parameter → Row
row P1017 = line 0 free K.U16 all (is (U16 0)) C
row P1301s1 = line 1 starred K.U8 (between 0 1) (is (U8 1)) C
row P1301s2 = line 2 starred K.U16 (between 1 65535) (is (U16 25)) C
row P1301s3 = line 3 starred K.U8 (between 1 255) (is (U8 20)) C
row P1301s5 = line 4 starred K.U32 (one_of odd_cob) (λ id. U32 (first_cob id)) C
row P1301s6 = line 5 starred K.U32 (one_of even_cob) (λ id. U32 (second_cob id)) C
row P1800s2 = line 6 free K.U8 (one_of tpdo_type) (is (U8 254)) C
row P1800s5 = line 7 free K.U16 all (is (U16 100)) C
row P13FE = line 8 starred K.U8 all (is (U8 0)) C
row P13FF = line 9 starred K.U16 all (is (U16 0)) C
row P2330 = line 10 free K.U8 (between 0 1) (is (U8 0)) A
row P6121 = line 11 starred K.Real32 real (is (Real32 (of_bits binary32 0))) A
row P6123 = line 12 starred K.Real32 real (is (Real32 (of_bits binary32 0x43200000))) A
row P6124 = line 13 starred K.Real32 real (is (Real32 (of_bits binary32 0))) A
row P6132 = line 14 starred K.U8 (between 0 4) (is (U8 2)) A
row P51FE = line 15 starred K.U8 all (is (U8 0)) A
row P51FF = line 16 starred K.U16 all (is (U16 0)) A

-- the rows in the table's order
abbrev pub table : List Parameter
table =
    P1017
    ∷ P1301s1
    ∷ P1301s2
    ∷ P1301s3
    ∷ P1301s5
    ∷ P1301s6
    ∷ P1800s2
    ∷ P1800s5
    ∷ P13FE
    ∷ P13FF
    ∷ P2330
    ∷ P6121
    ∷ P6123
    ∷ P6124
    ∷ P6132
    ∷ P51FE
    ∷ P51FF
    ∷ []

-- p and q are the same parameter
abbrev pub same : Parameter → Parameter → Bool
same p q = eqb (row p).number (row q).number

-- a parameter is one of those listed
abbrev pub among : List Parameter → Parameter → Bool
among [] p = false
among (q ∷ qs) p = same p q || among qs p

-- two groups are the same
abbrev pub same_group : Group → Group → Bool
same_group C C = true
same_group C A = false
same_group A C = false
same_group A A = true

-- a group is one of those that a sub of 1010h or 1011h names
abbrev pub has : Groups → Group → Bool
has Both g = true
has OnlyC g = same_group g C
has OnlyA g = same_group g A

-- those of some rows that are in a group
abbrev pub in_group : Group → List Parameter → List Parameter
in_group g [] = []
in_group g (p ∷ ps) = cond (same_group (row p).group g) (p ∷ []) [] ++ in_group g ps

-- the rows of a group, in the table's order
unfoldable pub rows : Group → List Parameter
rows g = in_group g table

-- ---- The values in force

-- the value of a parameter
abbrev pub in_force : Settings → Parameter → Value
in_force k P1017 = U16 k.communication.heartbeat
in_force k P1301s1 = U8 k.communication.srdo.direction
in_force k P1301s2 = U16 k.communication.srdo.refresh
in_force k P1301s3 = U8 k.communication.srdo.validation
in_force k P1301s5 = U32 k.communication.srdo.first
in_force k P1301s6 = U32 k.communication.srdo.second
in_force k P1800s2 = U8 k.communication.tpdo.kind
in_force k P1800s5 = U16 k.communication.tpdo.period
in_force k P13FE = U8 k.communication.valid
in_force k P13FF = U16 k.communication.signature
in_force k P2330 = U8 k.application.autostart
in_force k P6121 = Real32 k.application.scaling.low
in_force k P6123 = Real32 k.application.scaling.high
in_force k P6124 = Real32 k.application.scaling.offset
in_force k P6132 = U8 k.application.digits
in_force k P51FE = U8 k.application.valid
in_force k P51FF = U16 k.application.signature

-- what an event does to a parameter: it stays, or becomes a value
pub data Now : Type 0 where
  stays : Now
  becomes : Value → Now

-- a field of whole numbers after that
abbrev pub whole : Now → ℕ → ℕ
whole stays n = n
whole (becomes v) n = number_of v

-- a field that is a float after that
abbrev pub float : Now → Float → Float
float stays x = x
float (becomes v) x = float_of v

-- the settings, each parameter as `now` says of it
abbrev pub altered : (Parameter → Now) → Settings → Settings
altered now k =
    let c = k.communication in
    let a = k.application in
    record {
      communication =
          record {
            heartbeat = whole (now P1017) c.heartbeat;
            srdo =
                record {
                  direction = whole (now P1301s1) c.srdo.direction;
                  refresh = whole (now P1301s2) c.srdo.refresh;
                  validation = whole (now P1301s3) c.srdo.validation;
                  first = whole (now P1301s5) c.srdo.first;
                  second = whole (now P1301s6) c.srdo.second;
                };
            tpdo = record { kind = whole (now P1800s2) c.tpdo.kind; period = whole (now P1800s5) c.tpdo.period };
            valid = whole (now P13FE) c.valid;
            signature = whole (now P13FF) c.signature;
          };
      application =
          record {
            autostart = whole (now P2330) a.autostart;
            scaling =
                record {
                  low = float (now P6121) a.scaling.low;
                  high = float (now P6123) a.scaling.high;
                  offset = float (now P6124) a.scaling.offset;
                };
            digits = whole (now P6132) a.digits;
            valid = whole (now P51FE) a.valid;
            signature = whole (now P51FF) a.signature;
          };
    }

-- settings to write others over: none of these values is read
abbrev pub blank : Settings
blank =
    record {
      communication =
          record {
            heartbeat = 0;
            srdo = record { direction = 0; refresh = 0; validation = 0; first = 0; second = 0 };
            tpdo = record { kind = 0; period = 0 };
            valid = 0;
            signature = 0;
          };
      application =
          record {
            autostart = 0;
            scaling = record { low = of_bits binary32 0; high = of_bits binary32 0; offset = of_bits binary32 0 };
            digits = 0;
            valid = 0;
            signature = 0;
          };
    }

-- the settings with the values that f gives
abbrev pub made : (Parameter → Value) → Settings
made f = altered (λ (p : Parameter). becomes (f p)) blank

-- the bytes of some parameters, one after the other, where each has the value that f gives
unfoldable pub bytes_of : List Parameter → (Parameter → Value) → List ℕ
bytes_of [] f = []
bytes_of (p ∷ ps) f = encoded (f p) ++ bytes_of ps f

-- ---- Ranges

-- how a value stands to a range: above and below are told apart only where the range is an interval
unfoldable pub judge : Range → Value → Verdict
judge all v = Inside
judge (between lo hi) v = cond (leb (number_of v) hi) (cond (leb lo (number_of v)) Inside Below) Above
judge (one_of test) v = cond (test (number_of v)) Inside Outside
judge real v = judge_real (float_of v)

abbrev pub is_inside : Verdict → Bool
is_inside Inside = true
is_inside Outside = false
is_inside Above = false
is_inside Below = false

-- each of some parameters is in range, where each has the value that f gives
unfoldable pub in_ranges : List Parameter → (Parameter → Value) → Bool
in_ranges [] f = true
in_ranges (p ∷ ps) f = is_inside (judge (row p).range (f p)) && in_ranges ps f
