-- Document 01, "Dictionary": every object and sub, and what each reads as. Assumes nothing.
use Rattle.std.specs.Prelude.{ℕ, ◌+◌, cond, List, [], ◌∷◌, eqb, Result, Ok, Err}
use Rattle.std.proofs.Common.{to_z}
use Rattle.std.specs.Int.{w32}
use Rattle.model.specs.declared.Value.{Value}
use Rattle.model.specs.declared.Value.TheVariants.{U8, U16, U32, Integer32, Real32}
use Rattle.model.specs.declared.Parameter.TheVariants.{P1017, P1301s1, P1301s2, P1301s3, P1301s5, P1301s6, P1800s2, P1800s5, P13FE, P13FF, P2330, P6121, P6123, P6124, P6132, P51FE, P51FF}
use Rattle.model.specs.declared.Groups.TheVariants.{Both, OnlyC, OnlyA}
use Rattle.model.specs.declared.Live.{Live}
use Rattle.model.specs.declared.Live.TheVariants.{ErrorRegister, EmcyId, Vendor, Product, Revision, Serial, SdoRequestId, SdoReplyId, TpdoId, PvBits, PvInverse, PvReal, FvCount, PvInteger}
use Rattle.model.specs.declared.Entry.{Entry}
use Rattle.model.specs.declared.Entry.TheVariants.{Fixed, Name, Shown, Setting, SaveWord, LoadWord}
use Rattle.model.specs.declared.Missing.{Missing}
use Rattle.model.specs.declared.Missing.TheVariants.{NoObject, NoSub}
use Rattle.model.specs.declared.Content.{Content}
use Rattle.model.specs.declared.Content.TheVariants.{Text, Plain}
use Rattle.model.specs.declared.State.{State}
use Rattle.model.specs.Frames.{emcys, sdo_requests, sdo_replies, tpdos, sync_id}
use Rattle.model.specs.Settings.{in_force}
use Rattle.model.specs.Validity.{first_mapping, second_mapping}
use Rattle.model.specs.Parts.{id_of, pv, integer_pv, pv_bits, pv_inverse, error_register}

-- ---- The table

infix 90 ◌holds◌
infix 90 ◌▸◌
-- an entry at its sub
pub data Sub : Type 0 where
  ◌holds◌ : ℕ → Entry → Sub

-- an object is a single entry at sub 0, or a record: its highest sub, and its entries from sub 1 on
pub data Object : Type 0 where
  single : Entry → Object
  several : ℕ → List Sub → Object

-- an object at its index
pub data Place : Type 0 where
  ◌▸◌ : ℕ → Object → Place

-- a record of one entry, at sub 1
abbrev pub one : Entry → Object
one e = several 1 (1 holds e ∷ [])

-- every object: the read-only constants, what is made from the state, the saved parameters, and 1010h and 1011h
abbrev pub objects : List Place
objects =
    0x1000 ▸ single (Fixed (U32 0x00020194))
    ∷ 0x1001 ▸ single (Shown ErrorRegister)
    ∷ 0x1005 ▸ single (Fixed (U32 sync_id))
    ∷ 0x1008 ▸ single Name
    ∷ 0x1010 ▸ several 3 (1 holds SaveWord Both ∷ 2 holds SaveWord OnlyC ∷ 3 holds SaveWord OnlyA ∷ [])
    ∷ 0x1011 ▸ several 3 (1 holds LoadWord Both ∷ 2 holds LoadWord OnlyC ∷ 3 holds LoadWord OnlyA ∷ [])
    ∷ 0x1014 ▸ single (Shown EmcyId)
    ∷ 0x1017 ▸ single (Setting P1017)
    ∷ 0x1018 ▸ several 4 (1 holds Shown Vendor ∷ 2 holds Shown Product ∷ 3 holds Shown Revision ∷ 4 holds Shown Serial ∷ [])
    ∷ 0x1200 ▸ several 2 (1 holds Shown SdoRequestId ∷ 2 holds Shown SdoReplyId ∷ [])
    ∷ 0x1301
    ▸ several 6
    (1 holds Setting P1301s1
    ∷ 2 holds Setting P1301s2
    ∷ 3 holds Setting P1301s3
    ∷ 4 holds Fixed (U8 254)
    ∷ 5 holds Setting P1301s5
    ∷ 6 holds Setting P1301s6
    ∷ [])
    ∷ 0x1381 ▸ several 2 (1 holds Fixed (U32 first_mapping) ∷ 2 holds Fixed (U32 second_mapping) ∷ [])
    ∷ 0x13fe ▸ single (Setting P13FE)
    ∷ 0x13ff ▸ one (Setting P13FF)
    ∷ 0x1800 ▸ several 5 (1 holds Shown TpdoId ∷ 2 holds Setting P1800s2 ∷ 5 holds Setting P1800s5 ∷ [])
    ∷ 0x1a00 ▸ one (Fixed (U32 0x91300120))
    ∷ 0x2330 ▸ single (Setting P2330)
    ∷ 0x5030 ▸ several 2 (1 holds Shown PvBits ∷ 2 holds Shown PvInverse ∷ [])
    ∷ 0x51fe ▸ single (Setting P51FE)
    ∷ 0x51ff ▸ one (Setting P51FF)
    ∷ 0x6121 ▸ one (Setting P6121)
    ∷ 0x6123 ▸ one (Setting P6123)
    ∷ 0x6124 ▸ one (Setting P6124)
    ∷ 0x6130 ▸ one (Shown PvReal)
    ∷ 0x6131 ▸ one (Fixed (U32 0x004e0000))
    ∷ 0x6132 ▸ one (Setting P6132)
    ∷ 0x7100 ▸ one (Shown FvCount)
    ∷ 0x7120 ▸ one (Fixed (U16 4000))
    ∷ 0x7122 ▸ one (Fixed (U16 20000))
    ∷ 0x9130 ▸ one (Shown PvInteger)
    ∷ []

-- ---- Looking up

-- the entry at a sub of a record
abbrev pub sub_in : ℕ → List Sub → Result Entry Missing
sub_in sub [] = Err NoSub
sub_in sub (k holds e ∷ es) = cond (eqb sub k) (Ok e) (sub_in sub es)

-- the entry at a sub of an object; sub 0 of a record is read-only and tells its highest sub
abbrev pub entry_in : ℕ → Object → Result Entry Missing
entry_in sub (single e) = cond (eqb sub 0) (Ok e) (Err NoSub)
entry_in sub (several highest es) = cond (eqb sub 0) (Ok (Fixed (U8 highest))) (sub_in sub es)

-- the entry at an index and sub of some objects
abbrev pub found_in : ℕ → ℕ → List Place → Result Entry Missing
found_in index sub [] = Err NoObject
found_in index sub (k ▸ o ∷ os) = cond (eqb index k) (entry_in sub o) (found_in index sub os)

-- what stands at an index and sub
unfoldable pub find : ℕ → ℕ → Result Entry Missing
find index sub = found_in index sub objects

-- ---- Reading

-- the device name (1008h), `CRADLE-PRESSURE`
abbrev pub name : List ℕ
name = 67 ∷ 82 ∷ 65 ∷ 68 ∷ 76 ∷ 69 ∷ 45 ∷ 80 ∷ 82 ∷ 69 ∷ 83 ∷ 83 ∷ 85 ∷ 82 ∷ 69 ∷ []

-- what is made from the state
abbrev pub shown : Live → State → Value
shown ErrorRegister s = U8 (error_register s)
shown EmcyId s = U32 (emcys + id_of s)
shown Vendor s = U32 s.identity.vendor
shown Product s = U32 s.identity.product
shown Revision s = U32 s.identity.revision
shown Serial s = U32 s.identity.serial
shown SdoRequestId s = U32 (sdo_requests + id_of s)
shown SdoReplyId s = U32 (sdo_replies + id_of s)
shown TpdoId s = U32 (tpdos + id_of s)
shown PvBits s = U32 (pv_bits s)
shown PvInverse s = U32 (pv_inverse s)
shown PvReal s = Real32 (pv s).0
shown FvCount s = U16 s.core.fv.0
shown PvInteger s = Integer32 (to_z w32 (integer_pv s).bits)

-- what an entry reads as; 1010h and 1011h read as 1
abbrev pub content_of : Entry → State → Content
content_of (Fixed v) s = Plain v
content_of Name s = Text
content_of (Shown l) s = Plain (shown l s)
content_of (Setting p) s = Plain (in_force s.settings p)
content_of (SaveWord gs) s = Plain (U32 1)
content_of (LoadWord gs) s = Plain (U32 1)
