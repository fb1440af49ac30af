-- Values travel with their types: encoding and decoding are inverse, for every type. Assumes nothing.
use mathlib.Core.Path.{◌≡◌, refl, ap, ◌∙◌}
use mathlib.Core.Bool.{not}
use Prim.Native.Nat.{ℕ, ◌%◌, ◌^◌, ◌<◌}
use native.Mathlib.Omega.{arith}
use lib.Dec.{T}
use mir.Syntax.{w32}
use mir.Val.{SFits}
use mir.ValLaws.{to_z-of_z, of_z-to_z, of_z_fits, to_z-Fits}
use lib.Ieee.{fits, is_nan, binary32, of_bits}
use lib.Ieee.Bits.{of_bits-to_bits, to_bits-of_bits, to_bits-lt, of_bits-fits}
use Rattle.model.specs.declared.Value.{Value}
use Rattle.model.specs.declared.Value.TheVariants.{U8, U16, U32, Integer32, Real32}
use Rattle.model.specs.declared.Kind.{Kind}
use Rattle.model.specs.declared.Kind.TheVariants as K
use Rattle.model.specs.Values.{width_of, kind_of, number_of, typed, decoded}

-- a value that its type holds: a number without sign below 256 ^ width, an Integer32 in two's complement, a Real32 that is a float of 32 bits
abbrev pub Holds : Value → Type 0
Holds (U8 n) = n < 256 ^ 1
Holds (U16 n) = n < 256 ^ 2
Holds (U32 n) = n < 256 ^ 4
Holds (Integer32 z) = SFits w32 z
Holds (Real32 x) = T (fits binary32 x)

-- 32 bits that stand for a number: of the types Real32 alone has others, the NaNs
abbrev pub NoNan : Kind → ℕ → Type 0
NoNan K.U8 n = Unit {0}
NoNan K.U16 n = Unit {0}
NoNan K.U32 n = Unit {0}
NoNan K.Integer32 n = Unit {0}
NoNan K.Real32 n = T (not (is_nan (of_bits binary32 n)))

-- the number of such a value has as many bytes as its type
pub number_small : (v : Value) → Holds v → number_of v < 256 ^ width_of (kind_of v)
number_small (U8 n) h = h
number_small (U16 n) h = h
number_small (U32 n) h = h
number_small (Integer32 z) h = (of_z_fits w32 z h).fits
number_small (Real32 x) h = to_bits-lt binary32 x h

-- and the value comes back from it
pub typed_number : (v : Value) → Holds v → typed (kind_of v) (number_of v) ≡ v
typed_number (U8 n) h = refl
typed_number (U16 n) h = refl
typed_number (U32 n) h = refl
typed_number (Integer32 z) h = ap Integer32 (to_z-of_z w32 z h)
typed_number (Real32 x) h = ap Real32 (of_bits-to_bits binary32 x h)

mod_small : (k : Kind) (n : ℕ) → n < 256 ^ width_of k → n % 256 ^ width_of k ≡ n
mod_small K.U8 n h = omega arith
mod_small K.U16 n h = omega arith
mod_small K.U32 n h = omega arith
mod_small K.Integer32 n h = omega arith
mod_small K.Real32 n h = omega arith

mod_lt : (k : Kind) (n : ℕ) → n % 256 ^ width_of k < 256 ^ width_of k
mod_lt K.U8 n = omega arith
mod_lt K.U16 n = omega arith
mod_lt K.U32 n = omega arith
mod_lt K.Integer32 n = omega arith
mod_lt K.Real32 n = omega arith

-- what a number stands for is of its type, and its type holds it
pub typed_kind : (k : Kind) (n : ℕ) → kind_of (typed k n) ≡ k
typed_kind K.U8 n = refl
typed_kind K.U16 n = refl
typed_kind K.U32 n = refl
typed_kind K.Integer32 n = refl
typed_kind K.Real32 n = refl

pub typed_holds : (k : Kind) (n : ℕ) → n < 256 ^ width_of k → Holds (typed k n)
typed_holds K.U8 n h = h
typed_holds K.U16 n h = h
typed_holds K.U32 n h = h
typed_holds K.Integer32 n h = to_z-Fits w32 n (record { fits = h })
typed_holds K.Real32 n h = of_bits-fits binary32 n

pub number_typed : (k : Kind) (n : ℕ) → n < 256 ^ width_of k → NoNan k n → number_of (typed k n) ≡ n
number_typed K.U8 n h x = refl
number_typed K.U16 n h x = refl
number_typed K.U32 n h x = refl
number_typed K.Integer32 n h x = of_z-to_z w32 n (record { fits = h })
number_typed K.Real32 n h x = to_bits-of_bits binary32 n h x

-- THE THEOREM: a value that its type holds is what its own number decodes to
pub decoded_number : (v : Value) → Holds v → decoded (kind_of v) (number_of v) ≡ v
decoded_number v h = ap (typed (kind_of v)) (mod_small (kind_of v) (number_of v) (number_small v h)) ∙ typed_number v h

-- and the number of what is decoded is the bytes that were taken, where they are no NaN
pub number_decoded : (k : Kind) (d : ℕ) → NoNan k (d % 256 ^ width_of k) → number_of (decoded k d) ≡ d % 256 ^ width_of k
number_decoded k d x = number_typed k (d % 256 ^ width_of k) (mod_lt k d) x

pub decoded_kind : (k : Kind) (d : ℕ) → kind_of (decoded k d) ≡ k
decoded_kind k d = typed_kind k (d % 256 ^ width_of k)

pub decoded_holds : (k : Kind) (d : ℕ) → Holds (decoded k d)
decoded_holds k d = typed_holds k (d % 256 ^ width_of k) (mod_lt k d)
