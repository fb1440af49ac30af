-- Document 01, "Dictionary": an entry's value is of one of five types and travels with its type. Assumes nothing.
use Rattle.std.specs.Prelude.{ℕ, ◌%◌, ◌^◌, List, Float}
use Rattle.std.proofs.Common.{of_z, to_z}
use Rattle.std.specs.Int.{w32}
use Rattle.std.specs.Float.{binary32}
use Rattle.std.specs.Float.Ieee.{of_bits, to_bits}
use Rattle.model.specs.declared.Value.{Value}
use Rattle.model.specs.declared.Value.TheVariants.{U8, U16, U32, Integer32, Real32}
use Rattle.model.specs.declared.Kind.{Kind}
use Rattle.model.specs.declared.Kind.TheVariants as K
use Rattle.model.specs.Bytes.{low_bytes}

-- how many bytes a type has
abbrev pub width_of : Kind → ℕ
width_of K.U8 = 1
width_of K.U16 = 2
width_of K.U32 = 4
width_of K.Integer32 = 4
width_of K.Real32 = 4

-- the type of a value
abbrev pub kind_of : Value → Kind
kind_of (U8 n) = K.U8
kind_of (U16 n) = K.U16
kind_of (U32 n) = K.U32
kind_of (Integer32 z) = K.Integer32
kind_of (Real32 x) = K.Real32

-- a value as a number without sign: an Integer32 by its two's complement, a Real32 by its bits
abbrev pub number_of : Value → ℕ
number_of (U8 n) = n
number_of (U16 n) = n
number_of (U32 n) = n
number_of (Integer32 z) = of_z w32 z
number_of (Real32 x) = to_bits binary32 x

-- the value of a type that such a number is
abbrev pub typed : Kind → ℕ → Value
typed K.U8 n = U8 n
typed K.U16 n = U16 n
typed K.U32 n = U32 n
typed K.Integer32 n = Integer32 (to_z w32 n)
typed K.Real32 n = Real32 (of_bits binary32 n)

-- a value's bytes, low first, as many as its type has
abbrev pub encoded : Value → List ℕ
encoded v = low_bytes (width_of (kind_of v)) (number_of v)

-- the value of a type in the first of some bytes that make the number n
abbrev pub decoded : Kind → ℕ → Value
decoded k n = typed k (n % 256 ^ width_of k)

-- the float of a Real32; of any other value the one with its bits
abbrev pub float_of : Value → Float
float_of (U8 n) = of_bits binary32 n
float_of (U16 n) = of_bits binary32 n
float_of (U32 n) = of_bits binary32 n
float_of (Integer32 z) = of_bits binary32 (of_z w32 z)
float_of (Real32 x) = x
