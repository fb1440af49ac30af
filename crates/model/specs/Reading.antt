-- Document 01, "Readings": from FV to PV, and from PV to the integer PV. Assumes nothing.
use Rattle.std.specs.Prelude.{ℕ, ◌+◌, ◌-◌, ◌*◌, ◌/◌, ◌%◌, ◌^◌, Bool, true, false, cond, leb, pos, Float}
use Rattle.std.specs.Float.{nan, inf, fin, binary32}
use Rattle.std.specs.Float.Ieee.{up, down, add, sub, mul, div, of_int}
use Rattle.model.specs.declared.Scaling.{Scaling}
use Rattle.model.specs.declared.Fv.{Fv}
use Rattle.model.specs.declared.Pv.{Pv}
use Rattle.model.specs.declared.Integer.{Integer}
use Rattle.model.specs.declared.Verdict.{Verdict}
use Rattle.model.specs.declared.Verdict.TheVariants.{Inside, Outside, Above, Below}

-- ---- PV

-- 4000 is 125 * 2 ^ 5: a float is written with an odd significand
abbrev pub four_thousand : Float
four_thousand = fin false 125 (pos 5)

-- 16000 is 125 * 2 ^ 7
abbrev pub sixteen_thousand : Float
sixteen_thousand = fin false 125 (pos 7)

-- PV of the two scaling points, the offset and FV: six operations of Real32 arithmetic, each with the usual rounding of IEEE 754 (the nearest float,
-- and of two the even one)
unfoldable pub pv_of : Scaling → Fv → Pv
pv_of s fv =
    let a = sub binary32 s.high s.low in
    let b = sub binary32 (of_int binary32 (pos fv.0)) four_thousand in
    let c = mul binary32 a b in
    let d = div binary32 c sixteen_thousand in
    let e = add binary32 s.low d in
    record { 0 = add binary32 e s.offset }

-- ---- The integer PV

-- every finite Real32 is a whole number of times 2^-149: how many times, for one of size u / d
abbrev pub magnitude : ℕ → ℕ → ℕ
magnitude u d = u * 2 ^ 149 / d

-- the size of the integer PV with k digits: the decimal point moved by k places, then the nearest whole number, and of two the larger
unfoldable pub size_of : ℕ → ℕ → ℕ
size_of m k = (2 * m * 10 ^ k + 2 ^ 149) / 2 ^ 150

-- the size of Integer32's end, by the sign: below zero it reaches one further
abbrev pub end : Bool → ℕ
end true = 2147483648
end false = 2147483647

-- an Integer32 of a sign and a size up to its end, as 32 bits in two's complement
abbrev pub int32 : Bool → ℕ → ℕ
int32 true n = (4294967296 - n) % 4294967296
int32 false n = n

-- a size that Integer32 holds, with PV's sign
abbrev pub exact : Bool → ℕ → Integer
exact sign size = record { bits = int32 sign size; capped = false }

-- a size that is too large is cut down to the end of Integer32 on that side: a capped reading
abbrev pub nearer_end : Bool → Integer
nearer_end sign = record { bits = int32 sign (end sign); capped = true }

-- by whether the size leaves Integer32
unfoldable pub limited : Bool → ℕ → Integer
limited sign size = cond (leb size (end sign)) (exact sign size) (nearer_end sign)

-- The integer PV of a float and the digits. With parameters in range PV is finite; so that it is defined everywhere, an infinity is its
-- sign's end and a NaN is 0, both capped
unfoldable pub integer_at : Float → ℕ → Integer
integer_at nan k = record { bits = 0; capped = true }
integer_at (inf sign) k = nearer_end sign
integer_at (fin sign m e) k = limited sign (size_of (magnitude (m * up e) (down e)) k)

-- the integer PV of a PV and the digits of 6132h
abbrev pub integer_of : Pv → ℕ → Integer
integer_of pv k = integer_at pv.0 k

-- ---- The range of a Real32 parameter (document 01, "Dictionary"): finite, and 1,000,000 either way at most

unfoldable pub judge_real : Float → Verdict
judge_real nan = Outside
judge_real (inf sign) = Outside
judge_real (fin sign m e) = cond (leb (m * up e) (1000000 * down e)) Inside (cond sign Below Above)
