-- The record of group A: both sides compute to the same 17 bytes, of which three are whole numbers of a byte. Assumes nothing.
use mathlib.Core.Path.{◌∙◌}
use Prim.Native.Nat.{◌<◌}
use native.Mathlib.Omega.{arith}
use native.Mathlib.Nat.{mod-eq_of_lt}
use Rattle.model.specs.Bytes.{low_bytes}
use Rattle.model.specs.Settings.{rows, bytes_of}
use Rattle.model.specs.Store.{record_of}
use Rattle.model.proofs.Numbers.{low_of_16, low_of_32}
use Rattle.records.proofs.codec.ApplicationCodec17.encode.Goals as goal

pub returns : goal.returns
unfolding record_of rows bytes_of low_bytes
returns c = λ k.
    let a = c.args.self in
    let autostart : a.autostart < 256 = omega arith in
    let digits : a.digits < 256 = omega arith in
    let valid : a.valid < 256 = omega arith in
    rw (
      c.to_le_bytes-4.ensures ∙ low_of_16 _,
      c.to_le_bytes-3.ensures ∙ low_of_32 _,
      c.bits_of-3.ensures,
      c.to_le_bytes-2.ensures ∙ low_of_32 _,
      c.bits_of-2.ensures,
      c.to_le_bytes.ensures ∙ low_of_32 _,
      c.bits_of.ensures,
      mod-eq_of_lt autostart,
      mod-eq_of_lt digits,
      mod-eq_of_lt valid,
    )
