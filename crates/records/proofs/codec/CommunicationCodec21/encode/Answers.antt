-- The record of group C: both sides compute to the same 21 bytes, of which four are whole numbers of a byte. Assumes nothing.
use mathlib.Core.Path.{◌∙◌}
use Prim.Native.Nat.{◌<◌}
use native.Mathlib.Omega.{arith}
use native.Mathlib.Nat.{mod-eq_of_lt}
use Rattle.model.specs.Bytes.{low_bytes}
use Rattle.model.specs.Settings.{rows, bytes_of}
use Rattle.model.specs.Store.{record_of}
use Rattle.model.proofs.Numbers.{low_of_16, low_of_32}
use Rattle.records.proofs.codec.CommunicationCodec21.encode.Goals as goal

pub returns : goal.returns
unfolding record_of rows bytes_of low_bytes
returns c = λ k.
    let s = c.args.self in
    let direction : s.srdo.direction < 256 = omega arith in
    let validation : s.srdo.validation < 256 = omega arith in
    let kind : s.tpdo.kind < 256 = omega arith in
    let valid : s.valid < 256 = omega arith in
    rw (
      c.to_le_bytes-6.ensures ∙ low_of_16 _,
      c.to_le_bytes-5.ensures ∙ low_of_16 _,
      c.to_le_bytes-4.ensures ∙ low_of_32 _,
      c.to_le_bytes-3.ensures ∙ low_of_32 _,
      c.to_le_bytes-2.ensures ∙ low_of_16 _,
      c.to_le_bytes.ensures ∙ low_of_16 _,
      mod-eq_of_lt direction,
      mod-eq_of_lt validation,
      mod-eq_of_lt kind,
      mod-eq_of_lt valid,
    )
