-- The parameters of group A: each field is read where the table has it. Assumes nothing.
use Rattle.model.specs.Settings.{rows}
use Rattle.model.specs.Store.{place_of, field}
use Rattle.records.proofs.Fields.{one_byte}
use Rattle.records.proofs.codec.ApplicationCodec17.decode.Goals as goal

pub returns : goal.returns
unfolding rows place_of field
returns c = λ k.
    simp (
      c.get16.ensures,
      c.byte-3.ensures,
      c.byte-2.ensures,
      c.scaling.ensures,
      c.byte.ensures,
      one_byte,
    )
