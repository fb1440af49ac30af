-- The parameters of group C: each field is read where the table has it. Assumes nothing.
use Rattle.model.specs.Settings.{rows}
use Rattle.model.specs.Store.{place_of, field}
use Rattle.records.proofs.Fields.{one_byte}
use Rattle.records.proofs.codec.CommunicationCodec21.decode.Goals as goal

pub returns : goal.returns
unfolding rows place_of field
returns c = λ k.
    simp (
      c.get16-4.ensures,
      c.byte-4.ensures,
      c.get16-3.ensures,
      c.get16-2.ensures,
      c.byte-3.ensures,
      c.get32-2.ensures,
      c.get32.ensures,
      c.byte-2.ensures,
      c.get16.ensures,
      c.byte.ensures,
      one_byte,
    )
