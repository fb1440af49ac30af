-- The signature of group A: the bytes are those that the group signs. Assumes nothing.
use mathlib.Core.Path.{◌∙◌}
use borrow.Author.Rules.{rules}
use Rattle.model.specs.Bytes.{low_bytes}
use Rattle.model.specs.Settings.{bytes_of}
use Rattle.model.specs.Validity.{signs, valid}
use Rattle.model.proofs.Numbers.{low_of_32}
use Rattle.validity.proofs.Byte.{a_byte}
use Rattle.validity.proofs.ApplicationParameters.is_valid.Goals as goal

pub returns : goal.returns
unfolding low_bytes bytes_of signs valid
returns c = λ k. rw (
  c.crc.ensures,
  a_byte _ _ c.to_le_bytes-4.ensures (search (rules, c.to_le_bytes-4.type_inv)),
  c.to_le_bytes-3.ensures ∙ low_of_32 _,
  c.bits_of-3.ensures,
  c.to_le_bytes-2.ensures ∙ low_of_32 _,
  c.bits_of-2.ensures,
  c.to_le_bytes.ensures ∙ low_of_32 _,
  c.bits_of.ensures,
)
