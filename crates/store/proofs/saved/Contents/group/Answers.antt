-- `saved::Contents::group` meets its contract: the record, or its part of the block. Assumes nothing.
use Rattle.store.proofs.Parts.{group_c, group_a}
use Rattle.store.proofs.saved.Contents.group.Goals as goal

pub returns-in-C : goal.returns-in-C
returns-in-C c = rw c.in-C.is (group_c _ _ _ _ _ c.records-saved.ensures c.or_else.ensures)

pub returns-in-A : goal.returns-in-A
returns-in-A c = rw c.in-A.is (group_a _ _ _ _ _ c.records-saved.ensures c.or_else-in-A.ensures)
