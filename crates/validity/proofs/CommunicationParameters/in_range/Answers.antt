-- The ranges of group C, a test for each row that has one. Assumes nothing.
use borrow.Author.Rules.{rules}
use Rattle.validity.proofs.Alike.{ranges_c}
use Rattle.validity.proofs.CommunicationParameters.in_range.Goals as goal

pub returns : goal.returns
returns c = λ k. rw (c.is_type.ensures, c.is_second_cob.ensures, c.is_first_cob.ensures)
    (ranges_c record { communication = c.args.self.now; application = k.application } (search rules) (search rules))
