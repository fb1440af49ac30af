-- The ranges of group A, a test for each row that has one. Assumes nothing.
use Rattle.validity.proofs.Alike.{ranges_a}
use Rattle.validity.proofs.ApplicationParameters.in_range.Goals as goal

pub returns : goal.returns
returns c = λ k. rw (c.real_fits-3.ensures, c.real_fits-2.ensures, c.real_fits.ensures)
    (ranges_a record { communication = k.communication; application = c.args.self.now })
