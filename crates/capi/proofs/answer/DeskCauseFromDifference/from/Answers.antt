-- How a record differs, handed out: the fields of the difference, and the number of its field.
-- Assumes nothing.
use Rattle.causes.specs.Causes.{cause_report}
use Rattle.capi.proofs.answer.DeskCauseFromDifference.from.Goals as goal

pub returns : goal.returns
unfolding cause_report
returns c = rw c.from.ensures
