-- `causes::calls::is_of_shape` meets its contract.
-- Assumes nothing.
use borrow.Author.Tests.{le-leb, lt-leb}
use Rattle.causes.proofs.calls.is_of_shape.Goals as goal

pub returns-then-number-ge7 : goal.returns-then-number-ge7
returns-then-number-ge7 c = rw (le-leb 7 c.args.number c.if-number-ge7.true)

pub returns-else-number-ge7 : goal.returns-else-number-ge7
returns-else-number-ge7 c = rw (lt-leb 7 c.args.number c.if-number-ge7.false)
