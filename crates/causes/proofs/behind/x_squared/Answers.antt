-- `causes::behind::x_squared` meets its contract: x is an element.
-- Assumes nothing.
use Rattle.field.specs.Ring.{two-lt}
use Rattle.causes.proofs.behind.x_squared.Goals as goal

pub squared_times-requires : goal.squared_times-requires
squared_times-requires c = two-lt c.args.ring.n c.args.ring.in_range.two
