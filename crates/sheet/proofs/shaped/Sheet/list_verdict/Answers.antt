-- `sheet::shaped::Sheet::list_verdict` meets its contract: the shape is good, and 11 is left.
-- Assumes nothing.
use Rattle.std.proofs.Common.{[], ◌∷◌}
use Rattle.sheet.specs.Orders.{list_rule}
use Rattle.sheet.proofs.Clear.{shaped-rest}
use Rattle.sheet.proofs.shaped.Sheet.list_verdict.Goals as goal

pub returns : goal.returns
returns c = shaped-rest c.args.self.now.bytes.now c.args.self.now.shaped (list_rule c.args.values c.args.room ∷ []) c.lengths_verdict.ensures
