-- `field::judging::operand_verdict` meets its contract: the operand, given twice.
-- Assumes nothing.
use Rattle.field.specs.Orders.{operand_twice}
use Rattle.field.proofs.judging.operand_verdict.Goals as goal

pub returns : goal.returns
returns c = rw (operand_twice c.args.f c.args.a) at c.operands_verdict.ensures
