-- `elements::tables::both` meets its contract: its test is the definition's.
-- Assumes nothing.
use Rattle.std.proofs.Common.{◌*◌, arith, eq-eqb, ne_eqb}
use Rattle.elements.proofs.tables.both.Goals as goal

pub returns-then-i-n : goal.returns-then-i-n
returns-then-i-n c = (rw (eq-eqb (2 * c.args.i) c.args.n c.if-i-n.true), omega (arith, c.requires.1))

pub returns-else-i-n : goal.returns-else-i-n
returns-else-i-n c = (rw (ne_eqb (2 * c.args.i) c.args.n c.if-i-n.false), omega (arith, c.requires.1))
