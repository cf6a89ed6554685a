-- `sheet::shape::is_misplaced` meets its contract: its tests are the definition's.
-- Assumes nothing.
use Rattle.sheet.specs.Record.{column_in}
use Rattle.sheet.specs.Shape.{degree-differs, row-differs, tail_decides}
use Rattle.sheet.proofs.shape.is_misplaced.Goals as goal

pub returns-then-number_at-n : goal.returns-then-number_at-n
unfolding column_in
returns-then-number_at-n c =
    degree-differs c.args.sheet.now c.args.i c.args.n c.args.tail c.number_at.result 0 0 c.requires.0 c.requires.2 c.number_at.ensures c.if-number_at-n.true

pub returns-then-number_at-i : goal.returns-then-number_at-i
unfolding column_in
returns-then-number_at-i c =
    row-differs c.args.sheet.now c.args.i c.args.n c.args.tail c.number_at.result c.number_at-2.result 0 c.requires.0 c.requires.2 c.number_at.ensures c.if-number_at-n.false c.number_at-2.ensures c.if-number_at-i.true

pub returns : goal.returns
unfolding column_in
returns c =
    tail_decides c.args.sheet.now c.args.i c.args.n c.args.tail c.number_at.result c.number_at-2.result c.number_at-3.result c.requires.0 c.requires.2 c.number_at.ensures c.if-number_at-n.false c.number_at-2.ensures c.if-number_at-i.false c.number_at-3.ensures
