-- `sheet::shape::bad_length` meets its contract: its tests are the definition's.
-- Assumes nothing.
use Rattle.sheet.specs.Shape.{length_odd, length-few, length_many}
use Rattle.sheet.proofs.shape.bad_length.Goals as goal

pub returns-then-size-ne0 : goal.returns-then-size-ne0
returns-then-size-ne0 c = length_odd c.args.size c.if-size-ne0.true

pub returns-then-count-lt2 : goal.returns-then-count-lt2
returns-then-count-lt2 c = length-few c.args.size c.if-size-ne0.false c.if-count-lt2.true

pub returns-else-count-lt2 : goal.returns-else-count-lt2
returns-else-count-lt2 c = length_many c.args.size c.if-size-ne0.false c.if-count-lt2.false
