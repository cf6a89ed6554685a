-- `elements::reference::Reference::upper_sums` meets its contract: the sums are those of the rows.
-- Assumes nothing.
use Rattle.std.proofs.Common.{ap, ◌∙◌}
use Rattle.rows.specs.ByteSums.{bytes, byte_sums}
use Rattle.elements.proofs.reference.Reference.upper_sums.Goals as goal

pub returns : goal.returns
returns c = c.byte_sums.ensures ∙ ap (byte_sums bytes) c.upper_rows.ensures
