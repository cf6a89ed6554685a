-- `elements::squares::Squares::new` meets its contract: the tables are those of the rows.
-- Assumes nothing.
use Rattle.std.proofs.Common.{ap, ◌∙◌}
use Rattle.rows.specs.ByteSums.{bytes, byte_sums}
use Rattle.elements.proofs.squares.Squares.new.Goals as goal

pub invariant_of-result-clause-held : goal.invariant_of-result-clause-held
invariant_of-result-clause-held c = c.byte_sums.ensures ∙ ap (byte_sums bytes) c.square_rows.ensures
