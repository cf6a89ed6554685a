-- `elements::upper::Tables::new` meets its contract: the reference's sums are of the same field.
-- Assumes nothing.
use Rattle.elements.proofs.upper.Tables.new.Goals as goal

pub invariant_of-result : goal.invariant_of-result
invariant_of-result c =
    record {
      of_squares = c.requires.of_squares;
      of_reference = c.requires.of_reference;
      of_uppers = c.requires.of_uppers;
    }
