-- `search::joining::found_by` meets its contract, which is what it makes. Assumes nothing.
use Rattle.search.specs.Search.{found_by}
use Rattle.search.specs.Joining.{operand_of}
use Rattle.search.proofs.joining.found_by.Goals as goal

pub invariant_of-ring : goal.invariant_of-ring
invariant_of-ring c = record { in_range = (operand_of c.requires).in_range }

pub returns : goal.returns
unfolding found_by
returns c = rw c.grade_of.ensures
