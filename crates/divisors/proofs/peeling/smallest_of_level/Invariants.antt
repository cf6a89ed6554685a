-- `divisors::peeling::smallest_of_level` meets its contract. The invariant is `Peeled`: the smallest divisor of g is the best so far, or
-- divides the rest. The measure is the rest. Assumes nothing.
use Rattle.divisors.specs.Peeling.{Peeled}
use Rattle.divisors.proofs.peeling.smallest_of_level.Given as goal

abbrev pub invariant-loop-rest : goal.invariant-loop-rest
invariant-loop-rest l = Peeled l.part.value l.best l.rest

abbrev pub decreases-loop-rest : goal.decreases-loop-rest
decreases-loop-rest l = l.rest
