-- `divisors::lowest::lowest_part` meets its contract. The invariant, before turn i: y is x squared i - 1 times, and f has no divisor in
-- common with x^(2^j) + x for any j below i. Assumes nothing.
use Rattle.std.proofs.Common.{◌≡◌, ◌-◌}
use Rattle.field.specs.Field.{squared}
use Rattle.field.specs.CommonDivisors.{NoneTo}
use Rattle.divisors.proofs.lowest.lowest_part.Given as goal

abbrev pub invariant-loop-i : goal.invariant-loop-i
invariant-loop-i l = (l.y ≡ squared l.f l.n (l.i - 1) 2) × NoneTo l.f l.n (l.i - 1)
