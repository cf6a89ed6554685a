-- `field::accepted::squared_half` meets its contract. The invariant: y is x squared as often as turns are done, and f has no divisor in
-- common with x^(2^j) + x for any j up to then. Assumes nothing.
use mathlib.Core.Path.{◌≡◌}
use Rattle.field.specs.Field.{squared}
use Rattle.field.specs.CommonDivisors.{NoneTo}
use Rattle.field.proofs.accepted.squared_half.Given as goal

abbrev pub invariant-loop : goal.invariant-loop
invariant-loop l = (l.y ≡ squared l.ring.f l.ring.n l.counter 2) × NoneTo l.ring.f l.ring.n l.counter
