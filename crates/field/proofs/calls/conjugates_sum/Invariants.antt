-- `field::calls::conjugates_sum` meets its contract. The invariant: sum is the sum of as many conjugates of the remainder as turns are done,
-- and y the next. Assumes nothing.
use mathlib.Core.Path.{◌≡◌}
use Rattle.gf2.specs.Poly.{rem}
use Rattle.field.specs.Field.{squared, trace_to}
use Rattle.field.proofs.calls.conjugates_sum.Given as goal

abbrev pub invariant-loop : goal.invariant-loop
invariant-loop l = (l.sum ≡ trace_to l.ring.f l.ring.n l.counter (rem l.ring.f l.ring.n l.a)) × (l.y ≡ squared l.ring.f l.ring.n l.counter (rem l.ring.f l.ring.n l.a))
