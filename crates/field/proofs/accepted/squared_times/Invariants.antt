-- `field::accepted::squared_times` meets its contract. The invariant: y is a squared as often as turns are done. Assumes nothing.
use mathlib.Core.Path.{◌≡◌}
use Rattle.field.specs.Field.{squared}
use Rattle.field.proofs.accepted.squared_times.Given as goal

abbrev pub invariant-loop : goal.invariant-loop
invariant-loop l = l.y ≡ squared l.ring.f l.ring.n l.counter l.a
