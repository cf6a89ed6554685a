-- `elements::squares::Squares::trace_of` meets its contract. The invariant: sum is the sum of the first i conjugates, and y the next.
-- Assumes nothing.
use Rattle.std.proofs.Common.{◌≡◌}
use Rattle.field.specs.Field.{squared, trace_to}
use Rattle.elements.proofs.squares.Squares.trace_of.Given as goal

abbrev pub invariant-loop-i : goal.invariant-loop-i
invariant-loop-i l = (l.sum ≡ trace_to l.self.f l.self.n l.i l.a) × (l.y ≡ squared l.self.f l.self.n l.i l.a)
