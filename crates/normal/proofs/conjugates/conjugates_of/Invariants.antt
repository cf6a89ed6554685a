-- `normal::conjugates::conjugates_of` meets its contract. The invariant: the rows below i are the conjugates, and y is the next.
-- Assumes nothing.
use mathlib.Core.Path.{◌≡◌}
use Rattle.field.specs.Field.{squared}
use Rattle.normal.specs.Filling.{Filled}
use Rattle.normal.proofs.conjugates.conjugates_of.Given as goal

abbrev pub invariant-loop-i : goal.invariant-loop-i
invariant-loop-i l = Filled l.rows l.i (λ j. squared l.f l.n j l.a) × (l.y ≡ squared l.f l.n l.i l.a)
