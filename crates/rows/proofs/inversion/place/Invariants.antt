-- `rows::inversion::place` meets its contract. The loop's invariant: the first i rows and names have had their part added (`added`).
-- A turn is `added_turn`, once for the rows and once for the names. Assumes nothing.
use Rattle.std.proofs.Common.{◌≡◌}
use Rattle.rows.specs.Added.{added}
use Rattle.rows.proofs.inversion.place.Given as goal

abbrev pub invariant-loop-i : goal.invariant-loop-i
invariant-loop-i l = (l.reduced ≡ added l.i l.column l.row l.initial.reduced l.initial.reduced) × (l.names ≡ added l.i l.column l.name l.initial.reduced l.initial.names)
