-- `rows::inversion::invert` meets its contract. The loop's invariant: the first k rows are in (`Inserted`), and the two arrays keep their
-- lengths. What is left of a row is `Reduced`; a turn, the dependency and the inverse are the laws `insertion_turn`, `row_dependent` and
-- `insertion_end`, to which this file hands what the calls ensure. Assumes nothing.
use Rattle.std.proofs.Common.{◌≡◌, length}
use Rattle.gf2.specs.Limit.{limit}
use Rattle.rows.specs.Insertion.{Inserted}
use Rattle.rows.proofs.inversion.invert.Given as goal

abbrev pub invariant-loop-k : goal.invariant-loop-k
invariant-loop-k l = Inserted l.rows l.n l.k l.reduced l.names l.pivots × (length l.reduced ≡ limit) × (length l.names ≡ limit)
