-- `rows::by_bytes::first_tables` meets its contract. The loop's invariant: the first j tables are filled (`tables`). Assumes nothing.
use Rattle.std.proofs.Common.{◌≡◌}
use Rattle.rows.specs.Doubling.{tables}
use Rattle.rows.proofs.by_bytes.first_tables.Given as goal

abbrev pub invariant-loop-j : goal.invariant-loop-j
invariant-loop-j l = l.sums ≡ tables l.j l.rows l.initial.sums
