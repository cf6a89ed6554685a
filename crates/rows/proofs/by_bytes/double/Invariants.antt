-- `rows::by_bytes::double` meets its contract. The loop's invariant: the first b entries are copied (`doubled`). Assumes nothing.
use Rattle.std.proofs.Common.{◌≡◌}
use Rattle.rows.specs.Doubling.{doubled}
use Rattle.rows.proofs.by_bytes.double.Given as goal

abbrev pub invariant-loop-b : goal.invariant-loop-b
invariant-loop-b l = l.sums ≡ doubled l.b l.at l.count l.row l.initial.sums
