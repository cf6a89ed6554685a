-- `rows::by_bytes::byte_table` meets its contract. The loop's invariant: the table holds the sums of the first t rows (`tabled`).
-- Assumes nothing.
use Rattle.std.proofs.Common.{◌≡◌, ◌*◌, drop}
use Rattle.rows.specs.Doubling.{tabled}
use Rattle.rows.proofs.by_bytes.byte_table.Given as goal

abbrev pub invariant-loop-t : goal.invariant-loop-t
invariant-loop-t l = l.sums ≡ tabled l.t (256 * l.j) (drop (8 * l.j) l.rows) l.initial.sums
