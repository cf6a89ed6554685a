-- `matrices::line::rows_twice` meets its contract. The invariant: the first i rows stand in both places. Assumes nothing.
use Rattle.matrices.specs.Turned.{Copied}
use Rattle.matrices.proofs.line.rows_twice.Given as goal

abbrev pub invariant-loop-i : goal.invariant-loop-i
invariant-loop-i l = Copied l.n l.i l.table l.rows
