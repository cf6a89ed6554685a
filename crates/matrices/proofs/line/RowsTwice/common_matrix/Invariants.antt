-- `matrices::line::RowsTwice::common_matrix` meets its contract. The invariant: the first i lines agree.
-- Assumes nothing.
use Prim.Native.Nat.{◌+◌, ◌*◌}
use lib.ListN.{drop}
use Rattle.matrices.specs.Matrices.{matrix_bytes}
use Rattle.matrices.specs.Turned.{turned}
use Rattle.matrices.specs.Comparing.{Agrees}
use Rattle.matrices.proofs.line.RowsTwice.common_matrix.Given as goal

abbrev pub invariant-loop-i : goal.invariant-loop-i
invariant-loop-i l = Agrees (drop l.at l.text) (matrix_bytes l.self.n (turned l.self.n l.self.rows l.k)) l.i (l.i * (l.self.n + 1))
