-- `matrices::line::RowsTwice::common_text` meets its contract. The invariant: the first k matrices agree.
-- Assumes nothing.
use Prim.Native.Nat.{◌+◌, ◌*◌}
use Rattle.matrices.specs.Matrices.{text_bytes, matrix_size}
use Rattle.matrices.specs.Turned.{turned}
use Rattle.matrices.specs.Comparing.{Agrees}
use Rattle.matrices.proofs.line.RowsTwice.common_text.Given as goal

abbrev pub invariant-loop-k : goal.invariant-loop-k
invariant-loop-k l = Agrees l.text (text_bytes l.self.n (turned l.self.n l.self.rows)) (l.k * (l.self.n + 1)) (l.k * matrix_size l.self.n)
