-- `matrices::line::RowsTwice::put_text` meets its contract. The invariant: the first k matrices stand in their places, and all else as it came.
-- Assumes nothing.
use mathlib.Core.Path.{◌≡◌}
use Rattle.sheet.specs.Bytes.{pasted}
use Rattle.matrices.specs.Matrices.{in_order, matrix_bytes}
use Rattle.matrices.specs.Turned.{turned}
use Rattle.matrices.proofs.line.RowsTwice.put_text.Given as goal

abbrev pub invariant-loop-k : goal.invariant-loop-k
invariant-loop-k l = l.text ≡ pasted l.initial.text 0 (in_order l.k (λ m. matrix_bytes l.self.n (turned l.self.n l.self.rows m)))
