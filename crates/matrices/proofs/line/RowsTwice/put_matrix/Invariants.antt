-- `matrices::line::RowsTwice::put_matrix` meets its contract. The invariant: the first i lines stand in their places, and all else as it came.
-- Assumes nothing.
use mathlib.Core.Path.{◌≡◌}
use Rattle.sheet.specs.Bytes.{pasted}
use Rattle.matrices.specs.Matrices.{in_order, line_bytes}
use Rattle.matrices.specs.Turned.{turned}
use Rattle.matrices.proofs.line.RowsTwice.put_matrix.Given as goal

abbrev pub invariant-loop-i : goal.invariant-loop-i
invariant-loop-i l = l.text ≡ pasted l.initial.text l.at (in_order l.i (λ m. line_bytes l.self.n (turned l.self.n l.self.rows l.k m)))
