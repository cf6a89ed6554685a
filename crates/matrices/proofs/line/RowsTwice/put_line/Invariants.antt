-- `matrices::line::RowsTwice::put_line` meets its contract. The invariant: the first j digits stand in their places, and all else as it came.
-- Assumes nothing.
use mathlib.Core.Path.{◌≡◌}
use Prim.Native.Nat.{◌+◌}
use Rattle.normal.specs.Normal.{listed}
use Rattle.normal.specs.TableProduct.{entry}
use Rattle.sheet.specs.Bytes.{pasted}
use Rattle.matrices.specs.Matrices.{digit_byte}
use Rattle.matrices.proofs.line.RowsTwice.put_line.Given as goal

abbrev pub invariant-loop-j : goal.invariant-loop-j
invariant-loop-j l = l.text ≡ pasted l.initial.text l.at (listed l.j (λ i. digit_byte (entry l.self.rows (i + l.first) l.bit)))
