-- `matrices::line::RowsTwice::common_line` meets its contract. The invariant: the first j digits agree.
-- Assumes nothing.
use Prim.Native.Nat.{◌+◌}
use lib.ListN.{drop}
use Rattle.normal.specs.TableProduct.{entry}
use Rattle.matrices.specs.Matrices.{line_bytes}
use Rattle.matrices.specs.Comparing.{Agrees}
use Rattle.matrices.proofs.line.RowsTwice.common_line.Given as goal

abbrev pub invariant-loop-j : goal.invariant-loop-j
invariant-loop-j l = Agrees (drop l.at l.text) (line_bytes l.self.n (λ i. entry l.self.rows (i + l.first) l.bit)) 0 l.j
