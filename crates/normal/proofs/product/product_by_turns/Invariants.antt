-- `normal::product::product_by_turns` meets its contract. The invariant: whichever rows the closure sums, the bits of a from i upward are taken.
-- Assumes nothing.
use Rattle.std.proofs.Common.{List, ℕ}
use Rattle.normal.specs.TableProduct.{SumsRows}
use Rattle.normal.specs.Turns.{Taken}
use Rattle.normal.proofs.product.product_by_turns.Given as goal

abbrev pub invariant-loop-i : goal.invariant-loop-i
invariant-loop-i g l = (T : List ℕ) → SumsRows l.n T (goal.F-post g l.sum) → Taken l.n T l.a l.b l.product l.turned l.i
