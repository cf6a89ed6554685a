-- `rows::sums::sum` meets its contract. The loop's invariant: what is summed, with what the bits left pick of the rows left, is the whole
-- sum, and there is a row for each bit left. The measure is the number that is left. Assumes nothing.
use mathlib.Core.Path.{◌≡◌}
use Prim.Native.Nat.{◌-◌, ◌^◌, ◌<◌}
use lib.ListN.{drop}
use Rattle.gf2.specs.Poly.{◌⊕◌}
use Rattle.gf2.specs.Limit.{limit}
use Rattle.rows.specs.Rows.{comb}
use Rattle.rows.proofs.sums.sum.Given as goal

abbrev pub invariant-loop-left : goal.invariant-loop-left
invariant-loop-left l = (l.left < 2 ^ (limit - l.i)) × (l.sum ⊕ comb (drop l.i l.rows) l.left ≡ comb l.rows l.v)

abbrev pub decreases-loop-left : goal.decreases-loop-left
decreases-loop-left l = l.left
