-- `normal::grade::complexity_of` meets its contract. The invariant: sum is the number of ones in the rows so far.
-- Assumes nothing.
use mathlib.Core.Path.{◌≡◌}
use Prim.Native.Nat.{◌*◌, ◌≤◌}
use Rattle.std.specs.Prelude.{take}
use Rattle.normal.specs.Normal.{complexity}
use Rattle.normal.proofs.grade.complexity_of.Given as goal

abbrev pub invariant-loop-row : goal.invariant-loop-row
invariant-loop-row l = (l.sum ≤ 64 * l.row-index) × (l.sum ≡ complexity (take l.row-index l.row-items))
