-- `sheet::shape::shape_verdict` meets its contract. The invariant: the records from i on decide.
-- Assumes nothing.
use mathlib.Core.Path.{◌≡◌}
use Prim.Native.Nat.{◌-◌, ◌≤◌}
use Rattle.refusals.specs.Verdicts.{first_of}
use Rattle.sheet.specs.Orders.{record_rules, shape_order}
use Rattle.sheet.proofs.shape.shape_verdict.Given as goal

abbrev pub invariant-loop-i : goal.invariant-loop-i
invariant-loop-i l = (l.i ≤ l.n) × (first_of (record_rules l.sheet l.i (l.n - l.i)) ≡ first_of (shape_order l.sheet))
