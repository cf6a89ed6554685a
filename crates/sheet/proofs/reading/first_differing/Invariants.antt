-- `sheet::reading::first_differing` meets its contract. The invariant: the records from i on decide.
-- Assumes nothing.
use mathlib.Core.Path.{◌≡◌}
use Prim.Native.Nat.{◌-◌, ◌≤◌}
use Rattle.sheet.specs.Reading.{first_differing}
use Rattle.sheet.proofs.reading.first_differing.Given as goal

abbrev pub invariant-loop-i : goal.invariant-loop-i
invariant-loop-i l = (l.i ≤ l.n) × (first_differing l.sheet l.rebuilt l.i (l.n - l.i) ≡ first_differing l.sheet l.rebuilt 0 l.n)
