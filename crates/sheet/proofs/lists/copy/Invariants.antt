-- `sheet::lists::copy` meets its contract. The invariant: the first i values are copied, and the rest as it came.
-- Assumes nothing.
use Prim.Native.Nat.{ℕ}
use Rattle.sheet.specs.Lists.{FilledTo}
use Rattle.sheet.proofs.lists.copy.Given as goal

-- copying is converting by the map that leaves each value as it is
abbrev pub same : ℕ → ℕ
same x = x

abbrev pub invariant-loop-i : goal.invariant-loop-i
invariant-loop-i l = FilledTo same l.from l.initial.into l.into l.i
