-- `sheet::in_place::convert_each` meets its contract. The invariant: the values below the index are converted, and the rest as it came.
-- Assumes nothing.
use Rattle.std.proofs.Common.{◌≡◌, ℕ, ◌<◌, ◌≤◌, get_or, length}
use Rattle.sheet.proofs.in_place.convert_each.Given as goal

abbrev pub invariant-loop-value : goal.invariant-loop-value
invariant-loop-value g l = record {
  size : length l.list ≡ length l.initial.list;
  converted : (k : ℕ) → k < l.value-index → goal.F-post g l.convert (get_or l.initial.list k 0) (get_or l.list k 0);
  waiting : (k : ℕ) → l.value-index ≤ k → get_or l.list k 0 ≡ get_or l.initial.list k 0;
}
