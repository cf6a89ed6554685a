-- `search::walking::walk_on` meets its contract. The invariant: found is what was held, joined with the elements from next to below y; its count is at
-- most y. Assumes nothing.
use mathlib.Core.Path.{◌≡◌}
use Prim.Native.Nat.{◌+◌, ◌-◌, ◌≤◌}
use Rattle.search.specs.Search.{joined, walked, count_of}
use Rattle.search.specs.Joining.{as_answer}
use Rattle.search.proofs.walking.walk_on.Given as goal

abbrev pub invariant-loop-y : goal.invariant-loop-y
invariant-loop-y l =
    (l.y ≤ l.last + 1) × (count_of (as_answer l.found) ≤ l.y)
    × (as_answer l.found ≡ joined (as_answer l.initial.found) (walked l.m.f l.m.n l.next (l.y - l.next)))
