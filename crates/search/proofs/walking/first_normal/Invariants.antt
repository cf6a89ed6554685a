-- `search::walking::first_normal` meets its contract. The invariant: no normal leader lies from first to below a. Assumes nothing.
use mathlib.Core.Path.{◌≡◌}
use Prim.Native.Nat.{◌+◌, ◌-◌, ◌≤◌}
use Rattle.search.specs.Search.{walked}
use Rattle.search.specs.declared.answer.Search.TheVariants.{Nothing}
use Rattle.search.proofs.walking.first_normal.Given as goal

abbrev pub invariant-loop-a : goal.invariant-loop-a
invariant-loop-a l = (l.a ≤ l.last + 1) × (walked l.m.f l.m.n l.first (l.a - l.first) ≡ Nothing)
