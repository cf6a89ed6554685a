-- `search::leader::is_leader` meets its contract. The invariant: y is the conjugate c_(i-1), and none of c_0 to it is smaller than a.
-- Assumes nothing.
use mathlib.Core.Path.{◌≡◌}
use Prim.Native.Nat.{ℕ, ◌-◌, ◌≤◌, ◌<◌}
use Rattle.field.specs.Field.{squared}
use Rattle.search.proofs.leader.is_leader.Given as goal

abbrev pub invariant-loop-i : goal.invariant-loop-i
invariant-loop-i l = (1 ≤ l.i) × (l.y ≡ squared l.squares.f l.squares.n (l.i - 1) l.a) × ((j : ℕ) → j < l.i → l.a ≤ squared l.squares.f l.squares.n j l.a)
