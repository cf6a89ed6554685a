-- `elements::upper::upper_rows` meets its contract. The invariant: the rows below i are filled, and y is x ^ (n + i) modulo f.
-- Assumes nothing.
use Rattle.std.proofs.Common.{◌≡◌, ℕ, ◌*◌, ◌^◌, List}
use Rattle.gf2.specs.Poly.{rem}
use Rattle.normal.specs.Filling.{Filled}
use Rattle.elements.specs.Reference.{through}
use Rattle.elements.proofs.upper.upper_rows.Given as goal

-- the coordinates of x ^ (n + i)
abbrev pub row : (f n : ℕ) (sums : List ℕ) (i : ℕ) → ℕ
row f n sums i = through sums (rem f n (2 ^ i * 2 ^ n))

abbrev pub invariant-loop-i : goal.invariant-loop-i
invariant-loop-i l = Filled l.rows l.i (row l.f l.n l.reference.sums) × (l.y ≡ rem l.f l.n (2 ^ l.i * 2 ^ l.n))
