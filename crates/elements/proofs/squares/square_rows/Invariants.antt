-- `elements::squares::square_rows` meets its contract. The invariant: the rows below i are filled.
-- Assumes nothing.
use Rattle.std.proofs.Common.{ℕ, ◌^◌}
use Rattle.gf2.specs.Poly.{mul_mod}
use Rattle.normal.specs.Filling.{Filled}
use Rattle.elements.proofs.squares.square_rows.Given as goal

-- the square of x ^ i
abbrev pub row : (f n i : ℕ) → ℕ
row f n i = mul_mod f n (2 ^ i) (2 ^ i)

abbrev pub invariant-loop-i : goal.invariant-loop-i
invariant-loop-i l = Filled l.rows l.i (row l.f l.n)
