-- `normal::basis::table_of` meets its contract. The invariant: the rows below i are filled.
-- Assumes nothing.
use mathlib.Core.List.{List}
use Prim.Native.Nat.{ℕ}
use lib.ListN.{get_or}
use Rattle.gf2.specs.Poly.{mul_mod}
use Rattle.rows.specs.Rows.{comb}
use Rattle.normal.specs.Filling.{Filled}
use Rattle.normal.proofs.basis.table_of.Given as goal

-- the coordinates of c_0 times c_i
abbrev pub row : (f n : ℕ) (conjugates inverse : List ℕ) → ℕ → ℕ
row f n conjugates inverse i = comb inverse (mul_mod f n (get_or conjugates 0 0) (get_or conjugates i 0))

abbrev pub invariant-loop-i : goal.invariant-loop-i
invariant-loop-i l = Filled l.rows l.i (row l.f l.n l.conjugates l.inverse)
