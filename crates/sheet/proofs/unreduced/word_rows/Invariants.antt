-- `sheet::unreduced::word_rows` meets its contract. The invariant: the rows below i are made, and y is x ^ i modulo f.
-- The measure is the number of rows to come. Assumes nothing.
use mathlib.Core.Path.{◌≡◌}
use mathlib.Core.List.{List}
use Prim.Native.Nat.{ℕ, ◌-◌, ◌^◌, ◌≤◌}
use Rattle.gf2.specs.Poly.{rem}
use Rattle.normal.specs.Filling.{FilledOf}
use Rattle.sheet.specs.Unreduced.{in_normal, word_bits}
use Rattle.sheet.proofs.unreduced.word_rows.Given as goal

-- row i
abbrev pub row : (f n : ℕ) (rows : List ℕ) → ℕ → ℕ
row f n rows i = in_normal f n rows (2 ^ i)

abbrev pub invariant-loop-i : goal.invariant-loop-i
invariant-loop-i l = (l.i ≤ word_bits) × FilledOf word_bits l.words l.i (row l.ring.f l.ring.n l.rows) × (l.y ≡ rem l.ring.f l.ring.n (2 ^ l.i))

abbrev pub decreases-loop-i : goal.decreases-loop-i
decreases-loop-i l = word_bits - l.i
