-- `sheet::shaped::Sheet::rows` meets its contract. The invariant: the rows below i are read.
-- Assumes nothing.
use mathlib.Core.List.{List}
use Prim.Native.Nat.{ℕ, ◌≤◌}
use Rattle.normal.specs.Filling.{Filled}
use Rattle.sheet.specs.Record.{record_count, word_size, column_in}
use Rattle.sheet.proofs.shaped.Sheet.rows.Given as goal

abbrev pub row : (sheet : List ℕ) (at : ℕ) → ℕ → ℕ
row sheet at i = column_in sheet i at word_size

abbrev pub invariant-loop-i : goal.invariant-loop-i
invariant-loop-i l = (l.i ≤ record_count l.self.bytes.now) × Filled l.rows l.i (row l.self.bytes.now l.at)
