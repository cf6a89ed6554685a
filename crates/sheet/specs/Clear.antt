-- What a sheet of good shape has: its size, its places, and numbers below 2 ^ n.
-- What of this a wrong definition breaks, and what rests on that, stands in `proofs/Clear.antt`.
-- Assumes nothing.
use Rattle.std.specs.Prelude.{◌≡◌, ◌||◌, List, length}
use Rattle.std.proofs.Common.{arith}
use Prim.Native.Nat.{ℕ, ◌^◌, ◌≤◌, ◌<◌}
use Rattle.gf2.specs.Numbers.{pow-next}
use Rattle.gf2.specs.Poly.{Degree}
use Rattle.field.specs.Refusals.{too_large_lem}
use Rattle.gf2.specs.Truth.{or_false}
use Rattle.field.specs.Orders.{not_too_large}
use Rattle.rows.specs.Rows.{Matrix}
use Rattle.normal.specs.Coordinates.{listed_at, listed-length, rows_matrix}
use Rattle.sheet.specs.Record.{record_count, word_size, table_at, column_in, rows_in, tail_in, conjugate_in, inverse_in, table_in, polynomial_in}
use Rattle.sheet.specs.Orders.{oversized, Shaped}

-- ---- what a clear shape says

module _ (sheet : List ℕ) (s : Shaped sheet) where
  -- the four numbers of a record that are below 2 ^ n
  pub columns-lt : (i : ℕ) → i < record_count sheet
      → (tail_in sheet i < 2 ^ record_count sheet) × (conjugate_in sheet i < 2 ^ record_count sheet) × (inverse_in sheet i < 2 ^ record_count sheet) × (table_in sheet i < 2 ^ record_count sheet)
  unfolding oversized
  columns-lt i h =
      let n : ℕ = record_count sheet in
      let a = or_false (too_large_lem n (tail_in sheet i) || too_large_lem n (conjugate_in sheet i) || too_large_lem n (inverse_in sheet i)) (too_large_lem n (table_in sheet i)) (s.small i h) in
      let b = or_false (too_large_lem n (tail_in sheet i) || too_large_lem n (conjugate_in sheet i)) (too_large_lem n (inverse_in sheet i)) a.0 in
      let c = or_false (too_large_lem n (tail_in sheet i)) (too_large_lem n (conjugate_in sheet i)) b.0 in
      (not_too_large n (tail_in sheet i) c.0, not_too_large n (conjugate_in sheet i) c.1, not_too_large n (inverse_in sheet i) b.1, not_too_large n (table_in sheet i) a.1)

  -- its polynomial has its record count as degree
  pub polynomial-degree : Degree (polynomial_in sheet) (record_count sheet)
  polynomial-degree =
      let h : 2 ≤ record_count sheet = s.size.two in
      let t = (columns-lt 0 (omega arith)).0 in
      record { low = omega arith; high = rw pow-next (omega arith) }

  pub rows_in-length : (at : ℕ) → length (rows_in sheet at) ≡ record_count sheet
  unfolding rows_in
  rows_in-length at = listed-length (record_count sheet) (λ i. column_in sheet i at word_size)

  pub table_matrix : Matrix (rows_in sheet table_at) (record_count sheet)
  unfolding rows_in
  table_matrix =
      rows_matrix (rows_in sheet table_at) (record_count sheet) (rows_in-length table_at)
      (λ i h. rw (listed_at (record_count sheet) (λ i. column_in sheet i table_at word_size) i h) (columns-lt i h).3)
