-- The byte sums that a call loads from a sheet of good shape are of its table's rows.
-- Assumes nothing.
use Rattle.std.specs.Prelude.{◌≡◌, List, ℕ}
use Rattle.std.proofs.Common.{arith}
use Rattle.rows.specs.ByteSums.{bytes, byte_sums}
use Rattle.normal.specs.Normal.{padded}
use Rattle.normal.specs.Summed.{summed_rows, Summed, summed-rows, summed_matrix}
use Rattle.sheet.specs.Record.{record_count, table_at, table_rows_in}
use Rattle.sheet.specs.Orders.{Shaped}
use Rattle.sheet.specs.Clear.{rows_in-length, table_matrix}

module _ (sheet : List ℕ) (z : Shaped sheet) (sums : List ℕ) (is : sums ≡ byte_sums bytes (padded (table_rows_in sheet))) where
  pub loaded_rows : summed_rows (record_count sheet) sums ≡ table_rows_in sheet
  loaded_rows = summed-rows (record_count sheet) z.size.most (table_rows_in sheet) (rows_in-length sheet z table_at) sums is

  pub loaded_sums : Summed (record_count sheet) sums
  loaded_sums =
      summed_matrix (record_count sheet) z.size.most (table_rows_in sheet) (rows_in-length sheet z table_at) sums is (omega (arith, z.size.two)) (table_matrix sheet z)
