-- `sheet::shaped::Sheet::load_sums` meets its contract: the rows loaded are the table's.
-- Assumes nothing.
use mathlib.Core.Path.{ap, ◌∙◌}
use native.Mathlib.Omega.{arith}
use Rattle.rows.specs.ByteSums.{bytes, byte_sums}
use Rattle.normal.specs.Filling.{padded_matrix}
use Rattle.sheet.specs.Record.{record_count, table_rows_in}
use Rattle.sheet.specs.Clear.{table_matrix}
use Rattle.sheet.proofs.shaped.Sheet.load_sums.Goals as goal

pub rows-requires : goal.rows-requires
rows-requires c = omega arith

pub degree_sums-requires : goal.degree_sums-requires
degree_sums-requires c =
    let sheet = c.args.self.now.bytes.now in
    let z = c.args.self.now.shaped in
    (rw (c.rows.ensures, c.degree.ensures) (padded_matrix (table_rows_in sheet) (record_count sheet) (table_matrix sheet z)), rw c.degree.ensures z.size.most, c.requires)

pub returns : goal.returns
returns c = c.degree_sums.ensures ∙ ap (byte_sums bytes) c.rows.ensures
