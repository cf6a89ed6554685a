-- `sheet::shaped::Sheet::multiplied_by_bits` meets its contract: the table as it stands, and zeros after it.
-- Assumes nothing.
use mathlib.Core.Path.{◌≡◌, ap, ◌∙◌}
use mathlib.Core.List.{List}
use Prim.Native.Nat.{ℕ}
use native.Mathlib.Omega.{arith}
use lib.ListN.{take}
use Rattle.rows.specs.Rows.{Matrix}
use Rattle.normal.specs.Normal.{padded}
use Rattle.normal.specs.TableProduct.{table_product}
use Rattle.normal.specs.Filling.{padded-take, padded_matrix}
use Rattle.sheet.specs.Record.{record_count, table_rows_in, table_at}
use Rattle.sheet.specs.Answers.{through_table}
use Rattle.sheet.specs.Clear.{rows_in-length, table_matrix}
use Rattle.sheet.proofs.shaped.Sheet.multiplied_by_bits.Goals as goal

loaded-matrix : (rows : List ℕ) (n : ℕ) {loaded : List ℕ} → loaded ≡ padded rows → Matrix rows n → Matrix loaded n
loaded-matrix rows n e m = rw e (padded_matrix rows n m)

pub rows-table-requires : goal.rows-table-requires
rows-table-requires c = omega arith

pub product_of-requires : goal.product_of-requires
product_of-requires c =
    let sheet = c.args.self.now.bytes.now in
    let z = c.args.self.now.shaped in
    record {
      one = omega (arith, z.size.two, c.degree.ensures);
      most = omega (arith, z.size.most, c.degree.ensures);
      table = rw c.degree.ensures (loaded-matrix (table_rows_in sheet) (record_count sheet) c.rows-table.ensures (table_matrix sheet z));
      left = rw c.degree.ensures c.requires.0;
      right = rw c.degree.ensures c.requires.1;
    }

pub returns : goal.returns
unfolding through_table
returns c =
    let sheet = c.args.self.now.bytes.now in
    let n = record_count sheet in
    c.product_of.ensures
    ∙ ap (λ (m : ℕ). table_product m (take m c.rows-table.result) c.args.a c.args.b) c.degree.ensures
    ∙ ap (λ (rows : List ℕ). table_product n rows c.args.a c.args.b) (ap (take n) c.rows-table.ensures ∙ padded-take (table_rows_in sheet) n (rows_in-length sheet c.args.self.now.shaped table_at))
