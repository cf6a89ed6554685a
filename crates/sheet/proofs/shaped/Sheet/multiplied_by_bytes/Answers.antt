-- `sheet::shaped::Sheet::multiplied_by_bytes` meets its contract: the sums are of the table's rows.
-- Assumes nothing.
use mathlib.Core.Path.{ap, ◌∙◌}
use mathlib.Core.List.{List}
use Prim.Native.Nat.{ℕ}
use borrow.Author.Rules.{rules}
use Rattle.normal.specs.TableProduct.{table_product}
use Rattle.normal.specs.Summed.{summed_rows}
use Rattle.sheet.specs.Record.{record_count}
use Rattle.sheet.specs.Answers.{through_table}
use Rattle.sheet.specs.Loaded.{loaded_rows, loaded_sums}
use Rattle.sheet.proofs.shaped.Sheet.multiplied_by_bytes.Goals as goal

pub load_sums-requires : goal.load_sums-requires
load_sums-requires c = search rules

pub product_by_bytes-requires : goal.product_by_bytes-requires
product_by_bytes-requires c =
    (rw c.degree.ensures (loaded_sums c.args.self.now.bytes.now c.args.self.now.shaped c.load_sums.new.sums c.load_sums.ensures), rw c.degree.ensures c.requires.0, rw c.degree.ensures c.requires.1)

pub returns : goal.returns
unfolding through_table
returns c =
    let sheet = c.args.self.now.bytes.now in
    let sums = c.load_sums.new.sums in
    c.product_by_bytes.ensures
    ∙ ap (λ (m : ℕ). table_product m (summed_rows m sums) c.args.a c.args.b) c.degree.ensures
    ∙ ap (λ (rows : List ℕ). table_product (record_count sheet) rows c.args.a c.args.b) (loaded_rows sheet c.args.self.now.shaped sums c.load_sums.ensures)
