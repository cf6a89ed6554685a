-- `sheet::shaped::Sheet::divided` meets its contract: the sums are of the table's rows, and the inverse is below 2^n.
-- Assumes nothing.
use mathlib.Core.Path.{ap, ◌∙◌}
use mathlib.Core.List.{List}
use Prim.Native.Nat.{ℕ, ◌^◌, ◌<◌}
use borrow.Author.Rules.{rules}
use Rattle.normal.specs.Powers.{inverse_of, quotient_of}
use Rattle.normal.specs.TableProduct.{table_product}
use Rattle.normal.proofs.Recursion.{inverse-lt}
use Rattle.normal.specs.Summed.{summed_rows, summed_rows-length}
use Rattle.sheet.specs.Record.{record_count}
use Rattle.sheet.specs.Answers.{quotient_through}
use Rattle.sheet.specs.Loaded.{loaded_rows, loaded_sums}
use Rattle.sheet.proofs.shaped.Sheet.divided.Goals as goal

pub load_sums-requires : goal.load_sums-requires
load_sums-requires c = search rules

pub inverse_of-inverse-requires : goal.inverse_of-inverse-requires
inverse_of-inverse-requires c =
    rw c.degree-n.ensures (loaded_sums c.args.self.now.bytes.now c.args.self.now.shaped c.load_sums.new.sums c.load_sums.ensures, c.args.self.now.shaped.size.two, c.requires.1)

pub product_by_bytes-requires : goal.product_by_bytes-requires
product_by_bytes-requires c =
    let sheet = c.args.self.now.bytes.now in
    let n = record_count sheet in
    let sums = c.load_sums.new.sums in
    let t = loaded_sums sheet c.args.self.now.shaped sums c.load_sums.ensures in
    let e = c.inverse_of-inverse.ensures ∙ ap (λ (m : ℕ). inverse_of m (summed_rows m sums) c.args.divisor) c.degree-n.ensures in
    let w : c.inverse_of-inverse.result < 2 ^ n = rw e (inverse-lt n t.one (summed_rows n sums) (summed_rows-length n sums) t.row_lt c.args.divisor c.requires.1) in
    rw c.degree-n.ensures (t, c.requires.0, w)

pub returns : goal.returns
unfolding quotient_through quotient_of
returns c =
    let sheet = c.args.self.now.bytes.now in
    let n = record_count sheet in
    let sums = c.load_sums.new.sums in
    let e = c.inverse_of-inverse.ensures ∙ ap (λ (m : ℕ). inverse_of m (summed_rows m sums) c.args.divisor) c.degree-n.ensures in
    c.product_by_bytes.ensures ∙ ap (λ (m : ℕ). table_product m (summed_rows m sums) c.args.dividend c.inverse_of-inverse.result) c.degree-n.ensures
    ∙ ap (table_product n (summed_rows n sums) c.args.dividend) e
    ∙ ap (λ (rows : List ℕ). quotient_of n rows c.args.dividend c.args.divisor) (loaded_rows sheet c.args.self.now.shaped sums c.load_sums.ensures)
