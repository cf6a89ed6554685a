-- `sheet::shaped::Sheet::inverted` meets its contract: the sums are of the table's rows.
-- Assumes nothing.
use mathlib.Core.Path.{ap, ◌∙◌}
use mathlib.Core.List.{List}
use Prim.Native.Nat.{ℕ}
use borrow.Author.Rules.{rules}
use Rattle.normal.specs.Powers.{inverse_of}
use Rattle.normal.specs.Summed.{summed_rows}
use Rattle.sheet.specs.Record.{record_count}
use Rattle.sheet.specs.Answers.{inverse_through}
use Rattle.sheet.specs.Loaded.{loaded_rows, loaded_sums}
use Rattle.sheet.proofs.shaped.Sheet.inverted.Goals as goal

pub load_sums-requires : goal.load_sums-requires
load_sums-requires c = search rules

pub inverse_of-requires : goal.inverse_of-requires
inverse_of-requires c =
    rw c.degree.ensures (loaded_sums c.args.self.now.bytes.now c.args.self.now.shaped c.load_sums.new.sums c.load_sums.ensures, c.args.self.now.shaped.size.two, c.requires)

pub returns : goal.returns
unfolding inverse_through
returns c =
    let sheet = c.args.self.now.bytes.now in
    let sums = c.load_sums.new.sums in
    c.inverse_of.ensures ∙ ap (λ (n : ℕ). inverse_of n (summed_rows n sums) c.args.a) c.degree.ensures
    ∙ ap (λ (rows : List ℕ). inverse_of (record_count sheet) rows c.args.a) (loaded_rows sheet c.args.self.now.shaped sums c.load_sums.ensures)
