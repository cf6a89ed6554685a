-- `sheet::shaped::Sheet::polynomial` meets its contract: the top term, and the tail below it.
-- Assumes nothing.
use native.Mathlib.Omega.{arith}
use Rattle.sheet.specs.Record.{column_in}
use Rattle.sheet.specs.Rebuilding.{word_fits, word-polynomial}
use Rattle.sheet.proofs.shaped.Sheet.polynomial.Goals as goal

pub overflow_shl-result : goal.overflow_shl-result
overflow_shl-result c = omega (arith, c.degree.ensures, c.args.self.now.shaped.size.most)

pub number_at-requires : goal.number_at-requires
number_at-requires c = (omega (arith, c.args.self.now.shaped.size.whole, c.args.self.now.shaped.size.two), omega arith)

pub overflow_add-result : goal.overflow_add-result
unfolding column_in
overflow_add-result c =
    rw c.degree.ensures (record { fits = word_fits c.args.self.now.bytes.now c.args.self.now.shaped c.number_at.result c.number_at.ensures })

pub returns : goal.returns
unfolding column_in
returns c = rw c.degree.ensures (word-polynomial c.args.self.now.bytes.now c.args.self.now.shaped c.number_at.result c.number_at.ensures)
