-- `sheet::shaped::Sheet::converted` meets its contract: the rows as they stand, and zeros after them.
-- Assumes nothing.
use mathlib.Core.Path.{ap, ◌∙◌}
use mathlib.Core.List.{List}
use Prim.Native.Nat.{ℕ}
use native.Mathlib.Omega.{arith}
use lib.Pow.{pow_mono}
use Rattle.rows.specs.Rows.{comb}
use Rattle.normal.specs.Filling.{padded-comb}
use Rattle.sheet.specs.Record.{rows_in}
use Rattle.sheet.proofs.shaped.Sheet.converted.Goals as goal

pub rows-rows-requires : goal.rows-rows-requires
rows-rows-requires c = c.requires.0

pub sum-requires : goal.sum-requires
sum-requires c = omega (arith, c.requires.1, pow_mono c.args.self.now.shaped.size.most)

pub returns : goal.returns
returns c =
    c.sum.ensures ∙ ap (λ (rows : List ℕ). comb rows c.args.value) c.rows-rows.ensures ∙ padded-comb (rows_in c.args.self.now.bytes.now c.args.at) c.args.value
