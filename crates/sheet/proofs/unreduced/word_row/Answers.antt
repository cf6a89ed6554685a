-- `sheet::unreduced::word_row` meets its contract: a single bit picks a single row.
-- Assumes nothing.
use mathlib.Core.Path.{sym, ap, ◌∙◌}
use native.Mathlib.Omega.{arith}
use lib.Pow.{pow_mono}
use Rattle.rows.specs.Rows.{comb}
use Rattle.rows.specs.Sums.{comb-power}
use Rattle.sheet.proofs.unreduced.word_row.Goals as goal

pub offset_bounds-rows-i : goal.offset_bounds-rows-i
offset_bounds-rows-i c = omega (arith, c.requires.0, c.if-i-n.true)

pub bounds-rows-i : goal.bounds-rows-i
bounds-rows-i c = omega (arith, c.requires.0, c.if-i-n.true)

pub sum-requires : goal.sum-requires
sum-requires c = omega (arith, c.requires.1, pow_mono c.requires.0)

pub returns-then-i-n : goal.returns-then-i-n
returns-then-i-n c =
    let rows = c.args.rows.now in
    sym (ap (comb rows) (c.requires.2 c.if-i-n.true) ∙ comb-power rows c.args.i)

pub returns-else-i-n : goal.returns-else-i-n
returns-else-i-n c = c.sum.ensures
