-- `listing::putting::Lent::rows` meets its contract: the goals that the check leaves. Its loop is told in `Invariants.antt`. Assumes nothing.
use mathlib.Core.Path.{refl, ◌∙◌}
use native.Mathlib.Omega.{arith}
use Rattle.listing.specs.Lines.{rows_none, rows_turn}
use Rattle.listing.proofs.putting.Lent.rows.Goals as goal

pub loop-i-init : goal.loop-i-init
loop-i-init c = (omega arith, rows_none c.args.self.now.text.now c.args.sheet.now c.args.self.now.at (omega (arith, c.requires.1)), (refl, refl))

pub loop-i-preserved : goal.loop-i-preserved
loop-i-preserved c = (
  omega (arith, c.row.ensures.short, c.loop-i.invariant.0),
  rows_turn c.args.sheet.now c.loop-i.i c.loop-i.invariant.1 c.row.ensures.put,
  (c.row.ensures.same.0 ∙ c.loop-i.invariant.2.0, c.row.ensures.same.1 ∙ c.loop-i.invariant.2.1),
)
