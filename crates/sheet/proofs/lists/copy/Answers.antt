-- `sheet::lists::copy` meets its contract: the goals that the check leaves. Its loop is told in `Invariants.antt`. Assumes nothing.
use mathlib.Core.Path.{refl, ◌∙◌}
use mathlib.Core.List.{map-id}
use Rattle.sheet.specs.Lists.{fill_turn, fill_done}
use Rattle.sheet.proofs.lists.copy.Invariants.{same}
use Rattle.sheet.proofs.lists.copy.Goals as goal

pub loop-i-preserved : goal.loop-i-preserved
loop-i-preserved c =
    fill_turn same c.args.from.now c.args.into.now c.loop-i.into c.loop-i.i _ c.loop-i-test.true c.requires refl c.loop-i.invariant

pub returns : goal.returns
returns c =
    fill_done same c.args.from.now c.args.into.now c.loop-i.into c.loop-i.i c.loop-i-test.false c.requires c.loop-i.invariant ∙ map-id c.args.from.now
