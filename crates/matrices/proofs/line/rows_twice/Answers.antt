-- `matrices::line::rows_twice` meets its contract: the goals that the check leaves. Its loop is told in `Invariants.antt`. Assumes nothing.
use native.Mathlib.Omega.{arith}
use lib.ListN.{get_or, length-set}
use Rattle.matrices.specs.Turned.{copied_none, copied_next}
use Rattle.matrices.proofs.line.rows_twice.Goals as goal

pub loop-i-init : goal.loop-i-init
loop-i-init c = copied_none c.args.n c.args.table.now

pub bounds-rows-i : goal.bounds-rows-i
bounds-rows-i c = omega (arith, c.requires, c.loop-i.invariant.size)

pub bounds-rows-n : goal.bounds-rows-n
bounds-rows-n c = omega (arith, c.requires, length-set c.loop-i.rows c.loop-i.i (get_or c.args.table.now c.loop-i.i 0), c.loop-i.invariant.size)

pub loop-i-preserved : goal.loop-i-preserved
loop-i-preserved c = copied_next c.args.n c.loop-i.i c.args.table.now c.loop-i.rows c.requires c.loop-i-test.true c.loop-i.invariant
