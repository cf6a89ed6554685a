-- `rows::sums::sum` meets its contract: the goals that the check leaves. Its loop is told in `Invariants.antt`. Assumes nothing.
use Prim.Native.Nat.{◌+◌, ◌-◌, ◌/◌, ◌^◌, ◌<◌}
use native.Mathlib.Omega.{arith}
use Rattle.gf2.specs.Poly.{◌⊕◌}
use Rattle.gf2.specs.Sum.{zero-⊕}
use Rattle.gf2.specs.Limit.{limit}
use Rattle.rows.specs.Sums.{left_turn, comb_turn, comb-end}
use Rattle.rows.proofs.sums.sum.Goals.{In-loop-left}
use Rattle.rows.proofs.sums.sum.Goals as goal

-- where a bit is left there is a row
turn : (c : In-loop-left) → let l = c.loop-left in (l.i < limit) × (l.left / 2 < 2 ^ (limit - (l.i + 1)))
turn c = let l = c.loop-left in left_turn limit l.i l.left l.invariant.0 c.loop-left-test.true

pub loop-left-init : goal.loop-left-init
loop-left-init c = (c.requires, zero-⊕ _)

pub offset_bounds-rows-i : goal.offset_bounds-rows-i
offset_bounds-rows-i c = omega (arith, (turn (goal.at.offset_bounds-rows-i c).In-loop-left).0)

pub bounds-rows-i : goal.bounds-rows-i
bounds-rows-i c = (turn (goal.at.bounds-rows-i c).In-loop-left).0

pub overflow_add-i : goal.overflow_add-i
overflow_add-i c = omega (arith, (turn (goal.at.overflow_add-i c).In-loop-left).0)

pub loop-left-smaller : goal.loop-left-smaller
loop-left-smaller c = omega (arith, c.loop-left-test.true)

pub loop-left-preserved : goal.loop-left-preserved
unfolding ◌⊕◌
loop-left-preserved c =
    let s = c.args in
    ((turn (goal.at.loop-left-preserved c).In-loop-left).1, comb_turn s.rows.now c.loop-left.i c.loop-left.sum c.loop-left.left c.picked-sum.result s.v c.picked-sum.ensures c.loop-left.invariant.1)

pub returns : goal.returns
returns c =
    let s = c.args in
    comb-end s.rows.now c.loop-left.i c.loop-left.sum c.loop-left.left s.v (omega (arith, c.loop-left-test.false)) c.loop-left.invariant.1
