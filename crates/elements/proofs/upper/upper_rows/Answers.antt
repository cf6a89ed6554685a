-- `elements::upper::upper_rows` meets its contract: the goals that the check leaves. Its loop is told in `Invariants.antt`. Assumes nothing.
use Rattle.std.proofs.Common.{◌≡◌, ℕ, ◌≤◌, List, ap, ◌∙◌, arith}
use Rattle.gf2.specs.Limit.{limit}
use Rattle.gf2.specs.Remainder.{rem_lt}
use Rattle.normal.specs.Filling.{Filled, filled_start, filled_turn, filled_padded}
use Rattle.elements.specs.Reference.{through}
use Rattle.elements.specs.Upper.{upper_rows, power_reduced, next_power}
use Rattle.elements.proofs.upper.upper_rows.Invariants.{row}
use Rattle.elements.proofs.upper.upper_rows.Goals as goal

done : (f n i : ℕ) (sums rows : List ℕ) → i ≤ n → n ≤ i → n ≤ limit → Filled rows i (row f n sums) → rows ≡ upper_rows f n sums
unfolding upper_rows
done f n i sums rows p q small s = let e : i ≡ n = omega arith in filled_padded rows n (row f n sums) small (rw e at s)

pub power-requires : goal.power-requires
power-requires c = omega (arith, c.args.reference.now.of_normal.of_field.most)

pub overflow_sub-y : goal.overflow_sub-y
overflow_sub-y c = omega (arith, c.power.ensures, c.args.reference.now.of_normal.of_field.is_degree.low)

pub loop-i-init : goal.loop-i-init
loop-i-init c =
    let r = c.args.reference.now in
    (filled_start (row r.f r.n r.sums), power_reduced r.f r.n r.of_normal.of_field.is_degree _ c.power.ensures)

pub multiply_by_x-y-requires : goal.multiply_by_x-y-requires
multiply_by_x-y-requires c =
    let r = c.args.reference.now in
    record { is_degree = r.of_normal.of_field.is_degree; below = rw c.loop-i.invariant.1 (rem_lt r.f r.n r.of_normal.of_field.is_degree _) }

pub loop-i-preserved : goal.loop-i-preserved
loop-i-preserved c =
    let r = c.args.reference.now in
    let f = r.f in
    let n = r.n in (
      filled_turn c.loop-i.rows c.loop-i.i c.coordinates.result (row f n r.sums) (omega (arith, c.loop-i-test.true, r.of_normal.of_field.most))
          (c.coordinates.ensures ∙ ap (through r.sums) c.loop-i.invariant.1) c.loop-i.invariant.0,
      next_power f n r.of_normal.of_field.is_degree c.loop-i.i c.loop-i.y c.multiply_by_x-y.result c.loop-i.invariant.1 c.multiply_by_x-y.ensures,
    )

pub returns : goal.returns
returns c =
    let r = c.args.reference.now in
    done r.f r.n c.loop-i.i r.sums c.loop-i.rows c.loop-i.auto.i-end c.loop-i-test.false r.of_normal.of_field.most c.loop-i.invariant.0
