-- `elements::squares::square_rows` meets its contract: the goals that the check leaves. Its loop is told in `Invariants.antt`. Assumes nothing.
use Rattle.std.proofs.Common.{◌≡◌, ℕ, ◌≤◌, List, ap, ◌∙◌, arith}
use lib.Pow.{pow-lt}
use Rattle.gf2.specs.Limit.{limit}
use Rattle.gf2.specs.Poly.{mul_mod}
use Rattle.normal.specs.Filling.{Filled, filled_start, filled_turn, filled_padded}
use Rattle.elements.specs.Squares.{square_rows}
use Rattle.elements.proofs.squares.square_rows.Invariants.{row}
use Rattle.elements.proofs.squares.square_rows.Goals as goal

done : (f n i : ℕ) (rows : List ℕ) → i ≤ n → n ≤ i → n ≤ limit → Filled rows i (row f n) → rows ≡ square_rows f n
unfolding square_rows
done f n i rows p q small s = let e : i ≡ n = omega arith in filled_padded rows n (row f n) small (rw e at s)

pub loop-i-init : goal.loop-i-init
loop-i-init c = filled_start (row c.args.f c.args.n)

pub power-requires : goal.power-requires
power-requires c = omega (arith, c.requires.most)

pub square-requires : goal.square-requires
square-requires c =
    (record { is_degree = c.requires.is_degree; below = rw c.power.ensures (pow-lt c.loop-i-test.true) })

pub offset_bounds-rows-i : goal.offset_bounds-rows-i
offset_bounds-rows-i c = omega (arith, c.requires.most)

pub bounds-rows-i : goal.bounds-rows-i
bounds-rows-i c = omega (arith, c.requires.most)

pub loop-i-preserved : goal.loop-i-preserved
loop-i-preserved c =
    filled_turn c.loop-i.rows c.loop-i.i c.square.result (row c.args.f c.args.n) (omega (arith, c.requires.most))
    (c.square.ensures ∙ ap (λ (y : ℕ). mul_mod c.args.f c.args.n y y) c.power.ensures) c.loop-i.invariant

pub returns : goal.returns
returns c =
    done c.args.f c.args.n c.loop-i.i c.loop-i.rows c.loop-i.auto.i-end c.loop-i-test.false c.requires.most c.loop-i.invariant
