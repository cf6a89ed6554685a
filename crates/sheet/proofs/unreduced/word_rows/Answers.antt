-- `sheet::unreduced::word_rows` meets its contract: the goals that the check leaves. Its loop is told in `Invariants.antt`. Assumes nothing.
use mathlib.Core.Path.{◌≡◌, sym, ap, ◌∙◌}
use mathlib.Core.List.{List}
use Prim.Native.Nat.{ℕ, ◌^◌, ◌≤◌, ◌<◌}
use native.Mathlib.Omega.{arith}
use lib.Pow.{pow-lt}
use Rattle.gf2.specs.Poly.{rem}
use Rattle.gf2.specs.Remainder.{rem-small, rem-element}
use Rattle.field.specs.Accepted.{InRange}
use Rattle.field.specs.Ring.{one-lt}
use Rattle.rows.specs.Rows.{comb}
use Rattle.normal.specs.Filling.{FilledOf, filled_start, filled_turn, filled_listed}
use Rattle.sheet.specs.Unreduced.{in_normal, word_bits, word_rows, power_turn}
use Rattle.sheet.proofs.unreduced.word_rows.Invariants.{row}
use Rattle.sheet.proofs.unreduced.word_rows.Goals as goal

-- x ^ 0 is an element
start : (f n : ℕ) → InRange f n → 1 ≡ rem f n (2 ^ 0)
start f n r = sym (rem-small f n 1 (one-lt n (omega (arith, r.two))))

-- and so is x ^ i below n
own : (f n i y : ℕ) → y ≡ rem f n (2 ^ i) → i < n → y ≡ 2 ^ i
own f n i y e h = e ∙ rem-small f n (2 ^ i) (pow-lt h)

made : (f n i x y : ℕ) (rows : List ℕ) → x ≡ comb rows y → y ≡ rem f n (2 ^ i) → x ≡ row f n rows i
unfolding in_normal
made f n i x y rows p q = p ∙ ap (comb rows) q

done : (f n i : ℕ) (rows words : List ℕ) → word_bits ≤ i → FilledOf word_bits words i (row f n rows) → words ≡ word_rows f n rows
unfolding word_rows
done f n i rows words h s = filled_listed words i (row f n rows) h s

pub loop-i-init : goal.loop-i-init
loop-i-init c =
    (omega arith, filled_start (row c.args.ring.f c.args.ring.n c.args.rows.now), start c.args.ring.f c.args.ring.n c.args.ring.in_range)

pub word_row-requires : goal.word_row-requires
word_row-requires c =
    let e = c.loop-i.invariant.2 in
    (c.args.ring.in_range.most, (rem-element c.args.ring.f c.args.ring.n c.args.ring.in_range.is_degree (2 ^ c.loop-i.i) e).below, own c.args.ring.f c.args.ring.n c.loop-i.i c.loop-i.y e)

pub multiply_by_x-y-requires : goal.multiply_by_x-y-requires
multiply_by_x-y-requires c = rem-element c.args.ring.f c.args.ring.n c.args.ring.in_range.is_degree (2 ^ c.loop-i.i) c.loop-i.invariant.2

pub loop-i-preserved : goal.loop-i-preserved
loop-i-preserved c =
    let f = c.args.ring.f in
    let n = c.args.ring.n in
    let rows = c.args.rows.now in
    let i = c.loop-i.i in
    let e = c.loop-i.invariant.2 in (
      omega arith,
      filled_turn c.loop-i.words i c.word_row.result (row f n rows) (omega arith) (made f n i c.word_row.result c.loop-i.y rows c.word_row.ensures e) c.loop-i.invariant.1,
      power_turn f n c.args.ring.in_range.is_degree i c.loop-i.y c.multiply_by_x-y.result e c.multiply_by_x-y.ensures,
    )

pub returns : goal.returns
returns c =
    done c.args.ring.f c.args.ring.n c.loop-i.i c.args.rows.now c.loop-i.words (omega arith) c.loop-i.invariant.1
