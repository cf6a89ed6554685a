-- `divisors::lowest::lowest_part` meets its contract: the goals that the check leaves. Its loop is told in `Invariants.antt`. Assumes nothing.
use mathlib.Core.Path.{◌≡◌}
use Prim.Native.Nat.{ℕ, ◌+◌, ◌-◌, ◌/◌, ◌^◌, ◌<◌}
use native.Mathlib.Omega.{arith}
use lib.Bits.{bit_xor}
use lib.Pow.{pow_pos}
use Rattle.gf2.specs.Poly.{◌⊕◌, mul_mod, Degree}
use Rattle.gf2.specs.Euclid.{GreatestCommon}
use Rattle.field.specs.Field.{squared}
use Rattle.field.specs.Ring.{two-lt}
use Rattle.field.specs.Frobenius.{squared_start, squared_turn, squared-lt}
use Rattle.field.specs.CommonDivisors.{NoneTo, none-to-zero, none-to-next}
use Rattle.divisors.specs.Smallest.{smallest_divisor}
use Rattle.divisors.specs.Level.{Level}
use Rattle.divisors.specs.Lowest.{lowest_found, lowest_none}
use Rattle.divisors.proofs.lowest.lowest_part.Goals.{else-loop-i-test, then-loop-i-test+else-g-ne1+else-i-i-end}
use Rattle.divisors.proofs.lowest.lowest_part.Goals as goal

module _ (f n : ℕ) (deg : Degree f n) (i y : ℕ) (test : i < n / 2) (ey : y ≡ squared f n i 2) where
  y-lt : y < 2 ^ n
  y-lt = rw ey (squared-lt f n deg i 2 (two-lt n (omega arith)))

  module _ (z g : ℕ) (ez : z ≡ mul_mod f n y y) (s : GreatestCommon f (bit_xor z 2) g) (none : NoneTo f n i) where
    next : z ≡ squared f n (i + 1) 2
    next = squared_turn f n deg i 2 y z ey ez

    common : GreatestCommon f (squared f n (i + 1) 2 ⊕ 2) g
    unfolding ◌⊕◌
    common = rw next at s

    found : (g ≡ 1 → ⊥) → Level (i + 1) g × (smallest_divisor g ≡ smallest_divisor f)
    found ne = lowest_found f n deg i none (omega arith) g common ne

    again : g ≡ 1 → (z ≡ squared f n (i + 1) 2) × NoneTo f n (i + 1)
    again e = (next, none-to-next f n deg i g (omega arith) none common e)

f-pos : (f n : ℕ) → Degree f n → 0 < f
f-pos f n deg = omega (arith, deg.low, pow_pos n)

pub loop-i-init : goal.loop-i-init
loop-i-init c = (squared_start c.args.f c.args.n 2, none-to-zero c.args.f c.args.n c.requires.1)

pub multiply-y-requires : goal.multiply-y-requires
multiply-y-requires c =
    record {
      is_degree = c.requires.1;
      below = y-lt c.args.f c.args.n c.requires.1 (c.loop-i.i - 1) c.loop-i.y (omega arith) c.loop-i.invariant.0;
    }

pub greatest_common-g-requires : goal.greatest_common-g-requires
greatest_common-g-requires c = f-pos c.args.f c.args.n c.requires.1

pub invariant_of-result : goal.invariant_of-result
invariant_of-result c =
    let turn : c.loop-i.i ≡ c.loop-i.i - 1 + 1 = omega arith in
    let part = found c.args.f c.args.n c.requires.1 (c.loop-i.i - 1) c.loop-i.y (omega arith) c.loop-i.invariant.0
    c.multiply-y.result c.greatest_common-g.result c.multiply-y.ensures c.greatest_common-g.ensures c.loop-i.invariant.1 c.if-g-ne1.true in
    record { level = rw turn part.0 }

pub returns-then-g-ne1 : goal.returns-then-g-ne1
returns-then-g-ne1 c =
    (found c.args.f c.args.n c.requires.1 (c.loop-i.i - 1) c.loop-i.y (omega arith) c.loop-i.invariant.0
    c.multiply-y.result c.greatest_common-g.result c.multiply-y.ensures c.greatest_common-g.ensures c.loop-i.invariant.1 c.if-g-ne1.true).1

pub loop-i-preserved : goal.loop-i-preserved
loop-i-preserved c =
    let turn : c.loop-i.i + 1 - 1 ≡ c.loop-i.i - 1 + 1 = omega arith in
    rw turn
    (again c.args.f c.args.n c.requires.1 (c.loop-i.i - 1) c.loop-i.y (omega arith) c.loop-i.invariant.0
    c.multiply-y.result c.greatest_common-g.result c.multiply-y.ensures c.greatest_common-g.ensures c.loop-i.invariant.1 c.if-g-ne1.false)

pub invariant_of-result-2 : goal.invariant_of-result-2
invariant_of-result-2 c =
    record {
      level =
          elim c.loop-i-test.branch [
            | else-loop-i-test w ↦ lowest_none c.args.f c.args.n (c.loop-i.i - 1) c.requires.1 c.requires.0 (omega arith) c.loop-i.invariant.1
            | then-loop-i-test+else-g-ne1+else-i-i-end w ↦
                let last = again c.args.f c.args.n c.requires.1 (c.loop-i.i - 1) c.loop-i.y (omega arith) c.loop-i.invariant.0
                w.multiply-y.result w.greatest_common-g.result w.multiply-y.ensures w.greatest_common-g.ensures c.loop-i.invariant.1 w.if-g-ne1.false in
                lowest_none c.args.f c.args.n (c.loop-i.i - 1 + 1) c.requires.1 c.requires.0 (omega arith) last.1
          ];
    }
