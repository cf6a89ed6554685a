-- `field::accepted::squared_half` meets its contract: the goals that the check leaves. Its loop is told in `Invariants.antt`. Assumes nothing.
use mathlib.Core.Path.{◌≡◌, refl}
use Rattle.std.specs.Prelude.{Some, None}
use Rattle.std.proofs.Common.{rules}
use mathlib.Core.Bool.{true, cond}
use Prim.Native.Nat.{ℕ, ◌+◌, ◌/◌, ◌^◌, ◌≤◌, ◌<◌}
use native.Mathlib.Omega.{arith}
use lib.Bits.{bit_xor}
use lib.Pow.{pow_pos}
use Rattle.gf2.specs.Poly.{◌⊕◌, mul_mod, Degree}
use Rattle.gf2.specs.Euclid.{GreatestCommon}
use Rattle.field.specs.Field.{squared}
use Rattle.field.specs.Accepted.{divided}
use Rattle.field.specs.Ring.{two-lt}
use Rattle.field.specs.Frobenius.{squared_start, squared_turn, squared-lt}
use Rattle.field.specs.CommonDivisors.{NoneTo, none-to-zero, none-to-next, divided-found, divided-none}
use Rattle.field.proofs.accepted.squared_half.Goals as goal

module _ (f n : ℕ) (deg : Degree f n) (big : 2 ≤ n) (i y : ℕ) (test : i < n / 2) (ey : y ≡ squared f n i 2) where
  y-lt : y < 2 ^ n
  y-lt = rw ey (squared-lt f n deg i 2 (two-lt n big))

  module _ (z g : ℕ) (ez : z ≡ mul_mod f n y y) (s : GreatestCommon f (bit_xor z 2) g) where
    next : z ≡ squared f n (i + 1) 2
    next = squared_turn f n deg i 2 y z ey ez

    common : GreatestCommon f (squared f n (i + 1) 2 ⊕ 2) g
    unfolding ◌⊕◌
    common = rw next at s

    found : (g ≡ 1 → ⊥) → None ≡ cond (divided f n) None (Some (squared f n (n / 2) 2))
    found ne =
        let e : divided f n ≡ true = divided-found f n deg big (i + 1) g (omega arith) (omega arith) common ne in
        rw e

    again : g ≡ 1 → NoneTo f n i → (z ≡ squared f n (i + 1) 2) × NoneTo f n (i + 1)
    again e none = (next, none-to-next f n deg i g (omega arith) none common e)

done : (f n : ℕ) → Degree f n → 2 ≤ n → (y : ℕ) → y ≡ squared f n (n / 2) 2 → NoneTo f n (n / 2)
    → Some y ≡ cond (divided f n) None (Some (squared f n (n / 2) 2))
done f n deg big y ey none = rw (divided-none f n deg big (n / 2) (omega arith) none, ey) refl

f-pos : (f n : ℕ) → Degree f n → 0 < f
f-pos f n deg = omega (arith, deg.low, pow_pos n)

pub loop-init : goal.loop-init
loop-init c =
    (squared_start c.args.ring.f c.args.ring.n 2, none-to-zero c.args.ring.f c.args.ring.n c.args.ring.in_range.is_degree)

pub square-y-requires : goal.square-y-requires
square-y-requires c = record {
  is_degree = c.args.ring.in_range.is_degree;
  below = y-lt c.args.ring.f c.args.ring.n c.args.ring.in_range.is_degree c.args.ring.in_range.two c.loop.counter c.loop.y c.loop-test.true c.loop.invariant.0;
}

pub greatest_common-requires : goal.greatest_common-requires
greatest_common-requires c = f-pos c.args.ring.f c.args.ring.n c.args.ring.in_range.is_degree

pub returns-then-greatest_common-ne1 : goal.returns-then-greatest_common-ne1
returns-then-greatest_common-ne1 c =
    found c.args.ring.f c.args.ring.n c.args.ring.in_range.is_degree c.args.ring.in_range.two c.loop.counter c.loop.y c.loop-test.true c.loop.invariant.0
    c.square-y.result c.greatest_common.result c.square-y.ensures c.greatest_common.ensures c.if-greatest_common-ne1.true

pub loop-preserved : goal.loop-preserved
loop-preserved c =
    again c.args.ring.f c.args.ring.n c.args.ring.in_range.is_degree c.args.ring.in_range.two c.loop.counter c.loop.y c.loop-test.true c.loop.invariant.0
    c.square-y.result c.greatest_common.result c.square-y.ensures c.greatest_common.ensures c.if-greatest_common-ne1.false c.loop.invariant.1

pub returns : goal.returns
returns c =
    let s : c.loop.counter ≡ c.args.ring.n / 2 = search rules in
    let inv : (c.loop.y ≡ squared c.args.ring.f c.args.ring.n (c.args.ring.n / 2) 2) × NoneTo c.args.ring.f c.args.ring.n (c.args.ring.n / 2) = rw s at c.loop.invariant in
    done c.args.ring.f c.args.ring.n c.args.ring.in_range.is_degree c.args.ring.in_range.two c.loop.y inv.0 inv.1
