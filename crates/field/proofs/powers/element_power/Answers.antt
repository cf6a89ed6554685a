-- `field::powers::element_power` meets its contract: the goals that the check leaves. Its loop is told in `Invariants.antt`. Assumes nothing.
use mathlib.Core.Path.{◌≡◌, sym, ◌∙◌}
use Prim.Native.Nat.{◌/◌, ◌^◌, ◌<◌}
use native.Mathlib.Omega.{arith}
use Rattle.gf2.specs.Poly.{mul_mod}
use Rattle.field.specs.Field.{pow_mod}
use Rattle.field.specs.Ring.{mul_mod-lt, mul_mod-one_l, two-lt}
use Rattle.field.specs.Frobenius.{pow_mod-lt, pow_mod-picked, pow_mod_passed, pow_mod_finished}
use Rattle.field.proofs.powers.element_power.Goals.{then-rest-eq1, else-rest-eq1}
use Rattle.field.proofs.powers.element_power.Goals as goal

pub loop-rest-init : goal.loop-rest-init
loop-rest-init c =
    let s = c.args.ring.in_range in
    (omega (arith, two-lt c.args.ring.n s.two), c.requires, mul_mod-one_l c.args.ring.f c.args.ring.n s.is_degree _ (pow_mod-lt c.args.ring.f c.args.ring.n s.is_degree s.two c.args.a c.args.e))

pub multiply-power-requires : goal.multiply-power-requires
multiply-power-requires c = record { is_degree = c.args.ring.in_range.is_degree; below = c.loop-rest.invariant.0 }

pub multiply-conjugate-requires : goal.multiply-conjugate-requires
multiply-conjugate-requires c = record { is_degree = c.args.ring.in_range.is_degree; below = c.loop-rest.invariant.1 }

pub loop-rest-smaller : goal.loop-rest-smaller
loop-rest-smaller c = omega (arith, c.loop-rest-test.true)

pub loop-rest-preserved : goal.loop-rest-preserved
loop-rest-preserved c =
    let f = c.args.ring.f in
    let n = c.args.ring.n in
    let r = c.args.ring.in_range in
    let y = c.loop-rest.power in
    let a = c.loop-rest.conjugate in
    let t : (c.if-rest-eq1.power < 2 ^ n) × (mul_mod f n c.if-rest-eq1.power (pow_mod f n (mul_mod f n a a) (c.loop-rest.rest / 2)) ≡ mul_mod f n y (pow_mod f n a c.loop-rest.rest)) =
    elim c.if-rest-eq1.branch [
      | then-rest-eq1 w ↦ (
        rw (w.power-is, w.multiply-power.ensures) (mul_mod-lt f n r.is_degree y a),
        rw (w.power-is, w.multiply-power.ensures) (pow_mod-picked f n r.is_degree r.two y a c.loop-rest.rest w.if-rest-eq1.true),
      )
      | else-rest-eq1 w ↦ (
        rw w.power-is c.loop-rest.invariant.0,
        rw w.power-is (pow_mod_passed f n r.is_degree r.two y a c.loop-rest.rest w.if-rest-eq1.false),
      )
    ] in
    (t.0, rw c.multiply-conjugate.ensures (mul_mod-lt f n r.is_degree a a), rw c.multiply-conjugate.ensures t.1 ∙ c.loop-rest.invariant.2)

pub returns : goal.returns
returns c =
    let r = c.args.ring.in_range in
    let z : c.loop-rest.rest ≡ 0 = omega (arith, c.loop-rest-test.false) in
    sym (pow_mod_finished c.args.ring.f c.args.ring.n r.is_degree r.two c.loop-rest.power c.loop-rest.conjugate c.loop-rest.invariant.0) ∙ (rw z at c.loop-rest.invariant.2)
