-- `gf2::euclid::greatest_common` meets its contract: the goals that the check leaves. Its loop is told in `Invariants.antt`. Assumes nothing.
use Rattle.std.proofs.Common.{◌≡◌, ℕ, ◌+◌, ◌^◌, ◌<◌, arith}
use Rattle.gf2.specs.Poly.{rem, degree, Degree}
use Rattle.gf2.specs.Degrees.{degree_is, degree-lt}
use Rattle.gf2.specs.Remainder.{rem_lt}
use Rattle.gf2.specs.Euclid.{SameDivisors, same_refl, same_step, same-done}
use Rattle.gf2.proofs.euclid.greatest_common.Goals as goal

word-degree : (u d : ℕ) → 0 < u → u < 2 ^ 64 → d ≡ degree u → (d < 64) × (u < 2 ^ (d + 1))
word-degree u d p h e =
    let deg : Degree u d = rw e (degree_is u p) in
    (degree-lt u d 64 deg h, deg.high)

module _ (u v d r : ℕ) (nz : v ≡ 0 → ⊥) (ed : d ≡ degree v) (e : r ≡ rem v d u) where
  pos : 0 < v
  pos = omega arith

  deg : Degree v d
  deg = rw ed (degree_is v pos)

  less : r < v
  less = rw e (omega (arith, rem_lt v d deg u, deg.low))

  turn : (a b : ℕ) → (0 < u) × (u < 2 ^ 64) × (v < 2 ^ 64) × SameDivisors a b u v
      → (0 < v) × (v < 2 ^ 64) × (r < 2 ^ 64) × SameDivisors a b v r
  turn a b inv = (pos, inv.2, omega (arith, less, inv.2), rw e (same_step a b u v d inv.3))

pub loop-v-init : goal.loop-v-init
loop-v-init c = (c.requires, c.ranges.a.fits, c.ranges.b.fits, same_refl c.args.a c.args.b)

pub overflow_add-degree_of : goal.overflow_add-degree_of
overflow_add-degree_of c =
    omega (arith, (word-degree c.loop-v.u _ c.loop-v.invariant.0 c.loop-v.invariant.1 c.degree_of-in-loop-v.ensures).0)

pub remainder-r-requires : goal.remainder-r-requires
remainder-r-requires c =
    let w = word-degree c.loop-v.u c.degree_of-in-loop-v.result c.loop-v.invariant.0 c.loop-v.invariant.1 c.degree_of-in-loop-v.ensures in (
      omega (arith, w.0),
      rw c.degree_of.ensures (degree_is c.loop-v.v (omega arith)),
      w.1,
    )

pub loop-v-smaller : goal.loop-v-smaller
loop-v-smaller c =
    less c.loop-v.u c.loop-v.v c.degree_of.result c.remainder-r.result c.loop-v-test.true c.degree_of.ensures c.remainder-r.ensures

pub loop-v-preserved : goal.loop-v-preserved
loop-v-preserved c =
    turn c.loop-v.u c.loop-v.v c.degree_of.result c.remainder-r.result c.loop-v-test.true c.degree_of.ensures c.remainder-r.ensures c.args.a c.args.b c.loop-v.invariant

pub returns : goal.returns
returns c = same-done c.args.a c.args.b c.loop-v.u c.loop-v.v c.loop-v-test.false c.loop-v.invariant.3
