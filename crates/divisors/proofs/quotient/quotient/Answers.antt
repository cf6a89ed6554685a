-- `divisors::quotient::quotient` meets its contract: the goals that the check leaves. Its loop is told in `Invariants.antt`. Assumes nothing.
use mathlib.Core.Path.{◌≡◌, refl, ap}
use Prim.Native.Nat.{ℕ, ◌+◌, ◌-◌, ◌*◌, ◌%◌, ◌^◌, ◌≤◌, ◌<◌}
use native.Mathlib.Nat.{mod-eq_of_lt}
use native.Mathlib.Omega.{arith}
use lib.Bits.{bit_xor}
use lib.Pow.{pow_mono}
use Rattle.gf2.specs.Poly.{◌⊕◌, degree, Degree}
use Rattle.gf2.specs.Degrees.{degree_is, degree-lt}
use Rattle.gf2.specs.Divisors.{divides-pos}
use Rattle.divisors.specs.Quotient.{Left, left_start, left_turn, left_less, left-degree, left-done, moved-degree}
use Rattle.divisors.proofs.quotient.quotient.Goals.{After-degree_of}
use Rattle.divisors.proofs.quotient.quotient.Goals as goal

left_lt : (left n : ℕ) → (left ≡ 0 → ⊥) → n ≡ degree left → left < 2 ^ 64 → n < 64
left_lt left n nz en h = degree-lt left n 64 (rw en (degree_is left (omega arith))) h

module _ (a d m q left n : ℕ) (nz : left ≡ 0 → ⊥) (en : n ≡ degree left) (s : Degree d m × (left < 2 ^ 64) × Left a d q left) where
  m-le : m ≤ n
  m-le = left-degree a d m s.0 q left n nz en s.2

  n-lt : n < 64
  n-lt = left_lt left n nz en s.1

  module _ (k : ℕ) (ek : k ≡ n - m) where
    -- the shift loses nothing
    moved : d * 2 ^ k % 2 ^ 64 ≡ d * 2 ^ k
    moved =
        let h : n + 1 ≤ 64 = omega (arith, n-lt) in
        mod-eq_of_lt (omega (arith, (moved-degree a d m s.0 q left n nz en s.2 k ek).high, pow_mono h))

    less : bit_xor left (d * 2 ^ k % 2 ^ 64) < left
    unfolding ◌⊕◌
    less = left_less a d m s.0 q left n nz en s.2 k ek _ (ap (bit_xor left) moved)

    turn : (x : ℕ) → x ≡ 2 ^ k → Degree d m × (bit_xor left (d * 2 ^ k % 2 ^ 64) < 2 ^ 64) × Left a d (bit_xor q x) (bit_xor left (d * 2 ^ k % 2 ^ 64))
    unfolding ◌⊕◌
    turn x ex = (
      s.0,
      omega (arith, less, s.1),
      left_turn a d m s.0 q left n nz en s.2 k ek _ _ (ap (bit_xor q) ex) (ap (bit_xor left) moved),
    )

pub loop-left-init : goal.loop-left-init
loop-left-init c =
    let deg : Degree c.args.d c.degree_of-m.result = rw c.degree_of-m.ensures (degree_is c.args.d (divides-pos c.args.d c.args.a c.requires.0 c.requires.1)) in
    (deg, c.ranges.a.fits, left_start c.args.a c.args.d _ deg c.requires.1)

pub overflow_sub-k : goal.overflow_sub-k
overflow_sub-k c =
    m-le c.args.a c.args.d _ c.loop-left.q c.loop-left.left c.degree_of.result c.loop-left-test.true c.degree_of.ensures c.loop-left.invariant

n-below : (c : After-degree_of) → c.degree_of.result < 64
n-below c =
    left_lt c.loop-left.left c.degree_of.result c.loop-left-test.true c.degree_of.ensures c.loop-left.invariant.1

pub power-q-requires : goal.power-q-requires
power-q-requires c = omega (arith, n-below (goal.at.power-q-requires c).After-degree_of)

pub overflow_shl-left : goal.overflow_shl-left
overflow_shl-left c = omega (arith, n-below (goal.at.overflow_shl-left c).After-degree_of)

pub loop-left-smaller : goal.loop-left-smaller
loop-left-smaller c =
    less c.args.a c.args.d _ c.loop-left.q c.loop-left.left c.degree_of.result c.loop-left-test.true c.degree_of.ensures c.loop-left.invariant _ refl

pub loop-left-preserved : goal.loop-left-preserved
loop-left-preserved c =
    turn c.args.a c.args.d _ c.loop-left.q c.loop-left.left c.degree_of.result c.loop-left-test.true c.degree_of.ensures c.loop-left.invariant _ refl c.power-q.result c.power-q.ensures

pub returns : goal.returns
returns c =
    left-done c.args.a c.args.d _ c.loop-left.invariant.0 c.loop-left.q c.loop-left.left c.loop-left-test.false c.loop-left.invariant.2
