-- `field::calls::conjugates_sum` meets its contract: the goals that the check leaves. Its loop is told in `Invariants.antt`. Assumes nothing.
use mathlib.Core.Path.{◌≡◌, refl, ◌∙◌}
use Prim.Native.Nat.{ℕ, ◌+◌}
use native.Mathlib.Numerals.{add-one}
use lib.Bits.{bit_xor}
use Rattle.gf2.specs.Poly.{◌⊕◌, rem}
use Rattle.gf2.specs.Remainder.{rem_lt}
use Rattle.field.specs.Field.{squared, trace_to, trace}
use Rattle.std.proofs.Common.{rules}
use Rattle.field.specs.Frobenius.{squared_start, squared_turn, squared-lt}
use Rattle.field.proofs.calls.conjugates_sum.Goals as goal

start : (f n a : ℕ) → 0 ≡ trace_to f n 0 a
unfolding trace_to
start f n a = refl

turn : (f n i a sum y : ℕ) → sum ≡ trace_to f n i a → y ≡ squared f n i a → bit_xor sum y ≡ trace_to f n (i + 1) a
unfolding trace_to ◌⊕◌
turn f n i a sum y p q = rw (add-one, p, q)

pub element_of-y-requires : goal.element_of-y-requires
element_of-y-requires c = c.args.ring.in_range.is_degree

pub loop-init : goal.loop-init
loop-init c =
    let a = rem c.args.ring.f c.args.ring.n c.args.a in
    (start c.args.ring.f c.args.ring.n a, c.element_of-y.ensures ∙ squared_start c.args.ring.f c.args.ring.n a)

pub square-y-requires : goal.square-y-requires
square-y-requires c =
    let deg = c.args.ring.in_range.is_degree in
    let below = squared-lt c.args.ring.f c.args.ring.n deg c.loop.counter (rem c.args.ring.f c.args.ring.n c.args.a) (rem_lt c.args.ring.f c.args.ring.n deg c.args.a) in
    (record { is_degree = deg; below = rw c.loop.invariant.1 below })

pub loop-preserved : goal.loop-preserved
loop-preserved c =
    let a = rem c.args.ring.f c.args.ring.n c.args.a in (
      turn c.args.ring.f c.args.ring.n c.loop.counter a c.loop.sum c.loop.y c.loop.invariant.0 c.loop.invariant.1,
      squared_turn c.args.ring.f c.args.ring.n c.args.ring.in_range.is_degree c.loop.counter a c.loop.y c.square-y.result c.loop.invariant.1 c.square-y.ensures,
    )

pub returns : goal.returns
unfolding trace
returns c =
    let s : c.loop.counter ≡ c.args.ring.n = search rules in
    rw s at c.loop.invariant.0
