-- `elements::squares::Squares::trace_of` meets its contract: the goals that the check leaves. Its loop is told in `Invariants.antt`. Assumes nothing.
use Rattle.std.proofs.Common.{◌≡◌, ℕ, ◌+◌, ◌≤◌, refl, ap, ◌∙◌, add-one, arith}
use lib.Bits.{bit_xor}
use Rattle.gf2.specs.Poly.{◌⊕◌}
use Rattle.field.specs.Field.{squared, trace_to, trace}
use Rattle.field.specs.Frobenius.{squared_start, squared-lt, squared_turn}
use Rattle.elements.proofs.squares.Squares.trace_of.Goals as goal

start : (f n a : ℕ) → 0 ≡ trace_to f n 0 a
unfolding trace_to
start f n a = refl

turn : (f n i a sum y : ℕ) → sum ≡ trace_to f n i a → y ≡ squared f n i a → bit_xor sum y ≡ trace_to f n (i + 1) a
unfolding trace_to ◌⊕◌
turn f n i a sum y p q = rw (add-one, p, q)

done : (f n i a sum : ℕ) → i ≤ n → n ≤ i → sum ≡ trace_to f n i a → sum ≡ trace f n a
unfolding trace
done f n i a sum p q e = let s : i ≡ n = omega arith in e ∙ ap (λ (x : ℕ). trace_to f n x a) s

pub loop-i-init : goal.loop-i-init
loop-i-init c = let s = c.args.self.now in (start s.f s.n c.args.a, squared_start s.f s.n c.args.a)

pub square-y-requires : goal.square-y-requires
square-y-requires c =
    let s = c.args.self.now in
    rw c.loop-i.invariant.1 (squared-lt s.f s.n s.of_field.is_degree c.loop-i.i c.args.a c.requires)

pub loop-i-preserved : goal.loop-i-preserved
loop-i-preserved c =
    let s = c.args.self.now in (
      turn s.f s.n c.loop-i.i c.args.a c.loop-i.sum c.loop-i.y c.loop-i.invariant.0 c.loop-i.invariant.1,
      squared_turn s.f s.n s.of_field.is_degree c.loop-i.i c.args.a c.loop-i.y c.square-y.result c.loop-i.invariant.1 c.square-y.ensures,
    )

pub returns : goal.returns
returns c =
    let s = c.args.self.now in
    done s.f s.n c.loop-i.i c.args.a c.loop-i.sum c.loop-i.auto.i-end c.loop-i-test.false c.loop-i.invariant.0
