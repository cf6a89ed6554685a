-- `divisors::splitting::first_conjugates_sum` meets its contract: the goals that the check leaves. Its loop is told in `Invariants.antt`. Assumes nothing.
use mathlib.Core.Path.{◌≡◌, refl, ap, ◌∙◌}
use Prim.Native.Nat.{ℕ, ◌+◌}
use native.Mathlib.Numerals.{add-one}
use native.Mathlib.Omega.{arith}
use lib.Bits.{bit_xor}
use Rattle.gf2.specs.Poly.{◌⊕◌, mul_mod, Degree}
use Rattle.field.specs.Field.{trace_to}
use Rattle.field.specs.Trace.{trace_to-lt, trace_to-square}
use Rattle.divisors.proofs.splitting.first_conjugates_sum.Goals as goal

none : (g m a : ℕ) → 0 ≡ trace_to g m 0 a
unfolding trace_to
none g m a = refl

turn : (g m k a sum s : ℕ) → Degree g m → sum ≡ trace_to g m k a → s ≡ mul_mod g m sum sum → bit_xor s a ≡ trace_to g m (k + 1) a
unfolding trace_to ◌⊕◌
turn g m k a sum s deg e es = rw (add-one, es, e) (trace_to-square g m deg k a)

pub loop-done-init : goal.loop-done-init
loop-done-init c = none c.args.g c.args.m c.args.a

pub multiply-requires : goal.multiply-requires
multiply-requires c =
    record {
      is_degree = c.requires.is_degree;
      below = rw c.loop-done.invariant (trace_to-lt c.args.g c.args.m c.requires.is_degree c.loop-done._done c.args.a c.requires.below);
    }

pub loop-done-preserved : goal.loop-done-preserved
loop-done-preserved c =
    turn c.args.g c.args.m c.loop-done._done c.args.a c.loop-done.sum c.multiply.result c.requires.is_degree c.loop-done.invariant c.multiply.ensures

pub returns : goal.returns
returns c =
    let all : c.loop-done._done ≡ c.args.i = omega arith in
    c.loop-done.invariant ∙ ap (λ (x : ℕ). trace_to c.args.g c.args.m x c.args.a) all
