-- `normal::conjugates::conjugates_of` meets its contract: the goals that the check leaves. Its loop is told in `Invariants.antt`. Assumes nothing.
use mathlib.Core.Path.{◌≡◌, sym, ap, ◌∙◌}
use mathlib.Core.List.{List}
use Prim.Native.Nat.{ℕ, ◌≤◌}
use native.Mathlib.Omega.{arith}
use Rattle.field.specs.Field.{squared}
use Rattle.field.specs.Frobenius.{squared_start, squared-lt, squared_turn}
use Rattle.gf2.specs.Limit.{limit}
use Rattle.normal.specs.Normal.{conjugates, padded}
use Rattle.normal.specs.Filling.{Filled, filled_start, filled_turn, filled_padded}
use Rattle.normal.specs.Turns.{conjugates-listed}
use Rattle.normal.proofs.conjugates.conjugates_of.Goals as goal

done : (f n a i : ℕ) (rows : List ℕ) → i ≡ n → n ≤ limit → Filled rows i (λ j. squared f n j a) → rows ≡ padded (conjugates f n a)
done f n a i rows e small s =
    filled_padded rows n (λ j. squared f n j a) small (rw e at s) ∙ ap padded (sym (conjugates-listed f n a))

pub loop-i-init : goal.loop-i-init
loop-i-init c =
    (filled_start (λ j. squared c.args.f c.args.n j c.args.a), squared_start c.args.f c.args.n c.args.a)

pub square-y-requires : goal.square-y-requires
square-y-requires c = record {
  is_degree = c.requires.1.is_degree;
  below = rw c.loop-i.invariant.1 (squared-lt c.args.f c.args.n c.requires.1.is_degree c.loop-i.i c.args.a c.requires.1.below);
}

pub loop-i-preserved : goal.loop-i-preserved
loop-i-preserved c = (
  filled_turn c.loop-i.rows c.loop-i.i c.loop-i.y (λ j. squared c.args.f c.args.n j c.args.a) (omega (arith, c.requires.0)) c.loop-i.invariant.1 c.loop-i.invariant.0,
  squared_turn c.args.f c.args.n c.requires.1.is_degree c.loop-i.i c.args.a c.loop-i.y c.square-y.result c.loop-i.invariant.1 c.square-y.ensures,
)

pub returns : goal.returns
returns c = done c.args.f c.args.n c.args.a c.loop-i.i c.loop-i.rows (omega arith) c.requires.0 c.loop-i.invariant.0
