-- `field::calls::squared` meets its contract: what the square by a table promises.
-- Assumes nothing.
use mathlib.Core.Path.{ap, ◌∙◌}
use Prim.Native.Nat.{ℕ}
use Rattle.gf2.specs.Poly.{mul_mod}
use Rattle.gf2.specs.Remainder.{rem-element}
use Rattle.field.proofs.calls.squared.Goals as goal

pub element_of-requires : goal.element_of-requires
element_of-requires c = c.args.ring.in_range.is_degree

pub square-requires : goal.square-requires
square-requires c =
    (rem-element c.args.ring.f c.args.ring.n c.args.ring.in_range.is_degree c.args.a c.element_of.ensures)

pub returns : goal.returns
returns c = c.square.ensures ∙ ap (λ (x : ℕ). mul_mod c.args.ring.f c.args.ring.n x x) c.element_of.ensures
