-- `field::calls::product` meets its contract: the remainder of the second operand may be taken first.
-- Assumes nothing.
use mathlib.Core.Path.{sym, ap, ◌∙◌}
use Prim.Native.Nat.{ℕ}
use Rattle.gf2.specs.Poly.{rem, mul_mod}
use Rattle.gf2.specs.Remainder.{rem-element, mul_mod-rem_r}
use Rattle.field.proofs.calls.product.Goals as goal

pub element_of-requires : goal.element_of-requires
element_of-requires c = c.args.ring.in_range.is_degree

pub multiply-requires : goal.multiply-requires
multiply-requires c = rem-element c.args.ring.f c.args.ring.n c.args.ring.in_range.is_degree c.args.a c.element_of.ensures

pub returns : goal.returns
returns c =
    c.multiply.ensures
    ∙ ap (λ (x : ℕ). mul_mod c.args.ring.f c.args.ring.n x c.args.b) c.element_of.ensures
    ∙ sym (mul_mod-rem_r c.args.ring.f c.args.ring.n c.args.ring.in_range.is_degree (rem c.args.ring.f c.args.ring.n c.args.a) c.args.b)
