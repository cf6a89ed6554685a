-- `elements::units::Turns::unit_of` meets its contract: the product of what Euclid's algorithm gives and v is tested.
-- Assumes nothing.
use Rattle.std.proofs.Common.{◌≡◌, ℕ, ◌+◌, ◌^◌, ◌<◌, sym, ap, ◌∙◌, arith}
use Rattle.gf2.specs.Poly.{mul_mod}
use Rattle.field.specs.Orders.{not_too_large}
use Rattle.normal.proofs.Reference.{turn_degree}
use Rattle.elements.proofs.units.Turns.unit_of.Goals.{After-multiply-product, Else-too_large}
use Rattle.elements.proofs.units.Turns.unit_of.Goals as goal

below : (c : Else-too_large) → c.chosen-w.result < 2 ^ c.args.self.n
below c =
    not_too_large c.args.self.n c.chosen-w.result
    (sym c.too_large.ensures ∙ c.if-too_large.false)

-- the product that is tested
tested : (c : After-multiply-product) → c.multiply-product.result ≡ mul_mod (2 ^ c.args.self.n + 1) c.args.self.n c.chosen-w.result c.args.v
tested c =
    c.multiply-product.ensures ∙ ap (λ (g : ℕ). mul_mod g c.args.self.n c.chosen-w.result c.args.v) c.modulus.ensures

pub multiply-product-requires : goal.multiply-product-requires
multiply-product-requires c =
    record { is_degree = rw c.modulus.ensures (turn_degree c.args.self.n (omega (arith, c.requires.0))); below = below (goal.at.multiply-product-requires c).Else-too_large }

pub returns-then-product-eq1 : goal.returns-then-product-eq1
returns-then-product-eq1 c =
    (below (goal.at.returns-then-product-eq1 c).Else-too_large, sym (tested (goal.at.returns-then-product-eq1 c).After-multiply-product) ∙ c.if-product-eq1.true)

pub returns : goal.returns
returns c =
    (omega (arith, c.if-w-eq0.false), below (goal.at.returns c).Else-too_large, sym (tested (goal.at.returns c).After-multiply-product) ∙ c.if-product-ne0.false)
