-- `elements::upper::Tables::row_through` meets its contract: what bytes pick is coordinates in the reference's basis.
-- Assumes nothing.
use Rattle.std.proofs.Common.{refl, ◌≡◌, ◌+◌, ◌^◌, ◌≤◌, ap, ◌∙◌, ap₂, arith}
use lib.Bits.{bit_xor}
use Rattle.gf2.specs.Poly.{mul_mod}
use Rattle.field.specs.Ring.{mul_mod-lt, mul_mod_comm}
use Rattle.normal.proofs.Reference.{turn_degree}
use Rattle.elements.specs.Reference.{through}
use Rattle.elements.specs.Through.{through-lt}
use Rattle.elements.specs.Upper.{wide-coordinates}
use Rattle.elements.specs.Held.{reference_of}
use Rattle.elements.specs.Windows.{Unreduced, limit-roomy}
use Rattle.elements.proofs.upper.Tables.row_through.Goals.{After-turned_product}
use Rattle.elements.proofs.upper.Tables.row_through.Goals as goal

pub wide_product-wide-requires : goal.wide_product-wide-requires
wide_product-wide-requires c = limit-roomy _ (omega (arith, c.requires.ys_are.1, c.args.self.now.modulus.of_field.most))

pub turned_product-requires : goal.turned_product-requires
turned_product-requires c = limit-roomy _ (omega (arith, c.requires.rs_are.1, c.args.self.now.modulus.of_field.most))

-- what is multiplied by r
coordinates : (c : After-turned_product) → bit_xor c.coordinates.result c.sum_by_bytes.result ≡ through c.args.self.now.reference.now.sums (mul_mod c.args.self.now.modulus.f c.args.self.now.modulus.n c.args.ys.now.a c.args.c)
coordinates c =
    let t = c.args.self.now in
    let wide = c.wide_product-wide.result in
    let unreduced : Unreduced t.modulus.f t.modulus.n c.args.ys.now.a c.args.c wide.low wide.high =
    rw (c.requires.ys_are.0, c.requires.ys_are.1) at c.wide_product-wide.ensures c.requires.element in
    ap₂ bit_xor c.coordinates.ensures c.sum_by_bytes.ensures
    ∙ wide-coordinates t.modulus.f t.modulus.n t.reference.now.sums (reference_of t) t.uppers.now t.of_uppers c.args.ys.now.a c.args.c wide.low wide.high unreduced

pub returns : goal.returns
returns c =
    let t = c.args.self.now in
    let f = t.modulus.f in
    let n = t.modulus.n in
    let pos : 1 ≤ n = omega (arith, t.modulus.of_field.two) in
    let e = coordinates c in
    let below = through-lt f n t.reference.now.sums (reference_of t) (mul_mod f n c.args.ys.now.a c.args.c) (mul_mod-lt f n t.modulus.of_field.is_degree c.args.ys.now.a c.args.c) in
    let product = rw (c.requires.rs_are.0, c.requires.rs_are.1) at c.turned_product.ensures in
    product refl pos (rw e below)
    ∙ ap (mul_mod (2 ^ n + 1) n c.args.rs.now.a) e
    ∙ mul_mod_comm (2 ^ n + 1) n (turn_degree n pos) c.args.rs.now.a _
