-- `elements::windows::products_of` meets its contract: products are linear, so all are sums of those by powers of x.
-- Assumes nothing.
use Rattle.std.proofs.Common.{◌≡◌, ℕ, ◌*◌, ◌^◌, ◌<◌, sym, refl, ◌∙◌}
use Rattle.gf2.specs.Poly.{product, mul_mod, Degree, Element}
use Rattle.gf2.specs.Product.{product-double_r, product-power}
use Rattle.gf2.specs.Remainder.{rem-product_l, mul_mod-zero_r}
use Rattle.field.specs.Ring.{mul_mod-lt, mul_mod_comm, mul_mod-one_l, mul_mod-⊕_r}
use Rattle.elements.specs.Multiples.{multiples_of, sums-listed}
use Rattle.elements.proofs.windows.products_of.Goals as goal

once : (f n a : ℕ) → Degree f n → a < 2 ^ n → a ≡ mul_mod f n a 1
once f n a deg h = sym (mul_mod_comm f n deg a 1 ∙ mul_mod-one_l f n deg a h)

-- x times a product is the product by twice the number
doubled : (f n a m : ℕ) → Degree f n → (y r : ℕ) → y ≡ mul_mod f n a m → r ≡ mul_mod f n y 2 → r ≡ mul_mod f n a (m * 2)
unfolding mul_mod
doubled f n a m deg y r p q = rw (q, p, rem-product_l f n deg (product a m) 2, product-power (product a m) 1, product-double_r a m)

product-element : (f n a m y : ℕ) → Degree f n → y ≡ mul_mod f n a m → Element f n y
product-element f n a m y deg p = record { is_degree = deg; below = rw p (mul_mod-lt f n deg a m) }

pub multiply_by_x-c-requires : goal.multiply_by_x-c-requires
multiply_by_x-c-requires c =
    product-element c.args.f c.args.n c.args.a 2 c.multiply_by_x-b.result c.requires.1 c.multiply_by_x-b.ensures

pub multiply_by_x-d-requires : goal.multiply_by_x-d-requires
multiply_by_x-d-requires c =
    product-element c.args.f c.args.n c.multiply_by_x-b.result 2 c.multiply_by_x-c.result c.requires.1 c.multiply_by_x-c.ensures

pub returns : goal.returns
unfolding multiples_of
returns c =
    let f = c.args.f in
    let n = c.args.n in
    let a = c.args.a in
    let deg = c.requires.1 in
    let two = c.multiply_by_x-b in
    let four = c.multiply_by_x-c in
    let eight = c.multiply_by_x-d in
    let by-four : four.result ≡ mul_mod f n a 4 = doubled f n a 2 deg two.result four.result two.ensures four.ensures in
    let by-eight : eight.result ≡ mul_mod f n a 8 = doubled f n a 4 deg four.result eight.result by-four eight.ensures in
    sums-listed (mul_mod f n a) (mul_mod-⊕_r f n deg a) (mul_mod-zero_r f n a)
    a two.result four.result eight.result (once f n a deg c.requires.2) two.ensures by-four by-eight _ _ refl refl
