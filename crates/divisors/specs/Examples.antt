-- The smallest divisors of some polynomials, by computation from the definition.
--
--   of_products   x^2 + x has x; x^2 + 1 and x^3 + 1 have x + 1; x^4 + x^2 + 1 has x^2 + x + 1; x^8 + x^2 + 1 has x^4 + x + 1
--   of_two        x^10 + x^8 + x^6 + x^5 + x^4 + x + 1 is 37 times 47: 47 is the one that `smallest_divisor` finds first
--   of_itself     x^3 + x + 1 is irreducible
--
-- Assumes nothing.
use Rattle.std.specs.Prelude.{◌≡◌, refl}
use Rattle.gf2.specs.Poly.{◌⊕◌, digits_from, digits, product, degree, reduce, rem, divides}
use Rattle.gf2.specs.Bounded.{first}
use Rattle.divisors.specs.Smallest.{smallest_divisor}

pub of_products : (smallest_divisor 6 ≡ 2) × (smallest_divisor 5 ≡ 3) × (smallest_divisor 9 ≡ 3) × (smallest_divisor 21 ≡ 7) × (smallest_divisor 261 ≡ 19)
unfolding smallest_divisor first divides rem reduce degree digits digits_from ◌⊕◌
of_products = (refl, refl, refl, refl, refl)

pub of_two : (product 37 47 ≡ 1395) × (smallest_divisor 1395 ≡ 37)
unfolding smallest_divisor first divides rem reduce degree product digits digits_from ◌⊕◌
of_two = (refl, refl)

pub of_itself : smallest_divisor 11 ≡ 11
unfolding smallest_divisor first divides rem reduce degree digits digits_from ◌⊕◌
of_itself = refl
