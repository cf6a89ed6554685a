-- What a polynomial is whose elements the tables serve: f is accepted (document 01, "Two notations"), and n is its degree.
--
--   FieldOf f n       "its degree n is 2 to 46, no polynomial of degree 1 to n-1 divides it, and x squared n times in a row leaves x modulo f",
--                     as the laws take it
--   ElementOf f n a   a is an element of that field
--
-- Last: that it has one proof at most.
-- Assumes nothing.
use Rattle.std.specs.Prelude.{◌≡◌, ℕ, ◌^◌, ◌<◌, ◌≤◌}
use Rattle.std.proofs.Common.{sym, ap, ap₂, ◌∙◌, ◌⊎◌, inl, inr, arith, pow_mono}
use Rattle.std.proofs.Math.Nat.{ℕ_set}
use Rattle.std.specs.Coded.{le_prop}
use Rattle.gf2.specs.Poly.{product, Degree}
use Rattle.gf2.specs.Product.{product-one_l}
use Rattle.gf2.specs.Limit.{limit}
use Rattle.field.specs.Field.{squared, Irreducible}

pub record FieldOf (f n : ℕ) : Type 0 where
  pub two : 2 ≤ n
  pub most : n ≤ limit
  pub is_degree : Degree f n
  pub irreducible : Irreducible f
  pub returns : squared f n n 2 ≡ 2

-- "An element of the field of degree n is a number below 2^n."
pub record ElementOf (f n a : ℕ) : Type 0 where
  pub of_field : FieldOf f n
  pub below : a < 2 ^ n

-- Only one proof says so, as a field of a type is to have: f, of degree 2 or more, is no product of 1 and 1, so that one factor alone is 1.
module _ (f n : ℕ) (two : 2 ≤ n) (deg : Degree f n) where
  not-unit : f ≡ 1 → ⊥
  not-unit e = omega (arith, deg.low, pow_mono two)

  one_factor : (a b : ℕ) → product a b ≡ f → IsProp ((a ≡ 1) ⊎ (b ≡ 1))
  one_factor a b e (inl p) (inl q) = ap inl (ℕ_set a 1 p q)
  one_factor a b e (inr p) (inr q) = ap inr (ℕ_set b 1 p q)
  one_factor a b e (inl p) (inr q) = absurd (not-unit (sym e ∙ ap₂ product p q ∙ product-one_l 1))
  one_factor a b e (inr p) (inl q) = absurd (not-unit (sym e ∙ ap₂ product q p ∙ product-one_l 1))

  irreducible-prop : IsProp (Irreducible f)
  irreducible-prop = hlevel one_factor

pub FieldOf-prop : (f n : ℕ) → IsProp (FieldOf f n)
FieldOf-prop f n x y =
    let unique : IsProp (FieldOf f n) = hlevel (le_prop, ℕ_set, irreducible-prop f n x.two x.is_degree) in unique x y
