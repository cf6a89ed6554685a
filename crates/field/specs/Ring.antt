-- The polynomials modulo f are a commutative ring, for every f: multiplication commutes, associates, distributes, and has 1
-- as its one. The laws hold for all numbers, but for the one, which gives back what is below 2 ^ n.
-- Assumes nothing.
use Rattle.std.specs.Prelude.{◌≡◌, ℕ, ◌*◌, ◌^◌, ◌≤◌, ◌<◌}
use Rattle.std.proofs.Common.{sym, ap₂, ◌∙◌, ⊎_elim, zero-mul, one-mul, arith, pow_mono}
use Rattle.std.proofs.Math.Path.{ap}
use Rattle.gf2.specs.Poly.{◌⊕◌, product, rem, mul_mod, Degree}
use Rattle.gf2.specs.Numbers.{bit_cases}
use Rattle.gf2.specs.Product.{product-one_l, product_comm, product_assoc, product-⊕_r, product-double_l, product-square-⊕}
use Rattle.gf2.specs.Remainder.{rem-small, rem_lt, rem-⊕, rem-product_l, rem-product_r, mul_mod-zero_r}

module _ (f n : ℕ) (deg : Degree f n) where
  pub mul_mod-lt : (a b : ℕ) → mul_mod f n a b < 2 ^ n
  unfolding mul_mod
  mul_mod-lt a b = rem_lt f n deg (product a b)

  pub mul_mod_comm : (a b : ℕ) → mul_mod f n a b ≡ mul_mod f n b a
  unfolding mul_mod
  mul_mod_comm a b = ap (rem f n) (product_comm a b)

  pub mul_mod_assoc : (a b c : ℕ) → mul_mod f n (mul_mod f n a b) c ≡ mul_mod f n a (mul_mod f n b c)
  unfolding mul_mod
  mul_mod_assoc a b c = rw (rem-product_l f n deg, rem-product_r f n deg, product_assoc)

  -- ---- distributing

  pub mul_mod-⊕_r : (a b c : ℕ) → mul_mod f n a (b ⊕ c) ≡ mul_mod f n a b ⊕ mul_mod f n a c
  unfolding mul_mod
  mul_mod-⊕_r a b c = rw (product-⊕_r, rem-⊕ f n deg)

  pub mul_mod-⊕_l : (a b c : ℕ) → mul_mod f n (a ⊕ b) c ≡ mul_mod f n a c ⊕ mul_mod f n b c
  mul_mod-⊕_l a b c =
      mul_mod_comm (a ⊕ b) c ∙ mul_mod-⊕_r c a b ∙ ap₂ ◌⊕◌ (mul_mod_comm c a) (mul_mod_comm c b)

  -- the square of a sum
  pub mul_mod-square-⊕ : (a b : ℕ) → mul_mod f n (a ⊕ b) (a ⊕ b) ≡ mul_mod f n a a ⊕ mul_mod f n b b
  unfolding mul_mod
  mul_mod-square-⊕ a b = rw (product-square-⊕, rem-⊕ f n deg)

  -- ---- the one, and single coefficients

  pub mul_mod-one_l : (a : ℕ) → a < 2 ^ n → mul_mod f n 1 a ≡ a
  unfolding mul_mod
  mul_mod-one_l a h = rw product-one_l (rem-small f n a h)

  pub mul_mod-bit_r : (a d : ℕ) → a < 2 ^ n → d < 2 → mul_mod f n a d ≡ d * a
  mul_mod-bit_r a d l h =
      ⊎_elim
      (λ (e : d ≡ 0). rw (e, zero-mul) (mul_mod-zero_r f n a))
      (λ (e : d ≡ 1). rw (e, one-mul) (mul_mod_comm a 1 ∙ mul_mod-one_l a l))
      (bit_cases d h)

  -- x times a
  pub mul_mod-x : (a : ℕ) → mul_mod f n 2 (rem f n a) ≡ rem f n (a * 2)
  unfolding mul_mod
  mul_mod-x a = rem-product_r f n deg 2 a ∙ ap (rem f n) (product-double_l 1 a ∙ ap (λ (x : ℕ). x * 2) (product-one_l a))

  -- ---- orders of factors

  pub mul_mod-left_comm : (a b c : ℕ) → mul_mod f n a (mul_mod f n b c) ≡ mul_mod f n b (mul_mod f n a c)
  mul_mod-left_comm a b c =
      sym (mul_mod_assoc a b c) ∙ ap (λ (x : ℕ). mul_mod f n x c) (mul_mod_comm a b) ∙ mul_mod_assoc b a c

  pub mul_mod-four : (a b c d : ℕ) → mul_mod f n (mul_mod f n a b) (mul_mod f n c d) ≡ mul_mod f n (mul_mod f n a c) (mul_mod f n b d)
  mul_mod-four a b c d =
      mul_mod_assoc a b (mul_mod f n c d)
      ∙ ap (mul_mod f n a) (mul_mod-left_comm b c d)
      ∙ sym (mul_mod_assoc a c (mul_mod f n b d))

-- ---- small numbers are elements

pub one-lt : (n : ℕ) → 1 ≤ n → 1 < 2 ^ n
one-lt n h = omega (arith, pow_mono h)

pub two-lt : (n : ℕ) → 2 ≤ n → 2 < 2 ^ n
two-lt n h = omega (arith, pow_mono h)
