-- One turn of each loop over coefficients, as laws on numbers: of the product, from the top coefficient down, with the product by x; of the
-- remainder; one more byte of a spread.
-- Assumes nothing.
use Rattle.std.specs.Prelude.{◌≡◌, ℕ, ◌+◌, ◌-◌, ◌*◌, ◌/◌, ◌%◌, ◌^◌, ◌<◌, ◌≤◌}
use Rattle.std.proofs.Common.{sym, ap, ap₂, ◌∙◌, ⊎_elim, zero-mul, one-mul, sub-add_cancel, mul_assoc, arith, shr-shr}
use Rattle.std.proofs.lemmas.Nat.{shl-shr}
use Rattle.std.proofs.Math.Pow.{field, split}
use Rattle.gf2.specs.Poly.{◌⊕◌, product, reduce, rem, mul_mod, spread, Degree}
use Rattle.gf2.specs.Numbers.{bit_cases, pow-next}
use Rattle.gf2.specs.Sum.{⊕_comm}
use Rattle.gf2.specs.Product.{product-double_l, product-power, spread-parts}
use Rattle.gf2.specs.Remainder.{rem-small, rem-double, rem-product_l, mul_mod-step}

pub bit-mul-lt : (d x m : ℕ) → d < 2 → x < m → d * x < m
bit-mul-lt d x m h l = ⊎_elim (λ (e : d ≡ 0). rw (e, zero-mul) (omega arith)) (λ (e : d ≡ 1). rw (e, one-mul) l) (bit_cases d h)

-- ---- the product

-- rest is b moved up by i in its word, so that the coefficient of x ^ k stands at the top
pub top_coefficient : (b i k rest : ℕ) → i + k ≡ 63 → rest ≡ b * 2 ^ i % 2 ^ 64 → rest / 2 ^ 63 ≡ b / 2 ^ k % 2
top_coefficient b i k rest s e =
    let q : b * 2 ^ i / 2 ^ 63 ≡ b / 2 ^ k =
    ap (λ (m : ℕ). b * 2 ^ i / 2 ^ m) (sym s) ∙ sym (shr-shr (b * 2 ^ i) i k) ∙ ap (λ (x : ℕ). x / 2 ^ k) (shl-shr b i) in
    rw e (field (b * 2 ^ i) 1 63) ∙ ap (λ (x : ℕ). x % 2) q

-- moved up once more, the next one stands there
pub rest_turn : (b i rest : ℕ) → rest ≡ b * 2 ^ i % 2 ^ 64 → rest * 2 % 2 ^ 64 ≡ b * 2 ^ (i + 1) % 2 ^ 64
rest_turn b i rest e = rw (e, pow-next, ← mul_assoc) (omega arith)

module _ (f n : ℕ) (deg : Degree f n) where
  -- the product by x
  pub mul_mod-two : (a : ℕ) → a < 2 ^ n → mul_mod f n a 2 ≡ reduce f n (a * 2)
  unfolding mul_mod
  mul_mod-two a h = rw (product-power a 1, rem-double f n deg a, rem-small f n a h)

  -- x times a product is the product of x times a
  mul_mod-double_l : (a b : ℕ) → a < 2 ^ n → mul_mod f n (reduce f n (a * 2)) b ≡ reduce f n (mul_mod f n a b * 2)
  unfolding mul_mod
  mul_mod-double_l a b h =
      rw (← rem-double f n deg (product a b), ← product-double_l a b, ← rem-product_l f n deg (a * 2) b, rem-double f n deg a, rem-small f n a h)

  -- sum is the product of a and what stands from k upward in b; x times sum, and a where the next coefficient is set, is that of a and
  -- what stands from k - 1 upward
  pub mul_mod_turn : (a b k sum sum' : ℕ) → a < 2 ^ n → 1 ≤ k → sum ≡ mul_mod f n a (b / 2 ^ k)
      → sum' ≡ reduce f n (sum * 2) ⊕ (b / 2 ^ (k - 1) % 2) * a → sum' ≡ mul_mod f n a (b / 2 ^ (k - 1))
  mul_mod_turn a b k sum sum' h one p q =
      let c : ℕ = b / 2 ^ (k - 1) in
      let half : b / 2 ^ k ≡ c / 2 = sym (shr-shr b (k - 1) 1 ∙ ap (λ (x : ℕ). b / 2 ^ x) (sub-add_cancel one)) in
      rw (q, p, half, ← mul_mod-double_l a (c / 2) h) (⊕_comm _ _ ∙ sym (mul_mod-step f n deg a c h))

  -- ---- the walk of the remainder

  -- r is the remainder of y moved up by k; x times r, reduced, is that of y moved up by k + 1
  pub rem_turn : (y k r r' : ℕ) → r ≡ rem f n (y * 2 ^ k) → r' ≡ reduce f n (r * 2) → r' ≡ rem f n (y * 2 ^ (k + 1))
  rem_turn y k r r' p q = rw (q, p, pow-next, ← mul_assoc) (sym (rem-double f n deg (y * 2 ^ k)))

-- ---- one more byte of a spread

-- sum is the spread of what stands from k upward in a; the next byte's is s
pub spread_turn : (a k sum s : ℕ) → 8 ≤ k → sum ≡ spread (a / 2 ^ k) → s ≡ spread (a / 2 ^ (k - 8) % 256) → sum * 2 ^ 16 ⊕ s ≡ spread (a / 2 ^ (k - 8))
spread_turn a k sum s h inv es =
    let q : ℕ = a / 2 ^ (k - 8) in
    let ek : k - 8 + 8 ≡ k = sub-add_cancel h in
    let eh : a / 2 ^ k ≡ q / 256 = sym (shr-shr a (k - 8) 8 ∙ ap (λ (x : ℕ). a / 2 ^ x) ek) in
    ap₂ (λ (x y : ℕ). x * 2 ^ 16 ⊕ y) (inv ∙ ap spread eh) es
    ∙ sym (spread-parts (q / 256) 8 (q % 256) (omega arith))
    ∙ ap spread (split q 8)
