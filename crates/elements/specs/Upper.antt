-- Coordinates of what is not reduced. The coordinates of x ^ n to x ^ (2n - 1) in the basis of the reference, as the rows of a matrix, give
-- those of every multiple of x ^ n of degree below 2n, so that a product is turned into coordinates without being reduced.
--
--   upper_rows f n sums                      row i: the coordinates of x ^ (n + i) in the reference's basis; "entries from n upward are zero"
--
-- In order: what bytes pick; the coordinates of a product that is not reduced; the rows one by one. Assumes nothing.
use Rattle.std.specs.Prelude.{◌≡◌, ℕ, ◌+◌, ◌-◌, ◌*◌, ◌^◌, ◌<◌, List, bit_xor}
use Rattle.std.proofs.Math.Path.{sym, ap, ap₂}
use Rattle.std.proofs.Common.{◌∙◌, one-mul, mul_right_comm, arith}
use Rattle.std.proofs.Math.Pow.{pow_mono}
use Rattle.gf2.specs.Poly.{◌⊕◌, rem, mul_mod, Degree}
use Rattle.gf2.specs.Numbers.{pow-next}
use Rattle.gf2.specs.Sum.{⊕-low, ⊕_comm, ⊕_cancel, ⊕_top}
use Rattle.gf2.specs.Product.{product-one_l}
use Rattle.gf2.specs.Remainder.{rem_lt, rem-small, rem-⊕, rem_unique}
use Rattle.field.specs.Ring.{mul_mod-lt, mul_mod_comm, mul_mod-x}
use Rattle.rows.specs.Rows.{comb}
use Rattle.rows.specs.Linear.{linear_shift, linear_after}
use Rattle.rows.specs.Sums.{comb-⊕}
use Rattle.rows.specs.ByteSums.{bytes, byte_sums, picked_bytes, bytes_pick}
use Rattle.normal.specs.Normal.{inverse_rows, listed, padded}
use Rattle.normal.specs.Coordinates.{listed_ext}
use Rattle.normal.specs.Filling.{padded_linear}
use Rattle.elements.specs.Reference.{Reference, through}
use Rattle.elements.specs.Through.{through-comb}
use Rattle.elements.specs.Windows.{Unreduced}

unfoldable pub upper_rows : (f n : ℕ) (sums : List ℕ) → List ℕ
upper_rows f n sums = padded (listed n (λ i. through sums (rem f n (2 ^ i * 2 ^ n))))

-- ---- what bytes pick

module _ (f n : ℕ) (sums : List ℕ) (ref : Reference f n sums) where
  inverse : ℕ → ℕ
  inverse = comb (inverse_rows f n ref.element)

  -- the rows by the reference's inverse rows
  rows-inverse : upper_rows f n sums ≡ padded (listed n (λ i. inverse (rem f n (2 ^ i * 2 ^ n))))
  unfolding upper_rows inverse
  rows-inverse =
      ap padded
      (listed_ext n (λ i. through sums (rem f n (2 ^ i * 2 ^ n))) (λ i. comb (inverse_rows f n ref.element) (rem f n (2 ^ i * 2 ^ n)))
      (λ i h. through-comb f n sums ref (rem f n (2 ^ i * 2 ^ n)) (rem_lt f n ref.of_field.is_degree (2 ^ i * 2 ^ n))))

  upper_picked : (h : ℕ) → h < 2 ^ n → picked_bytes bytes (byte_sums bytes (upper_rows f n sums)) h ≡ inverse (rem f n (h * 2 ^ n))
  unfolding inverse
  upper_picked h l =
      ap (λ (rows : List ℕ). picked_bytes bytes (byte_sums bytes rows) h) rows-inverse
      ∙ bytes_pick bytes (padded (listed n (λ i. inverse (rem f n (2 ^ i * 2 ^ n))))) h (omega (arith, pow_mono ref.of_field.most))
      ∙ padded_linear (λ v. inverse (rem f n (v * 2 ^ n)))
      (linear_after inverse (λ v. rem f n (v * 2 ^ n)) (comb-⊕ (inverse_rows f n ref.element))
      (linear_after (rem f n) (λ v. v * 2 ^ n) (rem-⊕ f n ref.of_field.is_degree) (linear_shift n)))
      n h l

  -- ---- a product that is not reduced

  pub wide-coordinates : (uppers : List ℕ) → uppers ≡ byte_sums bytes (upper_rows f n sums)
      → (y c low high : ℕ) → Unreduced f n y c low high
      → bit_xor (through sums low) (picked_bytes bytes uppers high) ≡ through sums (mul_mod f n y c)
  unfolding ◌⊕◌ inverse
  wide-coordinates uppers eu y c low high u =
      let deg : Degree f n = ref.of_field.is_degree in
      let below : through sums low ≡ inverse (rem f n low) =
      through-comb f n sums ref low u.low-lt ∙ ap inverse (sym (rem-small f n low u.low-lt)) in
      let above : picked_bytes bytes uppers high ≡ inverse (rem f n (high * 2 ^ n)) =
      ap (λ (t : List ℕ). picked_bytes bytes t high) eu ∙ upper_picked high u.high_lt in
      ap₂ (λ (p q : ℕ). p ⊕ q) below above
      ∙ sym (comb-⊕ (inverse_rows f n ref.element) (rem f n low) (rem f n (high * 2 ^ n)))
      ∙ ap inverse (sym (rem-⊕ f n deg low (high * 2 ^ n)))
      ∙ ap (λ (z : ℕ). inverse (rem f n z)) (⊕_comm low (high * 2 ^ n) ∙ ⊕-low high n low u.low-lt)
      ∙ ap inverse u.whole
      ∙ sym (through-comb f n sums ref (mul_mod f n y c) (mul_mod-lt f n deg y c))

-- ---- the rows one by one

module _ (f n : ℕ) (deg : Degree f n) where
  -- x ^ n comes to f without its term x ^ n
  pub power_reduced : (p : ℕ) → p ≡ 2 ^ n → f - p ≡ rem f n (2 ^ 0 * 2 ^ n)
  power_reduced p e =
      let rest : ℕ = f - 2 ^ n in
      let high : f < 2 ^ n * 2 = rw pow-next at deg.high in
      let whole : 2 ^ n ⊕ rest ≡ f = ⊕_top n rest (omega (arith, deg.low)) ∙ omega (arith, deg.low) in
      rw e
      (rem_unique f n deg (1 * 2 ^ n) 1 rest
      (one-mul (2 ^ n) ∙ sym (ap (λ (x : ℕ). x ⊕ rest) (product-one_l f ∙ sym whole) ∙ ⊕_comm (2 ^ n ⊕ rest) rest
      ∙ ap (λ (x : ℕ). rest ⊕ x) (⊕_comm (2 ^ n) rest) ∙ ⊕_cancel rest (2 ^ n)))
      (omega (arith, deg.low)))

  pub next_power : (i y z : ℕ) → y ≡ rem f n (2 ^ i * 2 ^ n) → z ≡ mul_mod f n y 2 → z ≡ rem f n (2 ^ (i + 1) * 2 ^ n)
  next_power i y z e ez =
      ez ∙ mul_mod_comm f n deg y 2 ∙ ap (mul_mod f n 2) e ∙ mul_mod-x f n deg (2 ^ i * 2 ^ n)
      ∙ ap (rem f n) (mul_right_comm (2 ^ i) (2 ^ n) 2 ∙ ap (λ (x : ℕ). x * 2 ^ n) (sym (pow-next i)))
