-- Sums of the conjugates of an element that the digits of a number select: linear in the number; over an irreducible f no
-- number below 2 ^ n other than 0 gives 0 at every element, so squaring fewer than n times moves some element.
--
--   conjugate_sum f n g a   the sum of the conjugates of a at the places of the digits 1 of g
--   squares f n cs         the lower coefficients of a square
--
-- Assumes nothing.
use Rattle.std.specs.Prelude.{◌≡◌, refl}
use Rattle.std.proofs.Math.Path.{sym}
use Rattle.std.proofs.Common.{ap, ◌∙◌, zero-mul, one-mul, pow-suc, pow_mono}
use Rattle.std.proofs.Math.Logic.{⊎_elim}
use mathlib.Core.List.{List, [], ◌∷◌}
use Prim.Native.Nat.{ℕ, zero, suc, ◌*◌, ◌/◌, ◌%◌, ◌^◌, ◌≤◌, ◌<◌}
use native.Mathlib.Omega.{arith}
use Rattle.std.proofs.Math.Arith.{bin_ind}
use Rattle.std.proofs.Math.ListN.{length}
use Rattle.std.proofs.Math.Pow.{pow-lt}
use Rattle.gf2.specs.Poly.{◌⊕◌, digits, rem, mul_mod, Degree}
use Rattle.gf2.specs.Numbers.{order, mod-two-lt, double_half, double_even}
use Rattle.gf2.specs.Sum.{⊕_half, ⊕_odd, bit-⊕-mul, ⊕-zero, zero-⊕, ⊕_comm, ⊕_self, ⊕-four, ⊕-lt, ⊕-eq-zero}
use Rattle.gf2.specs.Product.{digits-zero, digits_step}
use Rattle.gf2.specs.Remainder.{rem-small, rem-zero, mul_mod-zero_r}
use Rattle.field.specs.Field.{squared, Irreducible}
use Rattle.field.specs.Ring.{mul_mod-lt, mul_mod_comm, mul_mod_assoc, mul_mod-⊕_r, mul_mod-four, mul_mod-one_l, mul_mod-bit_r, mul_mod-square-⊕, one-lt}
use Rattle.field.specs.Frobenius.{squared-next}
use Rattle.field.specs.Roots.{monic_at, not_everywhere_zero}

-- from the highest digit down, each turn squares what is summed and adds a where the digit is 1
unfoldable pub conjugate_sum : (f n g a : ℕ) → ℕ
conjugate_sum f n g a = digits 0 (λ d r. d * a ⊕ mul_mod f n r r) g

unfoldable pub squares : (f n : ℕ) → List ℕ → List ℕ
squares f n [] = []
squares f n (c ∷ cs) = mul_mod f n (rem f n c) (rem f n c) ∷ 0 ∷ squares f n cs

squares-length : (f n : ℕ) (cs : List ℕ) → length (squares f n cs) ≡ length cs * 2
unfolding squares
squares-length f n [] = refl
squares-length f n (c ∷ cs) = let ih : length (squares f n cs) ≡ length cs * 2 = squares-length f n cs in omega arith

module _ (f n : ℕ) (deg : Degree f n) where
  -- ---- linear in the number

  pub conjugate_sum-zero : (a : ℕ) → conjugate_sum f n 0 a ≡ 0
  unfolding conjugate_sum
  conjugate_sum-zero a = digits-zero 0 (λ d r. d * a ⊕ mul_mod f n r r)

  pub conjugate_sum-step : (g a : ℕ) → conjugate_sum f n g a ≡ (g % 2) * a ⊕ mul_mod f n (conjugate_sum f n (g / 2) a) (conjugate_sum f n (g / 2) a)
  unfolding conjugate_sum
  conjugate_sum-step g a = digits_step 0 (λ d r. d * a ⊕ mul_mod f n r r) (rw (zero-mul, mul_mod-zero_r f n 0) (zero-⊕ 0)) g

  pub conjugate_sum-one : (a : ℕ) → conjugate_sum f n 1 a ≡ a
  conjugate_sum-one a = conjugate_sum-step 1 a ∙ rw (conjugate_sum-zero a, mul_mod-zero_r f n 0, one-mul) (⊕-zero a)

  pub conjugate_sum-double : (g a : ℕ) → conjugate_sum f n (g * 2) a ≡ mul_mod f n (conjugate_sum f n g a) (conjugate_sum f n g a)
  conjugate_sum-double g a = conjugate_sum-step (g * 2) a ∙ rw (double_half, double_even, zero-mul) (zero-⊕ _)

  pub conjugate_sum-⊕ : (g h a : ℕ) → conjugate_sum f n (g ⊕ h) a ≡ conjugate_sum f n g a ⊕ conjugate_sum f n h a
  conjugate_sum-⊕ g =
      bin_ind (λ (m : ℕ). (h a : ℕ) → conjugate_sum f n (m ⊕ h) a ≡ conjugate_sum f n m a ⊕ conjugate_sum f n h a)
      (λ h a. rw (zero-⊕, conjugate_sum-zero a) (sym (zero-⊕ _)))
      (λ m ih h a.
      rw (conjugate_sum-step (m ⊕ h) a, conjugate_sum-step m a, conjugate_sum-step h a, ⊕_half, ⊕_odd, ih (h / 2) a, mul_mod-square-⊕ f n deg, bit-⊕-mul (m % 2) (h % 2) a (mod-two-lt m) (mod-two-lt h))
      (⊕-four (m % 2 * a) (h % 2 * a) _ _))
      g

  -- a single digit selects its conjugate
  pub conjugate_sum-power : (k a : ℕ) → conjugate_sum f n (2 ^ k) a ≡ squared f n k a
  unfolding squared
  conjugate_sum-power zero a = conjugate_sum-one a
  conjugate_sum-power (suc k) a = rw (pow-suc, conjugate_sum-double, conjugate_sum-power k a) (squared-next f n deg k a)

  module _ (pos : 1 ≤ n) where
    -- ---- such a sum is a polynomial in a

    monic_at-squares : (cs : List ℕ) (a : ℕ) → monic_at f n (squares f n cs) a ≡ mul_mod f n (monic_at f n cs a) (monic_at f n cs a)
    unfolding monic_at squares
    monic_at-squares [] a = sym (mul_mod-one_l f n deg 1 (one-lt n pos))
    monic_at-squares (c ∷ cs) a =
        let t : ℕ = rem f n c in
        let e : ℕ = monic_at f n cs a in
        rw (rem-zero f n, ⊕-zero, rem-small f n (mul_mod f n t t) (mul_mod-lt f n deg t t), monic_at-squares cs a, mul_mod-square-⊕ f n deg, mul_mod-four f n deg a e a e)
        (ap (λ (x : ℕ). x ⊕ mul_mod f n t t) (sym (mul_mod_assoc f n deg a a (mul_mod f n e e))))

    -- of degree at most g, with the constant 0
    linearized : (g : ℕ) → 0 < g → (cs : List ℕ) × (length cs < g) × ((a : ℕ) → a < 2 ^ n → monic_at f n (0 ∷ cs) a ≡ conjugate_sum f n g a)
    unfolding monic_at
    linearized =
        bin_ind (λ (m : ℕ). 0 < m → (cs : List ℕ) × (length cs < m) × ((a : ℕ) → a < 2 ^ n → monic_at f n (0 ∷ cs) a ≡ conjugate_sum f n m a))
        (λ h. absurd (omega arith))
        (λ m ih h. ⊎_elim
        (λ (l : m / 2 < 1).
        let e : m ≡ 1 = omega arith in
        ([], h, λ a k. rw (e, conjugate_sum-one a, rem-zero f n, ⊕-zero) (mul_mod_comm f n deg a 1 ∙ mul_mod-one_l f n deg a k)))
        (λ (l : 1 ≤ m / 2).
        let i = ih l in
        let cs = i.0 in
        let sh : length cs < m / 2 = i.1 in
        let sl : length (squares f n cs) ≡ length cs * 2 = squares-length f n cs in (
          m % 2 ∷ squares f n cs,
          omega arith,
          λ a k.
              let e : ℕ = monic_at f n cs a in
              let d : ℕ = m % 2 in
              let p : conjugate_sum f n (m / 2) a ≡ mul_mod f n a e = sym (i.2 a k) ∙ rw (rem-zero f n) (⊕-zero _) in
              rw (conjugate_sum-step m a, p, rem-zero f n, ⊕-zero, monic_at-squares cs a, rem-small f n d (omega (arith, one-lt n pos)), mul_mod-⊕_r f n deg a, mul_mod-bit_r f n deg a d k (mod-two-lt m), mul_mod-four f n deg a e a e, mul_mod_assoc f n deg a a)
              (⊕_comm _ (d * a)),
        ))
        (order (m / 2) 1))

    module _ (irr : Irreducible f) where
      pub conjugate_sum_not_zero : (g : ℕ) → 0 < g → g < 2 ^ n → ((a : ℕ) → a < 2 ^ n → conjugate_sum f n g a ≡ 0) → ⊥
      conjugate_sum_not_zero g p h z =
          let i = linearized g p in
          let l : length i.0 < g = i.1 in
          not_everywhere_zero f n deg pos irr (0 ∷ i.0) (omega arith) (λ a k. i.2 a k ∙ z a k)

      -- squaring fewer than n times moves some element
      pub squared_moves : (d : ℕ) → 0 < d → d < n → ((a : ℕ) → a < 2 ^ n → squared f n d a ≡ a) → ⊥
      squared_moves d p h z =
          let u : 2 ^ d < 2 ^ n = pow-lt h in
          let v : 2 ^ 1 ≤ 2 ^ d = pow_mono p in
          let g : ℕ = 2 ^ d ⊕ 1 in
          ⊎_elim
          (λ (l : g < 1). let w : 2 ^ d ≡ 1 = ⊕-eq-zero (2 ^ d) 1 (omega arith) in omega arith)
          (λ (l : 1 ≤ g). conjugate_sum_not_zero g l (⊕-lt n (2 ^ d) 1 u (omega arith)) (λ a k. conjugate_sum-⊕ (2 ^ d) 1 a ∙ rw (conjugate_sum-power d a, conjugate_sum-one a, z a k) (⊕_self a)))
          (order g 1)
