-- Fermat's theorem for an irreducible f, of any degree from 1: squaring n times leaves every element. The conjugates of x are
-- roots of f, and differ up to the n-th; f has at most n roots, so the n-th is x itself.
--
--   poly_at f n y g   the value at y of the polynomial g, whose coefficients are 0 and 1
--
-- Assumes nothing.
use Rattle.std.specs.Prelude.{◌≡◌}
use Rattle.std.proofs.Math.Path.{refl, ap}
use Rattle.std.proofs.Common.{sym, ◌∙◌, pow_pos, pow_mono}
use Rattle.std.proofs.Math.Logic.{⊎_elim}
use mathlib.Core.List.{List, [], ◌∷◌}
use Prim.Native.Nat.{ℕ, zero, suc, ◌+◌, ◌-◌, ◌*◌, ◌/◌, ◌%◌, ◌^◌, ◌≤◌, ◌<◌}
use Rattle.std.proofs.Math.Nat.{pow-suc}
use Rattle.std.proofs.Math.Decide.{ℕ_discrete}
use native.Mathlib.Omega.{arith}
use Rattle.std.proofs.Math.Arith.{bin_ind}
use Rattle.std.proofs.Math.ListN.{length}
use Rattle.gf2.specs.Poly.{◌⊕◌, digits, rem, mul_mod, Degree}
use Rattle.gf2.specs.Numbers.{bit_cases, order, mod-two-lt}
use Rattle.gf2.specs.Sum.{⊕-zero, zero-⊕, ⊕_comm, ⊕_self, ⊕-lt, ⊕-eq-zero, low-apart}
use Rattle.gf2.specs.Product.{digits-zero, digits_step}
use Rattle.gf2.specs.Remainder.{rem-small, rem-zero, rem-⊕, rem_self, mul_mod-zero_r}
use Rattle.field.specs.Field.{squared, Irreducible}
use Rattle.field.specs.Ring.{mul_mod-lt, mul_mod-one_l, mul_mod-x, one-lt, two-lt}
use Rattle.field.specs.Frobenius.{squared-⊕, squared-mul_mod, squared-zero, squared-bit, squared-lt, squared-add, squared_fixes}
use Rattle.field.specs.Division.{no_zero_divisors}
use Rattle.field.specs.Roots.{monic_at, too_many_roots}
use Rattle.field.specs.ConjugateSums.{squared_moves}

unfoldable pub poly_at : (f n y g : ℕ) → ℕ
poly_at f n y g = digits 0 (λ d r. d ⊕ mul_mod f n y r) g

module _ (f n : ℕ) (deg : Degree f n) where
  -- ---- values of polynomials

  poly_at-zero : (y : ℕ) → poly_at f n y 0 ≡ 0
  unfolding poly_at
  poly_at-zero y = digits-zero 0 (λ d r. d ⊕ mul_mod f n y r)

  poly_at-step : (y g : ℕ) → poly_at f n y g ≡ g % 2 ⊕ mul_mod f n y (poly_at f n y (g / 2))
  unfolding poly_at
  poly_at-step y g = digits_step 0 (λ d r. d ⊕ mul_mod f n y r) (rw (mul_mod-zero_r f n y) (zero-⊕ 0)) g

  -- ---- squaring is one-to-one

  module _ (irr : Irreducible f) where
    squared_kernel : (k a : ℕ) → a < 2 ^ n → squared f n k a ≡ 0 → a ≡ 0
    unfolding squared
    squared_kernel zero a h e = e
    squared_kernel (suc k) a h e =
        ⊎_elim (λ (u : a ≡ 0). u) (λ (u : a ≡ 0). u)
        (no_zero_divisors f n deg irr a h a h (squared_kernel k (mul_mod f n a a) (mul_mod-lt f n deg a a) e))

    pub squared_injective : (k a b : ℕ) → a < 2 ^ n → b < 2 ^ n → squared f n k a ≡ squared f n k b → a ≡ b
    squared_injective k a b ha hb e =
        ⊕-eq-zero a b (squared_kernel k (a ⊕ b) (⊕-lt n a b ha hb) (squared-⊕ f n deg k a b ∙ rw e (⊕_self _)))

  module _ (big : 2 ≤ n) where
    pos : 1 ≤ n
    pos = omega arith

    -- the value at x is the remainder
    pub poly_at-x : (g : ℕ) → poly_at f n 2 g ≡ rem f n g
    poly_at-x =
        bin_ind (λ (m : ℕ). poly_at f n 2 m ≡ rem f n m) (poly_at-zero 2 ∙ sym (rem-zero f n))
        (λ m ih.
        poly_at-step 2 m
        ∙ rw (ih, mul_mod-x f n deg (m / 2), ⊕_comm)
        (sym (ap (rem f n) (sym (low-apart m)) ∙ rem-⊕ f n deg (m / 2 * 2) (m % 2)
        ∙ ap (λ (x : ℕ). rem f n (m / 2 * 2) ⊕ x) (rem-small f n (m % 2) (omega (arith, two-lt n big, mod-two-lt m))))))

    pub poly_at-squared : (k y g : ℕ) → squared f n k (poly_at f n y g) ≡ poly_at f n (squared f n k y) g
    poly_at-squared k y =
        bin_ind (λ (m : ℕ). squared f n k (poly_at f n y m) ≡ poly_at f n (squared f n k y) m)
        (ap (squared f n k) (poly_at-zero y) ∙ squared-zero f n deg k ∙ sym (poly_at-zero (squared f n k y)))
        (λ m ih.
        rw (poly_at-step y m, poly_at-step (squared f n k y) m, squared-⊕ f n deg k, squared-bit f n deg big k (m % 2) (mod-two-lt m), squared-mul_mod f n deg k, ih))

    -- g as a polynomial with coefficients in the field, of the same degree
    monic : (g : ℕ) → 0 < g → (cs : List ℕ) × (2 ^ length cs ≤ g) × ((y : ℕ) → monic_at f n cs y ≡ poly_at f n y g)
    unfolding monic_at
    monic =
        bin_ind (λ (m : ℕ). 0 < m → (cs : List ℕ) × (2 ^ length cs ≤ m) × ((y : ℕ) → monic_at f n cs y ≡ poly_at f n y m))
        (λ h. absurd (omega arith))
        (λ m ih h. ⊎_elim
        (λ (l : m / 2 < 1).
        let e : m ≡ 1 = omega arith in
        ([], h, λ y. rw e (sym (poly_at-step y 1 ∙ rw (poly_at-zero y, mul_mod-zero_r f n y) (⊕-zero 1)))))
        (λ (l : 1 ≤ m / 2).
        let i = ih l in
        let u : 2 ^ length i.0 ≤ m / 2 = i.1 in (
          m % 2 ∷ i.0,
          rw pow-suc (omega arith),
          λ y.
              rw (poly_at-step y m, i.2 y, rem-small f n (m % 2) (omega (arith, two-lt n big, mod-two-lt m))) (⊕_comm _ (m % 2)),
        ))
        (order (m / 2) 1))

    module _ (irr : Irreducible f) where
      conjugate_root : (k : ℕ) → poly_at f n (squared f n k 2) f ≡ 0
      conjugate_root k = sym (poly_at-squared k 2 f) ∙ rw (poly_at-x f, rem_self f n deg) (squared-zero f n deg k)

      -- unless the n-th is x, the conjugates of x up to the n-th differ
      apart : (i j : ℕ) → i < j → j ≤ n → (squared f n n 2 ≡ 2 → ⊥) → squared f n i 2 ≡ squared f n j 2 → ⊥
      apart i j h l off e =
          let d : ℕ = j - i in
          let s : i + d ≡ j = omega arith in
          let two : 2 < 2 ^ n = two-lt n big in
          let t : 2 ≡ squared f n d 2 =
          squared_injective irr i 2 (squared f n d 2) two (squared-lt f n deg d 2 two) (e ∙ ap (λ (x : ℕ). squared f n x 2) (sym s) ∙ squared-add f n deg i d 2) in
          ⊎_elim
          (λ (u : d < n). squared_moves f n deg pos irr d (omega arith) u (squared_fixes f n deg big d (sym t)))
          (λ (u : n ≤ d). let v : d ≡ n = omega arith in off (ap (λ (x : ℕ). squared f n x 2) (sym v) ∙ sym t))
          (order d n)

      pub x-returns : squared f n n 2 ≡ 2
      x-returns = decide (ℕ_discrete (squared f n n 2) 2)
        where
          decide : Dec (squared f n n 2 ≡ 2) → squared f n n 2 ≡ 2
          decide (yes e) = e
          decide (no e) =
              let c = monic f (omega (arith, deg.low, pow_pos n)) in
              let m : ℕ = length c.0 in
              let l : m ≤ n = ⊎_elim (λ (u : m < n + 1). omega arith) (λ (u : n + 1 ≤ m). absurd (omega (arith, pow_mono u, c.1, deg.high))) (order m (n + 1)) in
              absurd (too_many_roots f n deg pos irr m c.0 refl (λ i. squared f n i 2)
              (λ i h. squared-lt f n deg i 2 (two-lt n big))
              (λ i j h k. apart i j h (omega arith) e)
              (λ i h. c.2 (squared f n i 2) ∙ conjugate_root i))

-- ---- the theorem, in every degree from 1

module _ (f n : ℕ) (deg : Degree f n) (pos : 1 ≤ n) (irr : Irreducible f) where
  -- of degree 1 the elements are 0 and 1
  squared-degree-one : n < 2 → (k a : ℕ) → a < 2 ^ n → squared f n k a ≡ a
  unfolding squared
  squared-degree-one s zero a h = refl
  squared-degree-one s (suc k) a h =
      let e : n ≡ 1 = omega arith in
      let t : a < 2 ^ 1 = rw e at h in
      let q : mul_mod f n a a ≡ a =
      ⊎_elim
      (λ (u : a ≡ 0). rw u (mul_mod-zero_r f n 0))
      (λ (u : a ≡ 1). rw u (mul_mod-one_l f n deg 1 (one-lt n pos)))
      (bit_cases a (omega arith)) in
      ap (squared f n k) q ∙ squared-degree-one s k a h

  pub all_return : (a : ℕ) → a < 2 ^ n → squared f n n a ≡ a
  all_return a h =
      ⊎_elim
      (λ (s : n < 2). squared-degree-one s n a h)
      (λ (big : 2 ≤ n). squared_fixes f n deg big n (x-returns f n deg big irr) a h)
      (order n 2)
