-- Modulo an irreducible f no product of elements other than 0 is 0; where squaring n times leaves x besides, the inverse of a
-- is its power with exponent 2 ^ n - 2.
-- Assumes nothing.
use Rattle.std.specs.Prelude.{◌≡◌, ◌⊎◌}
use Rattle.std.proofs.Math.Path.{sym, ap, ap₂}
use Rattle.std.proofs.Common.{◌∙◌, inl, inr, le_refl}
use Rattle.std.proofs.Math.Logic.{⊎_elim}
use Prim.Native.Nat.{ℕ, zero, suc, ◌-◌, ◌^◌, ◌≤◌, ◌<◌}
use native.Mathlib.Omega.{arith}
use Rattle.std.proofs.Math.Pow.{pow_mono}
use Rattle.gf2.specs.Poly.{◌⊕◌, product, degree, rem, mul_mod, Degree}
use Rattle.gf2.specs.Numbers.{order}
use Rattle.gf2.specs.Sum.{⊕-zero, zero-⊕, ⊕_self, ⊕_cancel, ⊕-eq-zero, ⊕-lt}
use Rattle.gf2.specs.Product.{product-zero_r, product-one_l, product-⊕_l, product_assoc, product_comm}
use Rattle.gf2.specs.Degrees.{degree_is}
use Rattle.gf2.specs.Remainder.{rem-zero, rem_lt, rem-⊕, rem-product_r, rem-quotient, rem_multiple}
use Rattle.field.specs.Field.{squared, pow_mod, Irreducible}
use Rattle.field.specs.Ring.{mul_mod-lt, mul_mod_comm, mul_mod-⊕_r, mul_mod-one_l}
use Rattle.field.specs.Frobenius.{squared_fixes, pow_mod-squared}

module _ (f n : ℕ) (deg : Degree f n) where
  -- the remainder of f by a is 0 times what a is 0 times
  kills : (a b q r : ℕ) → mul_mod f n a b ≡ 0 → f ≡ product q a ⊕ r → mul_mod f n r b ≡ 0
  unfolding mul_mod
  kills a b q r h e =
      let t : r ≡ product q a ⊕ f = sym (⊕_cancel (product q a) r) ∙ ap (λ (x : ℕ). product q a ⊕ x) (sym e) in
      let m : rem f n (product f b) ≡ 0 = ap (rem f n) (product_comm f b) ∙ rem_multiple f n deg b in
      ap (λ (x : ℕ). rem f n (product x b)) t
      ∙ rw (product-⊕_l, rem-⊕ f n deg, m, product_assoc, ← rem-product_r f n deg q (product a b), h, product-zero_r, rem-zero) (zero-⊕ 0)

  module _ (irr : Irreducible f) (b : ℕ) (hb : b < 2 ^ n) where
    -- by induction on a: its remainder of f is smaller
    descend : (k a : ℕ) → a ≤ k → a < 2 ^ n → mul_mod f n a b ≡ 0 → (a ≡ 0) ⊎ (b ≡ 0)
    descend zero a l h z = inl (omega arith)
    descend (suc k) a l h z =
        ⊎_elim
        (λ (p : a < 1). inl (omega arith))
        (λ (p : 1 ≤ a).
        let d : Degree a (degree a) = degree_is a p in
        let r : ℕ = rem a (degree a) f in
        let q = rem-quotient a (degree a) f in
        let r-lt : r < 2 ^ degree a = rem_lt a (degree a) d f in
        let low : 2 ^ degree a ≤ a = d.low in
        ⊎_elim
        (λ (e : r ≡ 0).
        let w : f ≡ product q.0 a = q.1 ∙ ap (λ (x : ℕ). product q.0 a ⊕ x) e ∙ ⊕-zero _ in
        ⊎_elim
        (λ (u : q.0 ≡ 1). absurd (let v : f ≡ a = w ∙ ap (λ (x : ℕ). product x a) u ∙ product-one_l a in omega (arith, deg.low)))
        (λ (u : a ≡ 1). inr (sym (mul_mod-one_l f n deg b hb) ∙ ap (λ (x : ℕ). mul_mod f n x b) (sym u) ∙ z))
        (irr.only q.0 a (sym w)))
        (λ (e : b ≡ 0). inr e)
        (descend k r (omega arith) (omega arith) (kills a b q.0 r z q.1)))
        (order a 1)

    pub no_zero_divisors : (a : ℕ) → a < 2 ^ n → mul_mod f n a b ≡ 0 → (a ≡ 0) ⊎ (b ≡ 0)
    no_zero_divisors a = descend a a (le_refl a)

  pub inverse : 2 ≤ n → Irreducible f → squared f n n 2 ≡ 2 → (a : ℕ) → 0 < a → a < 2 ^ n → mul_mod f n a (pow_mod f n a (2 ^ n - 2)) ≡ 1
  unfolding pow_mod
  inverse big irr e a pos h =
      let four : 2 ^ 2 ≤ 2 ^ n = pow_mono big in
      let p : ℕ = mul_mod f n a (pow_mod f n a (2 ^ n - 2)) in
      let t : 2 ^ n ≡ suc (suc (2 ^ n - 2)) = omega arith in
      let fix : mul_mod f n a p ≡ a = sym (ap (pow_mod f n a) t) ∙ pow_mod-squared f n deg big n a h ∙ squared_fixes f n deg big n e a h in
      let one : mul_mod f n a 1 ≡ a = mul_mod_comm f n deg a 1 ∙ mul_mod-one_l f n deg a h in
      let z : mul_mod f n a (p ⊕ 1) ≡ 0 = mul_mod-⊕_r f n deg a p 1 ∙ ap₂ ◌⊕◌ fix one ∙ ⊕_self a in
      ⊎_elim
      (λ (u : a ≡ 0). absurd (omega arith))
      (λ (u : p ⊕ 1 ≡ 0). ⊕-eq-zero p 1 u)
      (no_zero_divisors irr (p ⊕ 1) (⊕-lt n p 1 (mul_mod-lt f n deg a (pow_mod f n a (2 ^ n - 2))) (omega arith)) a h z)
