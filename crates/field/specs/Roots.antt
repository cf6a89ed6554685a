-- Polynomials with coefficients in the field of f, with leading coefficient 1: over an irreducible f one of degree m has at
-- most m roots.
--
--   monic_at f n cs a         the value at a of the polynomial with the lower coefficients cs, the constant first
--   monic_quotient f n r cs   the lower coefficients of its quotient by x ⊕ r
--
-- Assumes nothing.
use Rattle.std.proofs.Math.Path.{◌≡◌, sym, ap}
use Rattle.std.specs.Prelude.{refl}
use Rattle.std.proofs.Common.{◌∙◌, le_refl}
use Rattle.std.proofs.Math.Logic.{⊎_elim}
use mathlib.Core.List.{List, [], ◌∷◌}
use Prim.Native.Nat.{ℕ, zero, suc, ◌^◌, ◌≤◌, ◌<◌}
use native.Mathlib.Omega.{arith}
use Rattle.std.proofs.Math.ListN.{length}
use Rattle.gf2.specs.Poly.{◌⊕◌, rem, mul_mod, Degree}
use Rattle.gf2.specs.Sum.{⊕-zero, ⊕_assoc, ⊕_middle, ⊕-lt, ⊕-eq-zero}
use Rattle.gf2.specs.Remainder.{rem_lt, rem-small}
use Rattle.field.specs.Field.{Irreducible}
use Rattle.field.specs.Ring.{mul_mod-lt, mul_mod-⊕_l, mul_mod-⊕_r, mul_mod-left_comm, one-lt}
use Rattle.field.specs.Division.{no_zero_divisors}

unfoldable pub monic_at : (f n : ℕ) → List ℕ → ℕ → ℕ
monic_at f n [] a = 1
monic_at f n (c ∷ cs) a = mul_mod f n a (monic_at f n cs a) ⊕ rem f n c

unfoldable pub monic_quotient : (f n r : ℕ) → List ℕ → List ℕ
monic_quotient f n r [] = []
monic_quotient f n r (c ∷ cs) = monic_at f n (c ∷ cs) r ∷ monic_quotient f n r cs

monic_quotient-length : (f n r : ℕ) (cs : List ℕ) → length (monic_quotient f n r cs) ≡ length cs
unfolding monic_quotient
monic_quotient-length f n r [] = refl
monic_quotient-length f n r (c ∷ cs) = ap suc (monic_quotient-length f n r cs)

module _ (f n : ℕ) (deg : Degree f n) (pos : 1 ≤ n) where
  monic_at-lt : (cs : List ℕ) (a : ℕ) → monic_at f n cs a < 2 ^ n
  unfolding monic_at
  monic_at-lt [] a = one-lt n pos
  monic_at-lt (c ∷ cs) a = ⊕-lt n (mul_mod f n a (monic_at f n cs a)) (rem f n c) (mul_mod-lt f n deg a (monic_at f n cs a)) (rem_lt f n deg c)

  horner : (a r q e d : ℕ)
      → mul_mod f n a (mul_mod f n (a ⊕ r) q ⊕ e) ⊕ d
      ≡ mul_mod f n (a ⊕ r) (mul_mod f n a q ⊕ e) ⊕ (mul_mod f n r e ⊕ d)
  horner a r q e d =
      rw (mul_mod-⊕_r f n deg a (mul_mod f n (a ⊕ r) q) e, mul_mod-⊕_r f n deg (a ⊕ r) (mul_mod f n a q) e, mul_mod-left_comm f n deg a (a ⊕ r) q, mul_mod-⊕_l f n deg a r e)
      (sym (ap (λ (x : ℕ). x ⊕ (mul_mod f n r e ⊕ d)) (sym (⊕_assoc _ (mul_mod f n a e) (mul_mod f n r e))) ∙ ⊕_middle _ (mul_mod f n r e) d))

  -- division by x ⊕ r leaves the value at r
  monic_divide : (c : ℕ) (cs : List ℕ) (r a : ℕ) → monic_at f n (c ∷ cs) a ≡ mul_mod f n (a ⊕ r) (monic_at f n (monic_quotient f n r cs) a) ⊕ monic_at f n (c ∷ cs) r
  unfolding monic_at monic_quotient
  monic_divide c [] r a = rw (mul_mod-⊕_l f n deg a r 1) (sym (⊕_middle (mul_mod f n a 1) (mul_mod f n r 1) (rem f n c)))
  monic_divide c (d ∷ cs) r a =
      ap (λ (x : ℕ). mul_mod f n a x ⊕ rem f n c) (monic_divide d cs r a)
      ∙ horner a r (monic_at f n (monic_quotient f n r cs) a) (monic_at f n (d ∷ cs) r) (rem f n c)
      ∙ rw (rem-small f n (monic_at f n (d ∷ cs) r) (monic_at-lt (d ∷ cs) r))

  module _ (irr : Irreducible f) where
    -- no more roots than the degree
    pub too_many_roots : (m : ℕ) (cs : List ℕ) → length cs ≡ m → (r : ℕ → ℕ)
        → ((i : ℕ) → i ≤ m → r i < 2 ^ n)
        → ((i j : ℕ) → i < j → j ≤ m → r i ≡ r j → ⊥)
        → ((i : ℕ) → i ≤ m → monic_at f n cs (r i) ≡ 0)
        → ⊥
    unfolding monic_at
    too_many_roots zero [] e r small apart z = let y : ◌≡◌ {A = ℕ} 1 0 = z 0 (le_refl 0) in omega arith
    too_many_roots zero (c ∷ cs) e r small apart z = omega arith
    too_many_roots (suc m) [] e r small apart z = omega arith
    too_many_roots (suc m) (c ∷ cs) e r small apart z =
        let l : length cs ≡ m = omega arith in
        let s : ℕ = r (suc m) in
        too_many_roots m (monic_quotient f n s cs) (monic_quotient-length f n s cs ∙ l) r
        (λ i h. small i (omega arith))
        (λ i j h k. apart i j h (omega arith))
        (λ i h.
        let q : ℕ = monic_at f n (monic_quotient f n s cs) (r i) in
        let t : mul_mod f n (r i ⊕ s) q ≡ 0 =
        sym (⊕-zero (mul_mod f n (r i ⊕ s) q)) ∙ ap (λ (x : ℕ). mul_mod f n (r i ⊕ s) q ⊕ x) (sym (z (suc m) (le_refl (suc m))))
        ∙ sym (monic_divide c cs s (r i)) ∙ z i (omega arith) in
        ⊎_elim
        (λ (u : r i ⊕ s ≡ 0). absurd (apart i (suc m) (omega arith) (le_refl (suc m)) (⊕-eq-zero (r i) s u)))
        (λ (u : q ≡ 0). u)
        (no_zero_divisors f n deg irr q (monic_at-lt (monic_quotient f n s cs) (r i)) (r i ⊕ s) (⊕-lt n (r i) s (small i (omega arith)) (small (suc m) (le_refl (suc m)))) t))

    -- one of degree below 2 ^ n does not vanish everywhere
    pub not_everywhere_zero : (cs : List ℕ) → length cs < 2 ^ n → ((a : ℕ) → a < 2 ^ n → monic_at f n cs a ≡ 0) → ⊥
    not_everywhere_zero cs l z =
        too_many_roots (length cs) cs refl (λ i. i) (λ i h. omega arith) (λ i j h k e. omega arith) (λ i h. z i (omega arith))
