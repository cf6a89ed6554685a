-- The trace: additive for every f; 0 or 1 where f is irreducible and squaring n times leaves x, since its square is itself.
-- Assumes nothing.
use Rattle.std.specs.Prelude.{◌≡◌, ◌⊎◌}
use Rattle.std.proofs.Math.Path.{sym, ap, ap₂}
use Rattle.std.proofs.Common.{◌∙◌, arith}
use Rattle.std.proofs.Math.Logic.{inl, inr, ⊎_elim}
use Prim.Native.Nat.{ℕ, zero, suc, ◌^◌, ◌≤◌, ◌<◌}
use Rattle.std.proofs.Math.Pow.{pow_pos}
use Rattle.gf2.specs.Poly.{◌⊕◌, mul_mod, Degree}
use Rattle.gf2.specs.Sum.{⊕_comm, ⊕_assoc, ⊕-four, ⊕_self, ⊕-zero, ⊕-lt, ⊕-eq-zero}
use Rattle.gf2.specs.Remainder.{mul_mod-zero_r}
use Rattle.field.specs.Field.{squared, trace_to, trace, Irreducible}
use Rattle.field.specs.Ring.{mul_mod_comm, mul_mod-⊕_r, mul_mod-one_l, mul_mod-square-⊕, two-lt}
use Rattle.field.specs.Frobenius.{squared-⊕, squared-lt, squared-next, squared_fixes}
use Rattle.field.specs.Division.{no_zero_divisors}

module _ (f n : ℕ) (deg : Degree f n) where
  pub trace_to-⊕ : (k a b : ℕ) → trace_to f n k (a ⊕ b) ≡ trace_to f n k a ⊕ trace_to f n k b
  unfolding trace_to
  trace_to-⊕ zero a b = sym (⊕-zero 0)
  trace_to-⊕ (suc k) a b =
      ap₂ ◌⊕◌ (trace_to-⊕ k a b) (squared-⊕ f n deg k a b)
      ∙ ⊕-four (trace_to f n k a) (trace_to f n k b) (squared f n k a) (squared f n k b)

  pub trace-⊕ : (a b : ℕ) → trace f n (a ⊕ b) ≡ trace f n a ⊕ trace f n b
  unfolding trace
  trace-⊕ a b = trace_to-⊕ n a b

  pub trace_to-lt : (k a : ℕ) → a < 2 ^ n → trace_to f n k a < 2 ^ n
  unfolding trace_to
  trace_to-lt zero a h = pow_pos n
  trace_to-lt (suc k) a h = ⊕-lt n (trace_to f n k a) (squared f n k a) (trace_to-lt k a h) (squared-lt f n deg k a h)

  -- squared, the first k conjugates become those from 1 to k
  pub trace_to-square : (k a : ℕ) → mul_mod f n (trace_to f n k a) (trace_to f n k a) ⊕ a ≡ trace_to f n k a ⊕ squared f n k a
  unfolding trace_to squared
  trace_to-square zero a = rw (mul_mod-zero_r f n 0)
  trace_to-square (suc k) a =
      let t : ℕ = trace_to f n k a in
      let s : ℕ = squared f n k a in
      ap (λ (x : ℕ). x ⊕ a) (mul_mod-square-⊕ f n deg t s)
      ∙ ⊕_assoc (mul_mod f n t t) (mul_mod f n s s) a
      ∙ ap (λ (x : ℕ). mul_mod f n t t ⊕ x) (⊕_comm (mul_mod f n s s) a)
      ∙ sym (⊕_assoc (mul_mod f n t t) a (mul_mod f n s s))
      ∙ ap₂ ◌⊕◌ (trace_to-square k a) (squared-next f n deg k a)

  module _ (big : 2 ≤ n) (irr : Irreducible f) (returns : squared f n n 2 ≡ 2) where
    trace-square : (a : ℕ) → a < 2 ^ n → mul_mod f n (trace f n a) (trace f n a) ≡ trace f n a
    unfolding trace
    trace-square a h =
        let t : ℕ = trace_to f n n a in
        let e : mul_mod f n t t ⊕ a ≡ t ⊕ a = trace_to-square n a ∙ ap (λ (x : ℕ). t ⊕ x) (squared_fixes f n deg big n returns a h) in
        ⊕-eq-zero (mul_mod f n t t) t
        (sym (⊕-zero (mul_mod f n t t ⊕ t)) ∙ ap (λ (x : ℕ). mul_mod f n t t ⊕ t ⊕ x) (sym (⊕_self a))
        ∙ ⊕-four (mul_mod f n t t) t a a ∙ rw e (⊕_self (t ⊕ a)))

    pub trace-bit : (a : ℕ) → a < 2 ^ n → (trace f n a ≡ 0) ⊎ (trace f n a ≡ 1)
    unfolding trace
    trace-bit a h =
        let t : ℕ = trace_to f n n a in
        let lt : t < 2 ^ n = trace_to-lt n a h in
        let one : 1 < 2 ^ n = omega (arith, two-lt n big) in
        let z : mul_mod f n t (t ⊕ 1) ≡ 0 =
        mul_mod-⊕_r f n deg t t 1 ∙ ap₂ ◌⊕◌ (trace-square a h) (mul_mod_comm f n deg t 1 ∙ mul_mod-one_l f n deg t lt) ∙ ⊕_self t in
        ⊎_elim
        (λ (u : t ≡ 0). inl u)
        (λ (u : t ⊕ 1 ≡ 0). inr (⊕-eq-zero t 1 u))
        (no_zero_divisors f n deg irr (t ⊕ 1) (⊕-lt n t 1 lt one) t lt z)
