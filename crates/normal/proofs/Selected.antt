-- The laws of `specs/Selected.antt` that a wrong definition breaks, and what rests on them. The head there tells of both files.
-- Assumes nothing.
use Rattle.std.specs.Prelude.{◌≡◌}
use Rattle.std.proofs.Math.Path.{refl, sym, ap}
use Rattle.std.proofs.Common.{◌∙◌, ⊎_elim, one-mul, arith}
use Prim.Native.Nat.{ℕ, zero, suc, ◌+◌, ◌-◌, ◌*◌, ◌/◌, ◌%◌, ◌^◌, ◌≤◌, ◌<◌}
use Rattle.std.proofs.Math.Nat.{pow-suc}
use Rattle.std.proofs.Math.Arith.{bin_ind, lt-one}
use Rattle.gf2.specs.Poly.{◌⊕◌, mul_mod, Degree}
use Rattle.gf2.specs.Numbers.{order, mod-two-lt}
use Rattle.gf2.specs.Remainder.{mul_mod-zero_r}
use Rattle.gf2.specs.Sum.{⊕_comm, ⊕-low, ⊕-digit, ⊕-lt}
use Rattle.gf2.specs.Steps.{bit-mul-lt}
use Rattle.field.specs.Field.{squared}
use Rattle.field.specs.Ring.{mul_mod-lt, mul_mod-square-⊕}
use Rattle.field.specs.ConjugateSums.{conjugate_sum, conjugate_sum-zero, conjugate_sum-step, conjugate_sum-one, conjugate_sum-double, conjugate_sum-⊕, conjugate_sum-power}
use Rattle.rows.specs.Rows.{comb}
use Rattle.rows.specs.Linear.{linear_bit}
use Rattle.rows.specs.Sums.{comb-nil, comb-cons}
use Rattle.normal.specs.Normal.{conjugates_from, conjugates}
use Rattle.normal.specs.TableProduct.{rotate}
use Rattle.normal.proofs.Rotation.{rotate-small, rotate_large, rotate-lt, half_power}

-- ---- the list of conjugates

module _ (f n : ℕ) (deg : Degree f n) where
  -- ---- sums

  -- the square of a conjugate sum is that of the square
  conjugate_sum-square : (g a : ℕ) → conjugate_sum f n g (mul_mod f n a a) ≡ mul_mod f n (conjugate_sum f n g a) (conjugate_sum f n g a)
  conjugate_sum-square g a =
      bin_ind (λ (m : ℕ). conjugate_sum f n m (mul_mod f n a a) ≡ mul_mod f n (conjugate_sum f n m a) (conjugate_sum f n m a))
      (conjugate_sum-zero f n deg (mul_mod f n a a) ∙ rw (conjugate_sum-zero f n deg a) (sym (mul_mod-zero_r f n 0)))
      (λ m ih. rw (conjugate_sum-step f n deg m (mul_mod f n a a), conjugate_sum-step f n deg m a, ih, mul_mod-square-⊕ f n deg, linear_bit (λ x. mul_mod f n x x) (mul_mod-square-⊕ f n deg) (m % 2) a (mod-two-lt m)))
      g

  conjugate_sum-lt : (g a : ℕ) → a < 2 ^ n → conjugate_sum f n g a < 2 ^ n
  conjugate_sum-lt g a h =
      rw (conjugate_sum-step f n deg g a)
      (⊕-lt n ((g % 2) * a) _ (bit-mul-lt (g % 2) a (2 ^ n) (mod-two-lt g) h) (mul_mod-lt f n deg _ _))

  conjugate_sum-squared : (i g a : ℕ) → conjugate_sum f n g (squared f n i a) ≡ squared f n i (conjugate_sum f n g a)
  unfolding squared
  conjugate_sum-squared zero g a = refl
  conjugate_sum-squared (suc i) g a = conjugate_sum-squared i g (mul_mod f n a a) ∙ ap (squared f n i) (conjugate_sum-square g a)

  from-sum : (k v a : ℕ) → v < 2 ^ k → comb (conjugates_from f n k a) v ≡ conjugate_sum f n v a
  unfolding conjugates_from
  from-sum zero v a h = rw (lt-one h) (comb-nil 0 ∙ sym (conjugate_sum-zero f n deg a))
  from-sum (suc k) v a h =
      let p : v < 2 ^ k * 2 = rw pow-suc at h in
      rw (conjugate_sum-step f n deg v a, comb-cons a (conjugates_from f n k (mul_mod f n a a)) v)
      (ap (λ (x : ℕ). v % 2 * a ⊕ x) (from-sum k (v / 2) (mul_mod f n a a) (omega arith) ∙ conjugate_sum-square (v / 2) a))

  pub selected_sum : (a v : ℕ) → v < 2 ^ n → comb (conjugates f n a) v ≡ conjugate_sum f n v a
  unfolding conjugates
  selected_sum a v h = from-sum n v a h

  pub selected_lt : (a : ℕ) → a < 2 ^ n → (v : ℕ) → v < 2 ^ n → comb (conjugates f n a) v < 2 ^ n
  selected_lt a ha v h = rw (selected_sum a v h) (conjugate_sum-lt v a ha)

  -- the sum that v selects of the conjugates of a conjugate
  pub selected_squared : (i a v : ℕ) → v < 2 ^ n → comb (conjugates f n (squared f n i a)) v ≡ squared f n i (comb (conjugates f n a) v)
  selected_squared i a v h =
      selected_sum (squared f n i a) v h ∙ conjugate_sum-squared i v a ∙ ap (squared f n i) (sym (selected_sum a v h))

  -- ---- squaring rotates

  module _ (pos : 1 ≤ n) (a : ℕ) (back : squared f n n a ≡ a) where
    -- the highest bit comes round
    round : (x : ℕ) → x < 2 ^ n → conjugate_sum f n (2 ^ n + x) a ≡ a ⊕ conjugate_sum f n x a
    round x h =
        let e : 1 * 2 ^ n ⊕ x ≡ 1 * 2 ^ n + x = ⊕-low 1 n x h in
        let s : 2 ^ n + x ≡ 2 ^ n ⊕ x = sym (rw one-mul at e) in
        rw (s, conjugate_sum-⊕ f n deg, conjugate_sum-power f n deg n a, back)

    conjugate_sum-rotate : (v : ℕ) → v < 2 ^ n → conjugate_sum f n (rotate n v) a ≡ mul_mod f n (conjugate_sum f n v a) (conjugate_sum f n v a)
    conjugate_sum-rotate v h =
        ⊎_elim
        (λ (l : v * 2 < 2 ^ n). rw (rotate-small n v l) (conjugate_sum-double f n deg v a))
        (λ (l : 2 ^ n ≤ v * 2).
        let x : ℕ = v * 2 - 2 ^ n in
        let s : 2 ^ n + x ≡ v * 2 = omega arith in
        let y : ℕ = v - 2 ^ (n - 1) in
        let t : x ≡ y * 2 = omega (arith, half_power n pos) in
        let o : x + 1 ≡ x ⊕ 1 = rw t (sym (⊕-digit y 1 (omega arith))) in
        rw (rotate_large n v l h, o, conjugate_sum-⊕ f n deg, conjugate_sum-one f n deg a)
        (⊕_comm (conjugate_sum f n x a) a ∙ sym (round x (omega arith)) ∙ ap (λ (z : ℕ). conjugate_sum f n z a) s ∙ conjugate_sum-double f n deg v a))
        (order (v * 2) (2 ^ n))

    -- squaring a sum of conjugates rotates its coordinates
    pub rotate-square : (v : ℕ) → v < 2 ^ n → comb (conjugates f n a) (rotate n v) ≡ mul_mod f n (comb (conjugates f n a) v) (comb (conjugates f n a) v)
    rotate-square v h =
        selected_sum a (rotate n v) (rotate-lt n pos v h) ∙ conjugate_sum-rotate v h ∙ sym (ap (λ (x : ℕ). mul_mod f n x x) (selected_sum a v h))
