-- The power with exponent 2^k-1 (document 02, §1). In order: it satisfies the three sentences of §1 (`power-one`, `power_even`, `power_odd`),
-- and nothing else does (`power_unique`), so that the count of steps in the definition means nothing; one step of the code, from the power for
-- half of k (`power_half_even`, `power_half_odd`); 0 divided is 0 (`quotient-zero`); powers, inverses and quotients are below 2^n (`power-lt`,
-- `inverse-lt`, `quotient-lt`).
-- What of this a wrong definition breaks, and what rests on that, stands in `proofs/Recursion.antt`.
-- Assumes nothing.
use Rattle.std.specs.Prelude.{◌≡◌, List, ℕ, zero, suc, ◌-◌, ◌*◌, ◌/◌, ◌%◌, ◌≤◌, ◌<◌}
use Rattle.std.proofs.Math.Path.{refl, ap}
use Rattle.std.proofs.Common.{sym, ◌∙◌, le_refl, arith}
use Rattle.std.proofs.Math.Logic.{⊎_elim}
use borrow.Author.Tests.{le-leb, lt-leb, eq-eqb, ne_eqb}
use Rattle.gf2.specs.Numbers.{bit_cases, mod-two-lt, order}
use Rattle.normal.specs.TableProduct.{rotate, rotated_by, table_product}
use Rattle.normal.specs.Powers.{even_power, odd_power, power_within, power_of}

module _ (n : ℕ) (rows : List ℕ) (a : ℕ) where
  -- ---- one step

  pub step-one : (s k : ℕ) → k ≤ 1 → power_within (suc s) n rows k a ≡ a
  unfolding power_within
  step-one s k h = rw (le-leb k 1 h)

  pub step_even : (s k : ℕ) → 1 < k → k % 2 ≡ 0 → power_within (suc s) n rows k a ≡ even_power n rows (k / 2) (power_within s n rows (k / 2) a)
  unfolding power_within
  step_even s k h e = rw (lt-leb k 1 h, eq-eqb (k % 2) 0 e)

  pub step_odd : (s k : ℕ) → 1 < k → k % 2 ≡ 1 → power_within (suc s) n rows k a ≡ odd_power n rows (power_within s n rows (k - 1) a) a
  unfolding power_within
  step_odd s k h e = rw (lt-leb k 1 h, ne_eqb (k % 2) 0 (λ z. omega arith))

  -- ---- k steps are enough

  within_none : (s k : ℕ) → k ≤ 1 → power_within s n rows k a ≡ a
  within_none zero k h = unfold power_within in refl
  within_none (suc s) k h = step-one s k h

  enough : (s t k : ℕ) → k ≤ s → k ≤ t → power_within s n rows k a ≡ power_within t n rows k a
  enough zero t k hs ht = within_none zero k (omega arith) ∙ sym (within_none t k (omega arith))
  enough (suc s) zero k hs ht = within_none (suc s) k (omega arith) ∙ sym (within_none zero k (omega arith))
  enough (suc s) (suc t) k hs ht =
      ⊎_elim
      (λ (l : k < 2). within_none (suc s) k (omega arith) ∙ sym (within_none (suc t) k (omega arith)))
      (λ (l : 2 ≤ k).
      ⊎_elim
      (λ (e : k % 2 ≡ 0).
      step_even s k l e ∙ ap (even_power n rows (k / 2)) (enough s t (k / 2) (omega arith) (omega arith)) ∙ sym (step_even t k l e))
      (λ (e : k % 2 ≡ 1).
      step_odd s k l e ∙ ap (λ (p : ℕ). odd_power n rows p a) (enough s t (k - 1) (omega arith) (omega arith)) ∙ sym (step_odd t k l e))
      (bit_cases (k % 2) (mod-two-lt k)))
      (order k 2)

  -- ---- the three sentences

  -- "For k = 1 it is a."
  pub power-one : power_of n rows 1 a ≡ a
  unfolding power_of
  power-one = step-one 0 1 (le_refl 1)

  even_from : (s k : ℕ) → k ≤ suc s → 1 < k → k % 2 ≡ 0 → power_within (suc s) n rows k a ≡ even_power n rows (k / 2) (power_of n rows (k / 2) a)
  unfolding power_of
  even_from s k h l e = step_even s k l e ∙ ap (even_power n rows (k / 2)) (enough s (k / 2) (k / 2) (omega arith) (le_refl (k / 2)))

  odd_from : (s k : ℕ) → k ≤ suc s → 1 < k → k % 2 ≡ 1 → power_within (suc s) n rows k a ≡ odd_power n rows (power_of n rows (k - 1) a) a
  unfolding power_of
  odd_from s k h l e = step_odd s k l e ∙ ap (λ (p : ℕ). odd_power n rows p a) (enough s (k - 1) (k - 1) (omega arith) (le_refl (k - 1)))

  power-double : (k : ℕ) → 1 < k → k % 2 ≡ 0 → power_of n rows k a ≡ even_power n rows (k / 2) (power_of n rows (k / 2) a)
  unfolding power_of
  power-double k l e = enough k (suc k) k (le_refl k) (omega arith) ∙ even_from k k (omega arith) l e

  -- "For k = 2h it is the power for h, rotated h places, times that power."
  pub power_even : (h : ℕ) → 1 ≤ h → power_of n rows (2 * h) a ≡ table_product n rows (rotated_by n h (power_of n rows h a)) (power_of n rows h a)
  power_even h l =
      let e : 2 * h / 2 ≡ h = omega arith in
      power-double (2 * h) (omega arith) (omega arith) ∙ ap (λ (x : ℕ). even_power n rows x (power_of n rows x a)) e

  -- "For odd k above 1 it is the power for k-1, rotated once, times a."
  pub power_odd : (k : ℕ) → 1 < k → k % 2 ≡ 1 → power_of n rows k a ≡ table_product n rows (rotate n (power_of n rows (k - 1) a)) a
  unfolding power_of
  power_odd k l e = enough k (suc k) k (le_refl k) (omega arith) ∙ odd_from k k (omega arith) l e

  -- ---- nothing else has them

  unique_to : (g : ℕ → ℕ) → g 1 ≡ a → ((h : ℕ) → 1 ≤ h → g (2 * h) ≡ table_product n rows (rotated_by n h (g h)) (g h))
      → ((k : ℕ) → 1 < k → k % 2 ≡ 1 → g k ≡ table_product n rows (rotate n (g (k - 1))) a)
      → (s k : ℕ) → k ≤ s → 1 ≤ k → g k ≡ power_of n rows k a
  unique_to g one even odd zero k hs hk = absurd (omega arith)
  unique_to g one even odd (suc s) k hs hk =
      ⊎_elim
      (λ (l : k < 2). let e : k ≡ 1 = omega arith in ap g e ∙ one ∙ sym (power-one) ∙ ap (λ (x : ℕ). power_of n rows x a) (sym e))
      (λ (l : 2 ≤ k).
      ⊎_elim
      (λ (e : k % 2 ≡ 0).
      let h : ℕ = k / 2 in
      let d : k ≡ 2 * h = omega arith in
      ap g d ∙ even h (omega arith) ∙ ap (even_power n rows h) (unique_to g one even odd s h (omega arith) (omega arith))
      ∙ sym (power_even h (omega arith)) ∙ ap (λ (x : ℕ). power_of n rows x a) (sym d))
      (λ (e : k % 2 ≡ 1).
      odd k l e ∙ ap (λ (p : ℕ). odd_power n rows p a) (unique_to g one even odd s (k - 1) (omega arith) (omega arith)) ∙ sym (power_odd k l e))
      (bit_cases (k % 2) (mod-two-lt k)))
      (order k 2)

  -- a function with the three sentences is the power, for every k from 1
  pub power_unique : (g : ℕ → ℕ) → g 1 ≡ a → ((h : ℕ) → 1 ≤ h → g (2 * h) ≡ table_product n rows (rotated_by n h (g h)) (g h))
      → ((k : ℕ) → 1 < k → k % 2 ≡ 1 → g k ≡ table_product n rows (rotate n (g (k - 1))) a)
      → (k : ℕ) → 1 ≤ k → g k ≡ power_of n rows k a
  power_unique g one even odd k h = unique_to g one even odd k k (le_refl k) h

  -- ---- one step of the code

  pub power_half_even : (k half turned even : ℕ) → 1 < k → k % 2 ≡ 0 → half ≡ power_of n rows (k / 2) a → turned ≡ rotated_by n (k / 2) half
      → even ≡ table_product n rows turned half → even ≡ power_of n rows k a
  power_half_even k half turned even l e eh et ee = ee ∙ rw (et, eh) (sym (power-double k l e))

  pub power_half_odd : (k half turned even next whole : ℕ) → 1 < k → k % 2 ≡ 1 → half ≡ power_of n rows (k / 2) a → turned ≡ rotated_by n (k / 2) half
      → even ≡ table_product n rows turned half → next ≡ rotate n even → whole ≡ table_product n rows next a → whole ≡ power_of n rows k a
  power_half_odd k half turned even next whole l e eh et ee en ew =
      let q : (k - 1) / 2 ≡ k / 2 = omega arith in
      let s : even ≡ power_of n rows (k - 1) a = power_half_even (k - 1) half turned even (omega arith) (omega arith) (eh ∙ ap (λ (x : ℕ). power_of n rows x a) (sym q)) (et ∙ ap (λ (x : ℕ). rotated_by n x half) (sym q)) ee in
      ew ∙ rw (en, s) (sym (power_odd k l e))
