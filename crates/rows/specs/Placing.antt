-- Inversion by insertion, what is left of a row goes in: its pivot's column is cleared in the rows that are in, their names
-- follow, and it is put at the place of that column. After n rows the names are the inverse.
--
-- In order: the pivots' columns before and after; the row goes in (`row_inserted`); a turn of the loop; the end.
-- What of this a wrong definition breaks, and what rests on that, stands in `proofs/Placing.antt`.
-- Assumes nothing.
use Rattle.std.specs.Prelude.{◌≡◌, ℕ, ◌*◌, ◌^◌}
use Rattle.std.proofs.Common.{ap, ap₂, ◌∙◌, zero-mul, one-mul}
use Rattle.gf2.specs.Poly.{◌⊕◌}
use Rattle.gf2.specs.Sum.{zero-⊕, ⊕-zero, ⊕_self, ⊕_assoc}
use Rattle.rows.specs.Linear.{linear_bit}
use Rattle.rows.specs.Bits.{bit_of, ◌∩◌}
use Rattle.rows.specs.Sharing.{bit_of-lt, ∩_comm, ∩_self, ⊕-∩, ∩-⊕, ∩_linear, ∩-power, power-apart, apart-bit}

-- ---- the pivots' columns before and after

module _ (x p c : ℕ) (clear : x ∩ p ≡ 0) (pivot : bit_of x c ≡ 1) where
  pub new_column : 2 ^ c ∩ p ≡ 0
  new_column = ∩_comm (2 ^ c) p ∙ ∩-power p c ∙ rw (apart-bit x p c clear pivot) (zero-mul (2 ^ c))

  pub new_row : x ∩ (p ⊕ 2 ^ c) ≡ 2 ^ c
  new_row = ∩-⊕ x p (2 ^ c) ∙ ap₂ ◌⊕◌ clear (∩-power x c ∙ rw pivot (one-mul (2 ^ c))) ∙ zero-⊕ (2 ^ c)

  pub new-power : 2 ^ c ∩ (p ⊕ 2 ^ c) ≡ 2 ^ c
  new-power = ∩-⊕ (2 ^ c) p (2 ^ c) ∙ ap₂ ◌⊕◌ new_column (∩_self (2 ^ c)) ∙ zero-⊕ (2 ^ c)

  pub old-power : (i : ℕ) → (i ≡ c → ⊥) → 2 ^ i ∩ (p ⊕ 2 ^ c) ≡ 2 ^ i ∩ p
  old-power i ne = ∩-⊕ (2 ^ i) p (2 ^ c) ∙ ap (λ (z : ℕ). 2 ^ i ∩ p ⊕ z) (power-apart i c ne) ∙ ⊕-zero (2 ^ i ∩ p)

  -- a row whose column c is cleared has of the new columns what it had of the old
  pub old_row : (y : ℕ) → (y ⊕ bit_of y c * x) ∩ (p ⊕ 2 ^ c) ≡ y ∩ p
  old_row y =
      let z : ℕ = bit_of y c * 2 ^ c in
      ⊕-∩ y (bit_of y c * x) (p ⊕ 2 ^ c)
      ∙ ap₂ ◌⊕◌
      (∩-⊕ y p (2 ^ c) ∙ ap (λ (w : ℕ). y ∩ p ⊕ w) (∩-power y c))
      (linear_bit (λ w. w ∩ (p ⊕ 2 ^ c)) (∩_linear (p ⊕ 2 ^ c)) (bit_of y c) x (bit_of-lt y c) ∙ ap (λ (w : ℕ). bit_of y c * w) new_row)
      ∙ ⊕_assoc (y ∩ p) z z
      ∙ ap (λ (w : ℕ). y ∩ p ⊕ w) (⊕_self z)
      ∙ ⊕-zero (y ∩ p)
