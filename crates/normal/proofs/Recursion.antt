-- The laws of `specs/Recursion.antt` that a wrong definition breaks, and what rests on them. The head there tells of both files.
-- Assumes nothing.
use Rattle.std.specs.Prelude.{◌≡◌, List, ℕ, zero, suc, ◌-◌, ◌/◌, ◌%◌, ◌^◌, ◌≤◌, ◌<◌, length, get_or}
use Rattle.std.proofs.Common.{arith}
use Rattle.std.proofs.Math.Logic.{⊎_elim}
use Rattle.gf2.specs.Numbers.{bit_cases, mod-two-lt, order}
use Rattle.normal.proofs.Rotation.{rotate-lt}
use Rattle.normal.proofs.ProductBits.{table_product-lt, table_product-zero}
use Rattle.normal.specs.Powers.{power_within, power_of, inverse_of, quotient_of}
use Rattle.normal.specs.Recursion.{step-one, step_even, step_odd}

-- ---- 0 divided, through any rows

pub quotient-zero : (n : ℕ) (rows : List ℕ) (a : ℕ) → quotient_of n rows 0 a ≡ 0
unfolding quotient_of
quotient-zero n rows a = table_product-zero n rows (inverse_of n rows a)

-- ---- the numbers are below 2^n

module _ (n : ℕ) (pos : 1 ≤ n) (T : List ℕ) (size : length T ≡ n) (row_lt : (i : ℕ) → i < n → get_or T i 0 < 2 ^ n) where
  within-lt : (s k a : ℕ) → a < 2 ^ n → power_within s n T k a < 2 ^ n
  within-lt zero k a h = unfold power_within in h
  within-lt (suc s) k a h =
      ⊎_elim
      (λ (l : k < 2). rw (step-one n T a s k (omega arith)) h)
      (λ (l : 2 ≤ k).
      ⊎_elim
      (λ (e : k % 2 ≡ 0). rw (step_even n T a s k l e) (table_product-lt n pos T size row_lt _ (power_within s n T (k / 2) a) (within-lt s (k / 2) a h)))
      (λ (e : k % 2 ≡ 1). rw (step_odd n T a s k l e) (table_product-lt n pos T size row_lt _ a h))
      (bit_cases (k % 2) (mod-two-lt k)))
      (order k 2)

  pub power-lt : (k a : ℕ) → a < 2 ^ n → power_of n T k a < 2 ^ n
  unfolding power_of
  power-lt k a h = within-lt k k a h

  pub inverse-lt : (a : ℕ) → a < 2 ^ n → inverse_of n T a < 2 ^ n
  unfolding inverse_of
  inverse-lt a h = rotate-lt n pos (power_of n T (n - 1) a) (power-lt (n - 1) a h)

  pub quotient-lt : (b a : ℕ) → a < 2 ^ n → quotient_of n T b a < 2 ^ n
  unfolding quotient_of
  quotient-lt b a h = table_product-lt n pos T size row_lt b (inverse_of n T a) (inverse-lt a h)
