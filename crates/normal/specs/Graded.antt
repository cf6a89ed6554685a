-- What each grade means, sentence by sentence (document 02, §3), and that all conjugates of a normal element have the same: a leader's grade is
-- that of its class.
--
--   Says f n a c k   the grade's number k says what §3 has it say, of the element a with complexity c
--
-- What of this a wrong definition breaks, and what rests on that, stands in `proofs/Graded.antt`.
-- Assumes nothing.
use Rattle.std.specs.Prelude.{◌≡◌, ◌↔◌, ℕ, ◌+◌, ◌-◌, ◌*◌, ◌≤◌}
use Rattle.field.specs.Field.{pow_mod}

-- ---- what each grade means

pub record Says (f n a c k : ℕ) : Type 0 where
  pub most : k ≤ 3
  pub none : (k ≡ 0) ↔ (c ≡ 2 * n - 1 → ⊥)
  pub first : (k ≡ 1) ↔ ((c ≡ 2 * n - 1) × (n ≡ 2 → ⊥) × (pow_mod f n a (n + 1) ≡ 1))
  pub second : (k ≡ 2) ↔ ((c ≡ 2 * n - 1) × (n ≡ 2 → ⊥) × (pow_mod f n a (n + 1) ≡ 1 → ⊥))
  pub both : (k ≡ 3) ↔ ((c ≡ 2 * n - 1) × (n ≡ 2))
