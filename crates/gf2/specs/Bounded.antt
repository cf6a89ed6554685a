-- A statement over the numbers below a bound, as a test. Document 01 has such statements in many places: "some polynomial of degree 1 to
-- n-1 divides f", "no non-empty set of indices has conjugates that sum to zero", "first such index in a list".
--
--   some k t      some number below k passes t
--   first k t     the smallest number below k that passes t, and k where none does
--   Found k t p   p is that number
--
-- Nobody runs a test over a large bound: it is what the sentence says, and faster methods are proved equal to it.
-- Definitions alone; what the tests say stands in `Existence`.
-- Assumes nothing.
use Rattle.std.specs.Prelude.{◌≡◌, ℕ, zero, suc, ◌<◌, Bool, true, false, cond, ◌||◌, ◌≢◌, nat_lt}

unfoldable pub some : ℕ → (ℕ → Bool) → Bool
some zero t = false
some (suc k) t = t k || some k t

unfoldable pub first : ℕ → (ℕ → Bool) → ℕ
first zero t = 0
first (suc k) t = cond (nat_lt (first k t) k) (first k t) (cond (t k) k (suc k))

-- what first finds: p passes, and nothing below it
pub record Found (k : ℕ) (t : ℕ → Bool) (p : ℕ) : Type 0 where
  pub below : p < k
  pub passes : t p ≡ true
  pub least : (d : ℕ) → d < p → t d ≢ true
