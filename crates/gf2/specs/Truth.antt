-- Laws on truth values, which every crate above shares.
-- Not here: tests of numbers (`borrow.Author.Tests`), statements over all numbers below a bound (`Bounded`).
-- Assumes nothing.
use Rattle.std.specs.Prelude.{◌≡◌, ℕ, Bool, true, false, not, ◌&&◌, ◌||◌, ◌⊎◌, ◌↔◌, ◌≢◌, refl}
use Rattle.std.proofs.Common.{sym, inl, inr, arith}

-- ---- cases

pub bool_cases : (b : Bool) → (b ≡ true) ⊎ (b ≡ false)
bool_cases true = inl refl
bool_cases false = inr refl

pub not_both : (b : Bool) → b ≡ true → b ≢ false
not_both b p q = let z : ◌≡◌ {A = ℕ} 0 1 = cc in omega arith

pub not_true_false : (b : Bool) → (b ≢ true) → b ≡ false
not_true_false true h = absurd (h refl)
not_true_false false h = refl

-- equal where each follows from the other
pub same_truth : (a b : Bool) → (a ≡ true → b ≡ true) → (b ≡ true → a ≡ true) → a ≡ b
same_truth true b h g = sym (h refl)
same_truth false true h g = g refl
same_truth false false h g = refl

-- ---- not

pub not_true : (b : Bool) → (not b ≡ true) ↔ (b ≡ false)
not_true true = (λ e. absurd (not_both false e refl), λ e. absurd (not_both true refl e))
not_true false = (λ e. refl, λ e. refl)

-- ---- or

pub or_cases : (a b : Bool) → (a || b) ≡ true → (a ≡ true) ⊎ (b ≡ true)
or_cases true b e = inl refl
or_cases false b e = inr e

pub or_right : (a b : Bool) → b ≡ true → (a || b) ≡ true
or_right true b e = refl
or_right false b e = e

pub or_false : (a b : Bool) → (a || b) ≡ false → (a ≡ false) × (b ≡ false)
or_false true b e = absurd (not_both true refl e)
or_false false b e = (refl, e)

-- ---- and

pub and_parts : (a b : Bool) → (a && b) ≡ true → (a ≡ true) × (b ≡ true)
and_parts true b e = (refl, e)
and_parts false b e = absurd (not_both false e refl)

pub and_both : (a b : Bool) → a ≡ true → b ≡ true → (a && b) ≡ true
and_both a b p q = rw (p, q)
