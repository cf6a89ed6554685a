-- Small facts on numbers and binary digits that the laws of polynomials share.
-- Not here: halves, powers of two and induction over digits (`lib.Arith`, `lib.Pow`), tests (`borrow.Author.Tests`).
-- Assumes nothing.
use Rattle.std.specs.Prelude.{◌≡◌, ℕ, zero, suc, ◌+◌, ◌*◌, ◌/◌, ◌%◌, ◌^◌, ◌<◌, ◌≤◌, Bool, true, false, ◌⊎◌, nat_lt, refl}
use Rattle.std.proofs.Common.{ap, ◌∙◌, inl, inr, mod-lt, zero-lt-suc, pow-suc, add-one, arith, ltb-true, ltb-false}

-- ---- cases

pub bit_cases : (n : ℕ) → n < 2 → (n ≡ 0) ⊎ (n ≡ 1)
bit_cases zero h = inl refl
bit_cases (suc zero) h = inr refl
bit_cases (suc (suc n)) h = absurd (omega arith)

pub zero-one-more : (a : ℕ) → (a ≡ 0) ⊎ ((a ≡ 1) ⊎ (2 ≤ a))
zero-one-more zero = inl refl
zero-one-more (suc zero) = inr (inl refl)
zero-one-more (suc (suc a)) = inr (inr (omega arith))

pub order : (a b : ℕ) → (a < b) ⊎ (b ≤ a)
order a b = go (nat_lt a b) refl
  where
    go : (t : Bool) → nat_lt a b ≡ t → (a < b) ⊎ (b ≤ a)
    go true e = inl (ltb-true a b e)
    go false e = inr (ltb-false a b e)

-- ---- digits

pub mod-two-lt : (n : ℕ) → n % 2 < 2
mod-two-lt n = mod-lt n (zero-lt-suc 1)

-- equal halves and equal low digits
pub by_digits : {a b : ℕ} → a / 2 ≡ b / 2 → a % 2 ≡ b % 2 → a ≡ b
by_digits {a} {b} p q = omega arith

pub double_half : (a : ℕ) → a * 2 / 2 ≡ a
double_half a = omega arith

pub double_even : (a : ℕ) → a * 2 % 2 ≡ 0
double_even a = omega arith

-- ---- powers of two

pub pow-next : (n : ℕ) → 2 ^ (n + 1) ≡ 2 ^ n * 2
pow-next n = ap (λ (k : ℕ). 2 ^ k) (add-one n) ∙ pow-suc 2 n
