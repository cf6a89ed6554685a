-- A digit as std reads it: what a byte is worth here is what std says of it, but for the letters that no base here has.
-- Assumes nothing.
use Rattle.std.specs.Prelude.{◌≡◌, ℕ, ◌+◌, ◌-◌, ◌*◌, ◌^◌, ◌≤◌, ◌<◌, min, Option, None, Some, SomeIff}
use Rattle.std.specs.Char.{digit_value}
use Rattle.std.proofs.Common.{arith, le-ltb, refl, inl, inr, ⊎_elim}
use Rattle.std.proofs.Math.Bool.{and-false}
use Rattle.std.proofs.lemmas.Bool.{cases_lt}
use Rattle.words.specs.Notation.{worth}
use Rattle.words.specs.Digits.{worth-decimal, worth_letter, worth_capital, worth-none, more_by, more_no_digit, more-number}

module _ (byte : ℕ) where
  decimal : 48 ≤ byte → byte < 58 → worth byte ≡ min (digit_value byte) 16
  decimal l h =
      let w : byte - 48 ≡ worth byte = worth-decimal byte l (omega arith) in
      rw (← w) (grind arith)

  capital : 65 ≤ byte → byte < 71 → worth byte ≡ min (digit_value byte) 16
  capital l h =
      let w : byte - 65 + 10 ≡ worth byte = worth_capital byte l (omega arith) in
      rw (← w) (grind arith)

  letter : 97 ≤ byte → byte < 103 → worth byte ≡ min (digit_value byte) 16
  letter l h =
      let w : byte - 97 + 10 ≡ worth byte = worth_letter byte l (omega arith) in
      rw (← w) (grind arith)

  before : byte < 48 → worth byte ≡ min (digit_value byte) 16
  before h =
      let w : 16 ≡ worth byte = worth-none byte (inl h) (inl (omega arith)) (inl (omega arith)) in
      rw (← w) (grind arith)

  between : 58 ≤ byte → byte < 65 → worth byte ≡ min (digit_value byte) 16
  between l h =
      let w : 16 ≡ worth byte = worth-none byte (inr l) (inl (omega arith)) (inl (omega arith)) in
      rw (← w) (grind arith)

  above : 71 ≤ byte → byte < 97 → worth byte ≡ min (digit_value byte) 16
  above l h =
      let w : 16 ≡ worth byte = worth-none byte (inr (omega arith)) (inl (omega arith)) (inr (omega arith)) in
      rw (← w) (grind arith)

  after : 103 ≤ byte → worth byte ≡ min (digit_value byte) 16
  after l =
      let w : 16 ≡ worth byte = worth-none byte (inr (omega arith)) (inr (omega arith)) (inr (omega arith)) in
      rw (← w) (grind arith)

  pub worth-digit : worth byte ≡ min (digit_value byte) 16
  worth-digit =
      ⊎_elim before
      (λ a. ⊎_elim (decimal a)
      (λ b. ⊎_elim (between b)
      (λ c. ⊎_elim (capital c)
      (λ d. ⊎_elim (above d)
      (λ e. ⊎_elim (letter e) after (cases_lt byte 103))
      (cases_lt byte 97)) (cases_lt byte 71)) (cases_lt byte 65)) (cases_lt byte 58)) (cases_lt byte 48)

module _ (base before byte : ℕ) where
  -- the byte is no digit of the base
  pub more_stops : base ≤ 16 → (digit_value byte < base → ⊥) → None ≡ more_by base before byte
  more_stops small h =
      let m : worth byte ≡ min (digit_value byte) 16 = worth-digit byte in
      more_no_digit base before (worth byte) byte refl (omega arith)

  -- the value is too large before the digit is added, or with it
  pub more_over : 2 ^ 64 ≤ before * base + worth byte → None ≡ more_by base before byte
  unfolding more_by
  more_over h = rw (le-ltb (before * base + worth byte) (2 ^ 64) h, and-false)

  pub more_added : (sum : Option ℕ) → 2 ≤ base → base ≤ 16 → digit_value byte < base
      → SomeIff sum (before * base + digit_value byte < 2 ^ 64) (before * base + digit_value byte) → sum ≡ more_by base before byte
  more_added None large small d h =
      let w : worth byte ≡ digit_value byte = omega (arith, worth-digit byte) in
      let n : (before * base + digit_value byte < 2 ^ 64 → ⊥) = h in
      more_over (omega arith)
  more_added (Some v) large small d h =
      let w : worth byte ≡ digit_value byte = omega (arith, worth-digit byte) in
      rw (h.1, ← w) (more-number base before (worth byte) byte refl large small (omega arith) (omega (arith, h.0)))
