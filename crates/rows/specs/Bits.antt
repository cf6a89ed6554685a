-- Single bits of numbers, and the bits that two numbers share. Document 01 speaks of them throughout: "bit i is the coefficient of x^i",
-- "whose set bits i select conjugates", "Bit j is t(i,j)". Definitions alone; their laws stand in `Sharing`.
--
--   bit_of a k    bit k of a, 0 or 1
--   a ∩ b        the bits that both have
--
-- Assumes nothing.
use Rattle.std.specs.Prelude.{ℕ, ◌/◌, ◌%◌, ◌^◌}
use Rattle.std.specs.Int.Bits.{bit_and}

infixl 64 ◌∩◌
unfoldable pub bit_of : (a k : ℕ) → ℕ
bit_of a k = a / 2 ^ k % 2

unfoldable pub ◌∩◌ : ℕ → ℕ → ℕ
a ∩ b = bit_and a b
