-- The product of normal coordinates through the table, and the rotation of coordinates (document 01, "Two notations" and "What a
-- sheet holds"). Definitions alone. The rows are any rows: a sheet's as they stand.
--
--   rotate n v               "Squaring turns bit i into bit i+1, and bit n-1 into bit 0.", for v below 2^n
--   rotated_by n i v          v rotated i places
--   entry rows i j           t(i,j), bit j of row i
--   total k g                the sum of g 0 to g (k - 1)
--   product_bit n rows a b k  bit k of the product of a and b
--   table_product n rows a b  the number with these bits
--   SumsRows n T answers     the answers are the sums of the n rows T that a number below 2^n picks
--   Factors rows n a b       rows is a matrix of a degree within the limit, and a and b are coordinates: what a product asks
--
-- Assumes nothing.
use Rattle.std.specs.Prelude.{◌≡◌, List, ℕ, zero, suc, ◌+◌, ◌-◌, ◌*◌, ◌/◌, ◌%◌, ◌^◌, ◌≤◌, ◌<◌, length, get_or}
use Rattle.gf2.specs.Limit.{limit}
use Rattle.rows.specs.Bits.{bit_of}
use Rattle.rows.specs.Rows.{comb, Matrix}

-- what stands above bit n-1 once all bits are moved up comes round to bit 0
unfoldable pub rotate : (n v : ℕ) → ℕ
rotate n v = v * 2 % 2 ^ n + v * 2 / 2 ^ n

unfoldable pub rotated_by : (n i v : ℕ) → ℕ
rotated_by n zero v = v
rotated_by n (suc i) v = rotate n (rotated_by n i v)

abbrev pub entry : (rows : List ℕ) (i j : ℕ) → ℕ
entry rows i j = bit_of (get_or rows i 0) j

unfoldable pub total : ℕ → (ℕ → ℕ) → ℕ
total zero g = 0
total (suc k) g = g 0 + total k (λ i. g (suc i))

-- "Bit k of a product of normal coordinates a and b is the sum modulo 2, over all i and j, of a_i b_j t((j-i) mod n, (k-i) mod n)."
unfoldable pub product_bit : (n : ℕ) (rows : List ℕ) (a b k : ℕ) → ℕ
product_bit n rows a b k =
    total n (λ i. total n (λ j. bit_of a i * bit_of b j * entry rows ((j + (n - i)) % n) ((k + (n - i)) % n))) % 2

unfoldable pub table_product : (n : ℕ) (rows : List ℕ) (a b : ℕ) → ℕ
table_product n rows a b = total n (λ k. product_bit n rows a b k * 2 ^ k)

-- what a function that sums rows answers: `answers v s` says that it may answer s for v
pub record SumsRows (n : ℕ) (T : List ℕ) (answers : ℕ → ℕ → Type 0) : Type 0 where
  pub size : length T ≡ n
  pub row_lt : (i : ℕ) → i < n → get_or T i 0 < 2 ^ n
  pub sums : (v s : ℕ) → v < 2 ^ n → answers v s → s ≡ comb T v

-- "the n-bit number v": the operands are coordinates, and the rows are those of a sheet, as they stand
pub record Factors (rows : List ℕ) (n a b : ℕ) : Type 0 where
  pub one : 1 ≤ n
  pub most : n ≤ limit
  pub table : Matrix rows n
  pub left : a < 2 ^ n
  pub right : b < 2 ^ n
