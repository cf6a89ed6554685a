-- Matrices of bits: a list of numbers, its rows. Row i is the entry at i, 0 past the list's end; bit j of a row is the
-- entry in column j. Definitions alone; their laws stand in the files beside this one.
--
--   comb rows v             the sum of the rows that the bits of v pick
--   Matrix rows n           rows is a matrix of degree n
--   Independent rows n      no non-empty set of the first n rows sums to zero; `independent rows n` tests it
--   Inverse rows n inv      inv is the inverse of rows, both ways round
--   Dependency rows n v     v is the smallest number other than 0 that picks rows that sum to zero
--   Inverts rows n r        r is what inversion answers for rows
--
-- n is the degree throughout: the number of rows that count, and of bits in a row.
-- Assumes nothing.
use Rattle.std.specs.Prelude.{◌≡◌, Bool, not, ◌&&◌, List, [], ◌∷◌, ℕ, ◌*◌, ◌/◌, ◌%◌, ◌^◌, ◌≤◌, ◌<◌, ltb, eqb, length, get_or, Result, Ok, Err}
use Rattle.gf2.specs.Poly.{◌⊕◌}
use Rattle.gf2.specs.Bounded.{some}

-- "sums the conjugate rows picked by the bits", "sums the inverse rows picked by the bits": bit i of v picks row i
unfoldable pub comb : List ℕ → ℕ → ℕ
comb [] v = 0
comb (r ∷ rs) v = (v % 2) * r ⊕ comb rs (v / 2)

-- a row is a number below 2 ^ n, and "entries from n upward are zero"
pub record Matrix (rows : List ℕ) (n : ℕ) : Type 0 where
  pub row_lt : (i : ℕ) → get_or rows i 0 < 2 ^ n
  pub rest : (i : ℕ) → n ≤ i → get_or rows i 0 ≡ 0

-- "no non-empty set of indices has conjugates that sum to zero", of any rows
abbrev pub Independent : (rows : List ℕ) (n : ℕ) → Type 0
Independent rows n = (v : ℕ) → 0 < v → v < 2 ^ n → comb rows v ≡ 0 → ⊥

-- the same as a test: none of the numbers below 2 ^ n is such a set
unfoldable pub independent : (rows : List ℕ) (n : ℕ) → Bool
independent rows n = not (some (2 ^ n) (λ v. ltb 0 v && eqb (comb rows v) 0))

-- "inverse row: the normal coordinates of x^i", where "the normal coordinates of an element are the n-bit number v whose set
-- bits i select conjugates that sum to it": row i of the inverse picks rows that sum to 2 ^ i, which is x ^ i; and row i of
-- the matrix picks rows of the inverse that sum to 2 ^ i
pub record Inverse (rows : List ℕ) (n : ℕ) (inv : List ℕ) : Type 0 where
  pub shape : Matrix inv n
  pub right : (i : ℕ) → i < n → comb rows (get_or inv i 0) ≡ 2 ^ i
  pub left : (i : ℕ) → i < n → comb inv (get_or rows i 0) ≡ 2 ^ i

-- "the smallest non-zero number whose set bits select conjugates that sum to zero" (document 02, §5), of any rows
pub record Dependency (rows : List ℕ) (n v : ℕ) : Type 0 where
  pub positive : 0 < v
  pub below : v < 2 ^ n
  pub vanishes : comb rows v ≡ 0
  pub smallest : (w : ℕ) → 0 < w → w < v → comb rows w ≡ 0 → ⊥

-- what inversion answers: the inverse rows, or the dependency
abbrev pub Inverts : (rows : List ℕ) (n : ℕ) (r : Result (List ℕ) ℕ) → Type 0
Inverts rows n (Ok inv) = Inverse rows n inv × (length inv ≡ length rows)
Inverts rows n (Err v) = Dependency rows n v
