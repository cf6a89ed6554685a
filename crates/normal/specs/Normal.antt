-- What a sheet holds (document 01, "Two notations" and "What a sheet holds"): the conjugates of an element, when it is normal,
-- normal coordinates, and the three matrices. Definitions alone; the laws stand in the files beside this one.
--
--   conjugates f n a        c_0 to c_(n-1), in order of squaring; `conjugates_from f n k a` is the first k
--   normal f n a            no non-empty set of them sums to zero; `normal-means` (in `Coordinates`) says it for every set
--   dependency f n a        the smallest non-zero number whose set bits select conjugates that sum to zero
--   coordinates f n a y     the normal coordinates of y
--   listed k g              the list of g 0 to g (k - 1)
--   inverse_rows f n a       row i: the normal coordinates of x ^ i
--   table_rows f n a         row i: the normal coordinates of c_0 times c_i
--   complexity rows         the number of ones in the rows
--   padded rows             a matrix "inside a computation": 46 entries, those from n upward zero
--
-- Assumes nothing.
use Rattle.std.specs.Prelude.{Bool, ◌&&◌, List, [], ◌∷◌, ◌++◌, ℕ, zero, suc, ◌+◌, ◌-◌, ◌^◌, ltb, eqb, length, replicate}
use Rattle.std.specs.Int.Count.{ones}
use Rattle.gf2.specs.Poly.{mul_mod}
use Rattle.gf2.specs.Bounded.{first}
use Rattle.field.specs.Field.{squared}
use Rattle.gf2.specs.Limit.{limit}
use Rattle.rows.specs.Rows.{comb, independent}

-- "The conjugates of a are c_i = a^(2^i) for i from 0 to n-1": a, its square, and so on, k in all
unfoldable pub conjugates_from : (f n k a : ℕ) → List ℕ
conjugates_from f n zero a = []
conjugates_from f n (suc k) a = a ∷ conjugates_from f n k (mul_mod f n a a)

unfoldable pub conjugates : (f n a : ℕ) → List ℕ
conjugates f n a = conjugates_from f n n a

-- "The element is normal when no non-empty set of indices has conjugates that sum to zero": the sets are the numbers from 1 to
-- 2 ^ n - 1
unfoldable pub normal : (f n a : ℕ) → Bool
normal f n a = independent (conjugates f n a) n

unfoldable pub dependency : (f n a : ℕ) → ℕ
dependency f n a = first (2 ^ n) (λ v. ltb 0 v && eqb (comb (conjugates f n a) v) 0)

-- "The normal coordinates of an element are the n-bit number v whose set bits i select conjugates that sum to it."
unfoldable pub coordinates : (f n a y : ℕ) → ℕ
coordinates f n a y = first (2 ^ n) (λ v. eqb (comb (conjugates f n a) v) y)

unfoldable pub listed : ℕ → (ℕ → ℕ) → List ℕ
listed zero g = []
listed (suc k) g = g 0 ∷ listed k (λ i. g (suc i))

-- "inverse row: the normal coordinates of x^i"
unfoldable pub inverse_rows : (f n a : ℕ) → List ℕ
inverse_rows f n a = listed n (λ i. coordinates f n a (2 ^ i))

-- "table row: the normal coordinates of c_0 times c_i"
unfoldable pub table_rows : (f n a : ℕ) → List ℕ
table_rows f n a = listed n (λ i. coordinates f n a (mul_mod f n a (squared f n i a)))

-- "Complexity is the number of ones in the n table rows."
unfoldable pub complexity : List ℕ → ℕ
complexity [] = 0
complexity (r ∷ rs) = ones r + complexity rs

-- "an array of 46 numbers held by value; entries from n upward are zero"
unfoldable pub padded : List ℕ → List ℕ
padded rows = rows ++ replicate (limit - length rows) 0
