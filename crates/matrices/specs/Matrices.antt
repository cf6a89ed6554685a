-- The full set of matrices (document 02, §4): "all n matrices T_k of source document 000, where entry (i,j) of T_k is bit k of the normal
-- coordinates of c_i c_j", written "as text, each row a line of n digits, j upward, ended by byte 10, matrices in order of k, an empty line
-- after each". Definitions alone. A text is a list of bytes.
--
--   matrix_entry f n a k i j   entry (i,j) of T_k, for f of degree n and the element a
--   in_order m h               the lists h 0 to h (m - 1), one after another
--   digit_byte d, line_end      the bytes of a text
--   line_bytes n g             a line: the digits g 0 to g (n - 1), and its end
--   matrix_bytes n g           a matrix, whose entry (i,j) is g i j, and the empty line after it
--   text_bytes n g             n matrices, where entry (i,j) of number k is g k i j
--   matrices_text f n a        the text of an accepted f, of degree n, and a normal element a
--   matrix_size, text_size      the bytes of a matrix with its empty line, and of the whole text
--   line_count n               the lines of the whole text
--
-- Assumes nothing.
use Rattle.std.specs.Prelude.{List, [], ◌∷◌, ◌++◌, ℕ, zero, suc, ◌+◌, ◌*◌}
use Rattle.gf2.specs.Poly.{mul_mod}
use Rattle.field.specs.Field.{squared}
use Rattle.rows.specs.Bits.{bit_of}
use Rattle.normal.specs.Normal.{coordinates, listed}

-- "entry (i,j) of T_k is bit k of the normal coordinates of c_i c_j", where "c_i = a^(2^i)" (document 01, "Two notations")
unfoldable pub matrix_entry : (f n a k i j : ℕ) → ℕ
matrix_entry f n a k i j = bit_of (coordinates f n a (mul_mod f n (squared f n i a) (squared f n j a))) k

-- ---- the text

unfoldable pub in_order : ℕ → (ℕ → List ℕ) → List ℕ
in_order zero h = []
in_order (suc m) h = h 0 ++ in_order m (λ i. h (suc i))

-- "digits": byte 48 for 0 and byte 49 for 1
abbrev pub digit_byte : ℕ → ℕ
digit_byte d = 48 + d

-- "ended by byte 10"
abbrev pub line_end : ℕ
line_end = 10

-- "each row a line of n digits, j upward, ended by byte 10"
unfoldable pub line_bytes : (n : ℕ) → (ℕ → ℕ) → List ℕ
line_bytes n g = listed n (λ j. digit_byte (g j)) ++ (line_end ∷ [])

-- the rows of a matrix in order of i, and "an empty line after each" matrix
unfoldable pub matrix_bytes : (n : ℕ) → (ℕ → ℕ → ℕ) → List ℕ
matrix_bytes n g = in_order n (λ i. line_bytes n (g i)) ++ (line_end ∷ [])

-- "matrices in order of k"
unfoldable pub text_bytes : (n : ℕ) → (ℕ → ℕ → ℕ → ℕ) → List ℕ
text_bytes n g = in_order n (λ k. matrix_bytes n (g k))

unfoldable pub matrices_text : (f n a : ℕ) → List ℕ
matrices_text f n a = text_bytes n (matrix_entry f n a)

-- ---- its size

abbrev pub matrix_size : (n : ℕ) → ℕ
matrix_size n = n * (n + 1) + 1

-- "n(n(n+1)+1) bytes"
unfoldable pub text_size : (n : ℕ) → ℕ
text_size n = n * matrix_size n

-- n rows and an empty line for each of n matrices
abbrev pub line_count : (n : ℕ) → ℕ
line_count n = n * (n + 1)
