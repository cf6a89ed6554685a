-- The sheet file (document 01, "Sheet file"): "Records of 32 bytes, no header, n records, in row order. Numbers are little-endian."
-- Definitions alone. A sheet is a list of bytes.
--
--   record_size, degree_at, ..      the layout, each number once; "tail" is f without its term x^n
--   bytes_of k v, number_in bytes   a number as k bytes, and the number that bytes hold
--   record_bytes ..                one record
--   records_to k ..                the first k records
--   sheet_bytes f n a              the sheet of f, accepted and of degree n, and the normal element a
--   degree_in sheet i, ..          the columns of record i, as they stand; `record_at sheet i`: its bytes
--   conjugate_rows_in sheet, ..     one column from record to record: the rows of a matrix
--   record_count, polynomial_in     how many records a sheet has, and the polynomial that its record 0 names
--
-- Assumes nothing.
use Rattle.std.specs.Prelude.{List, [], ◌∷◌, ◌++◌, ℕ, zero, suc, ◌+◌, ◌-◌, ◌*◌, ◌/◌, ◌%◌, ◌^◌, length, get_or, take, drop}
use Rattle.normal.specs.Normal.{conjugates, inverse_rows, table_rows, listed}

-- ---- the layout

abbrev pub record_size : ℕ
record_size = 32

abbrev pub degree_at : ℕ
degree_at = 0

abbrev pub row_at : ℕ
row_at = 1

abbrev pub tail_at : ℕ
tail_at = 2

abbrev pub conjugate_at : ℕ
conjugate_at = 8

abbrev pub inverse_at : ℕ
inverse_at = 16

abbrev pub table_at : ℕ
table_at = 24

abbrev pub byte_size : ℕ
byte_size = 1

abbrev pub tail_size : ℕ
tail_size = 6

abbrev pub word_size : ℕ
word_size = 8

-- ---- numbers

unfoldable pub bytes_of : (k v : ℕ) → List ℕ
bytes_of zero v = []
bytes_of (suc k) v = v % 256 ∷ bytes_of k (v / 256)

unfoldable pub number_in : List ℕ → ℕ
number_in [] = 0
number_in (b ∷ bs) = b + 256 * number_in bs

-- ---- records

-- "degree n", "row number i", "f without its term x^n", "conjugate row", "inverse row", "table row"
unfoldable pub record_bytes : (n i tail conjugate inverse table : ℕ) → List ℕ
record_bytes n i tail conjugate inverse table =
    bytes_of byte_size n ++ bytes_of byte_size i ++ bytes_of tail_size tail ++ bytes_of word_size conjugate ++ bytes_of word_size inverse ++ bytes_of word_size table

-- record i has row i of each of the three
unfoldable pub records_to : (k n tail : ℕ) (conjugate inverse table : List ℕ) → List ℕ
records_to zero n tail C I T = []
records_to (suc k) n tail C I T = records_to k n tail C I T ++ record_bytes n k tail (get_or C k 0) (get_or I k 0) (get_or T k 0)

-- "f without its term x^n"
abbrev pub tail_of : (f n : ℕ) → ℕ
tail_of f n = f - 2 ^ n

unfoldable pub sheet_bytes : (f n a : ℕ) → List ℕ
sheet_bytes f n a = records_to n n (tail_of f n) (conjugates f n a) (inverse_rows f n a) (table_rows f n a)

-- ---- a sheet as it stands

-- the number of whole records
abbrev pub record_count : (sheet : List ℕ) → ℕ
record_count sheet = length sheet / record_size

unfoldable pub column_in : (sheet : List ℕ) (i at size : ℕ) → ℕ
column_in sheet i at size = number_in (take size (drop (record_size * i + at) sheet))

abbrev pub degree_in : (sheet : List ℕ) (i : ℕ) → ℕ
degree_in sheet i = column_in sheet i degree_at byte_size

abbrev pub row_in : (sheet : List ℕ) (i : ℕ) → ℕ
row_in sheet i = column_in sheet i row_at byte_size

abbrev pub tail_in : (sheet : List ℕ) (i : ℕ) → ℕ
tail_in sheet i = column_in sheet i tail_at tail_size

abbrev pub conjugate_in : (sheet : List ℕ) (i : ℕ) → ℕ
conjugate_in sheet i = column_in sheet i conjugate_at word_size

abbrev pub inverse_in : (sheet : List ℕ) (i : ℕ) → ℕ
inverse_in sheet i = column_in sheet i inverse_at word_size

abbrev pub table_in : (sheet : List ℕ) (i : ℕ) → ℕ
table_in sheet i = column_in sheet i table_at word_size

-- the rows of one column, as many as there are records
unfoldable pub rows_in : (sheet : List ℕ) (at : ℕ) → List ℕ
rows_in sheet at = listed (record_count sheet) (λ i. column_in sheet i at word_size)

abbrev pub conjugate_rows_in : (sheet : List ℕ) → List ℕ
conjugate_rows_in sheet = rows_in sheet conjugate_at

abbrev pub inverse_rows_in : (sheet : List ℕ) → List ℕ
inverse_rows_in sheet = rows_in sheet inverse_at

abbrev pub table_rows_in : (sheet : List ℕ) → List ℕ
table_rows_in sheet = rows_in sheet table_at

unfoldable pub record_at : (sheet : List ℕ) (i : ℕ) → List ℕ
record_at sheet i = take record_size (drop (record_size * i) sheet)

-- the polynomial that record 0 names
abbrev pub polynomial_in : (sheet : List ℕ) → ℕ
polynomial_in sheet = 2 ^ record_count sheet + tail_in sheet 0
