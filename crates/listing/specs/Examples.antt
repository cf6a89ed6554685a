-- Document 01's listings: the sheet of f = 11, element 3, and a sheet that reading refuses; and document 02's second lines, §5.
-- Assumes nothing.
use Rattle.std.specs.Prelude.{◌≡◌, refl, List, [], ◌∷◌, ◌++◌, ℕ, ◌+◌, set}
use Rattle.std.specs.Int.Count.{ones, ones_in}
use Rattle.gf2.specs.Poly.{◌⊕◌, digits_from, digits, product, degree, reduce, rem, mul_mod, divides}
use Rattle.gf2.specs.Bounded.{some, first}
use Rattle.field.specs.Field.{squared, pow_mod}
use Rattle.field.specs.Accepted.{degree_outside, divided, strays}
use Rattle.refusals.specs.Verdicts.{first_of}
use Rattle.refusals.specs.Answers.{answer_of}
use Rattle.field.specs.Refusals.{too_large_lem}
use Rattle.rows.specs.Rows.{comb, independent}
use Rattle.normal.specs.Normal.{conjugates_from, conjugates, normal, dependency, coordinates, listed, inverse_rows, table_rows, complexity}
use Rattle.normal.specs.Grades.{kind_of, grade_of, grade_number}
use Rattle.sheet.specs.Record.{bytes_of, number_in, record_bytes, records_to, sheet_bytes, column_in, record_at, tail_of}
use Rattle.sheet.specs.Orders.{bad_length, misplaced, oversized, record_rules, same, differ_rules}
use Rattle.sheet.specs.Answers.{summary_of, read_answer}
use Rattle.divisors.specs.Smallest.{smallest_divisor}
use Rattle.causes.specs.Causes.{number_of, first_field_lem, difference_in, polynomial_cause, basis_cause, sheet_cause, cause_of, why_answer}
use Rattle.listing.specs.Text.{space, newline, complexity_word, grade_word, refused_word, conjugate_word, inverse_word, table_word, field_word, places_by, decimal, number_then, row_line, row_lines, last_line, refused_line, difference_line_lem, cause_line, listing_by, listing_of}

-- a digit's ASCII code
abbrev digit : ℕ → ℕ
digit d = 48 + d

-- four digits, one space between
abbrev four_digits : (i c v t : ℕ) → List ℕ
four_digits i c v t = digit i ∷ space ∷ digit c ∷ space ∷ digit v ∷ space ∷ digit t ∷ newline ∷ []

-- "0 3 7 2", "1 5 6 5", "2 7 5 6", "complexity 5 grade 2"
pub of_eleven_and_three : listing_of (sheet_bytes 11 3 3)
    ≡ four_digits 0 3 7 2 ++ four_digits 1 5 6 5 ++ four_digits 2 7 5 6
    ++ (99 ∷ 111 ∷ 109 ∷ 112 ∷ 108 ∷ 101 ∷ 120 ∷ 105 ∷ 116 ∷ 121 ∷ 32 ∷ 53 ∷ 32 ∷ 103 ∷ 114 ∷ 97 ∷ 100 ∷ 101 ∷ 32 ∷ 50 ∷ 10 ∷ [])
unfolding listing_of listing_by row_lines row_line last_line complexity_word grade_word number_then decimal places_by read_answer answer_of summary_of first_of bad_length misplaced oversized record_rules same differ_rules record_at too_large_lem column_in number_in bytes_of record_bytes records_to sheet_bytes degree_outside divided strays divides degree some first normal independent conjugates conjugates_from squared inverse_rows table_rows listed coordinates comb mul_mod rem reduce product digits digits_from ◌⊕◌ complexity ones ones_in grade_of kind_of grade_number pow_mod
of_eleven_and_three = refl

-- "refused 7 0"
pub of_nothing : listing_of [] ≡ 114 ∷ 101 ∷ 102 ∷ 117 ∷ 115 ∷ 101 ∷ 100 ∷ 32 ∷ 55 ∷ 32 ∷ 48 ∷ 10 ∷ []
unfolding listing_of listing_by refused_line refused_word number_then decimal places_by read_answer answer_of first_of bad_length why_answer cause_of sheet_cause basis_cause polynomial_cause cause_line
of_nothing = refl

-- ---- the second line (document 02, §5)

-- "refused", a space, the number, a space, the place: of one digit, and of 10
abbrev refused_with : (number place : ℕ) → List ℕ
refused_with k p = 114 ∷ 101 ∷ 102 ∷ 117 ∷ 115 ∷ 101 ∷ 100 ∷ space ∷ digit k ∷ space ∷ digit p ∷ newline ∷ []

abbrev refused_ten : (place : ℕ) → List ℕ
refused_ten p = 114 ∷ 101 ∷ 102 ∷ 117 ∷ 115 ∷ 101 ∷ 100 ∷ space ∷ 49 ∷ 48 ∷ space ∷ digit p ∷ newline ∷ []

-- record i, a word, the stored number and the right one
abbrev ten_lines : (i : ℕ) (word : List ℕ) (stored right : ℕ) → List ℕ
ten_lines i word stored right =
    refused_ten i ++ (digit i ∷ space ∷ []) ++ word ++ (space ∷ digit stored ∷ space ∷ digit right ∷ newline ∷ [])

abbrev conjugate_letters : List ℕ
conjugate_letters = 99 ∷ 111 ∷ 110 ∷ 106 ∷ 117 ∷ 103 ∷ 97 ∷ 116 ∷ 101 ∷ []

abbrev inverse_letters : List ℕ
inverse_letters = 105 ∷ 110 ∷ 118 ∷ 101 ∷ 114 ∷ 115 ∷ 101 ∷ []

abbrev table_letters : List ℕ
table_letters = 116 ∷ 97 ∷ 98 ∷ 108 ∷ 101 ∷ []

-- a sheet of good shape that names f, of degree n, and the element a, and has zeros for all other rows
abbrev named : (f n a : ℕ) → List ℕ
named f n a = records_to n n (tail_of f n) (a ∷ []) [] []

-- 2: f = 5, which 3 divides; x^8 + x^2 + 1, which 19 divides. 5: element 0; f = 11 and element 2, where 2, 4 and 6 sum to zero
pub numbers_behind : (listing_of (named 5 2 1) ≡ refused_with 2 0 ++ (digit 3 ∷ newline ∷ []))
    × (listing_of (named 261 8 1) ≡ refused_with 2 0 ++ (digit 1 ∷ digit 9 ∷ newline ∷ []))
    × (listing_of (named 11 3 0) ≡ refused_with 5 0 ++ (digit 1 ∷ newline ∷ []))
    × (listing_of (named 11 3 2) ≡ refused_with 5 0 ++ (digit 7 ∷ newline ∷ []))
unfolding listing_of listing_by refused_line cause_line difference_line_lem refused_word field_word conjugate_word inverse_word table_word number_then decimal places_by read_answer answer_of summary_of why_answer cause_of sheet_cause basis_cause polynomial_cause difference_in first_field_lem number_of smallest_divisor dependency first_of bad_length misplaced oversized record_rules same differ_rules record_at too_large_lem column_in number_in bytes_of record_bytes records_to sheet_bytes divided strays divides degree some first normal independent conjugates conjugates_from squared inverse_rows table_rows listed coordinates comb mul_mod rem reduce product digits digits_from ◌⊕◌
numbers_behind = (refl, refl, refl, refl)

-- the sheet of f = 11, element 3, with one byte changed
abbrev damaged : (at byte : ℕ) → List ℕ
damaged at byte = set (sheet_bytes 11 3 3) at byte

-- each single field in turn. Another conjugate in record 0 is another element, 5, and its sheet has 7 in record 1
pub fields_behind : (listing_of (damaged 8 5) ≡ ten_lines 1 conjugate_letters 5 7)
    × (listing_of (damaged 16 6) ≡ ten_lines 0 inverse_letters 6 7)
    × (listing_of (damaged 24 3) ≡ ten_lines 0 table_letters 3 2)
    × (listing_of (damaged 40 4) ≡ ten_lines 1 conjugate_letters 4 5)
    × (listing_of (damaged 48 7) ≡ ten_lines 1 inverse_letters 7 6)
    × (listing_of (damaged 56 1) ≡ ten_lines 1 table_letters 1 5)
    × (listing_of (damaged 72 6) ≡ ten_lines 2 conjugate_letters 6 7)
    × (listing_of (damaged 80 4) ≡ ten_lines 2 inverse_letters 4 5)
    × (listing_of (damaged 88 2) ≡ ten_lines 2 table_letters 2 6)
unfolding listing_of listing_by refused_line cause_line difference_line_lem refused_word field_word conjugate_word inverse_word table_word number_then decimal places_by read_answer answer_of summary_of why_answer cause_of sheet_cause basis_cause polynomial_cause difference_in first_field_lem number_of smallest_divisor dependency first_of bad_length misplaced oversized record_rules same differ_rules record_at too_large_lem column_in number_in bytes_of record_bytes records_to sheet_bytes divided strays divides degree some first normal independent conjugates conjugates_from squared inverse_rows table_rows listed coordinates comb mul_mod rem reduce product digits digits_from ◌⊕◌
fields_behind = (refl, refl, refl, refl, refl, refl, refl, refl, refl)
