-- The laws of `specs/Examples.antt` that a wrong definition breaks, and what rests on them. The head there tells of both files.
-- Assumes nothing.
use Rattle.std.specs.Prelude.{◌≡◌, refl, [], ◌∷◌, ◌++◌, ℕ, take, drop, set}
use Rattle.std.specs.Int.Count.{ones, ones_in}
use Rattle.gf2.specs.Poly.{◌⊕◌, digits, digits_from, product, degree, rem, reduce, mul_mod, divides}
use Rattle.gf2.specs.Bounded.{some, first}
use Rattle.refusals.specs.Verdicts.{first_of}
use Rattle.field.specs.Accepted.{degree_outside, divided, strays}
use Rattle.field.specs.Field.{squared, pow_mod}
use Rattle.field.specs.Refusals.{too_large_lem}
use Rattle.rows.specs.Bits.{bit_of}
use Rattle.rows.specs.Rows.{comb, independent}
use Rattle.normal.specs.Normal.{conjugates, conjugates_from, normal, coordinates, listed, table_rows, complexity}
use Rattle.normal.specs.Grades.{kind_of, grade_of, grade_number}
use Rattle.sheet.specs.Orders.{same}
use Rattle.sheet.specs.Answers.{Issue, issue_of, summary_of}
use Rattle.matrices.specs.Matrices.{matrix_entry, in_order, line_end, line_bytes, matrix_bytes, text_bytes, matrices_text}
use Rattle.matrices.specs.Orders.{count_of, common, common_lines}
use Rattle.matrices.specs.Answers.{read_text_report}
use Rattle.matrices.specs.Examples.{Placed, text_of_four, text_of_three, text_of_two}

-- ---- three texts

pub seven_and-two : matrices_text 7 2 2 ≡ text_of_two
unfolding matrices_text text_bytes matrix_bytes line_bytes in_order listed matrix_entry bit_of coordinates first conjugates conjugates_from squared comb mul_mod rem reduce product digits digits_from ◌⊕◌
seven_and-two = refl

pub eleven_and_three : matrices_text 11 3 3 ≡ text_of_three
unfolding matrices_text text_bytes matrix_bytes line_bytes in_order listed matrix_entry bit_of coordinates first conjugates conjugates_from squared comb mul_mod rem reduce product digits digits_from ◌⊕◌
eleven_and_three = refl

pub nineteen_and_eight : matrices_text 19 4 8 ≡ text_of_four
unfolding matrices_text text_bytes matrix_bytes line_bytes in_order listed matrix_entry bit_of coordinates first conjugates conjugates_from squared comb mul_mod rem reduce product digits digits_from ◌⊕◌
nineteen_and_eight = refl

-- ---- places

-- another digit; a byte that is none; a digit left out; one too many; byte 13 before byte 10
pub wrong_lines : Placed (set text_of_three 5 49) 1 × Placed (set text_of_three 17 50) 5 × Placed (take 6 text_of_three ++ drop 7 text_of_three) 1
    × Placed (take 3 text_of_three ++ (48 ∷ drop 3 text_of_three)) 0 × Placed (take 11 text_of_three ++ (13 ∷ drop 11 text_of_three)) 2
unfolding common_lines common count_of
wrong_lines = rw eleven_and_three (refl, refl, refl, refl, refl)

-- no text; a line whose digits are there and whose end is not; the last byte 10, and so the last line; the first empty line
pub missing_lines : Placed [] 0 × Placed (take 7 text_of_three) 1 × Placed (take 38 text_of_three) 11 × Placed (take 12 text_of_three ++ drop 13 text_of_three) 3
unfolding common_lines common count_of
missing_lines = rw eleven_and_three (refl, refl, refl, refl)

-- the first empty line twice; after the end a byte that ends no line, one that does, and the whole text again
pub extra_lines : Placed (take 13 text_of_three ++ (line_end ∷ drop 13 text_of_three)) 4
    × Placed (text_of_three ++ (48 ∷ [])) 12 × Placed (text_of_three ++ (line_end ∷ [])) 12 × Placed (text_of_three ++ text_of_three) 12
unfolding common_lines common count_of
extra_lines = rw eleven_and_three (refl, refl, refl, refl)

-- lines of two digits
pub other-degree : Placed text_of_two 0
unfolding common_lines common count_of
other-degree = rw eleven_and_three refl

-- ---- answers

abbrev unmatched : (place : ℕ) → Issue
unmatched p = record { number = 14; place = p; degree = 0; complexity = 0; grade = 0 }

-- done as build is; 14 for another digit, and for a byte after the end; and 5 comes before 14
pub answered : (read_text_report 11 3 text_of_three ≡ record { number = 0; place = 0; degree = 3; complexity = 5; grade = 2 })
    × (read_text_report 11 3 (set text_of_three 5 49) ≡ unmatched 1) × (read_text_report 11 3 (text_of_three ++ (48 ∷ [])) ≡ unmatched 12)
    × (read_text_report 11 2 [] ≡ record { number = 5; place = 0; degree = 0; complexity = 0; grade = 0 })
unfolding read_text_report issue_of summary_of first_of same common_lines common count_of too_large_lem degree_outside divided strays divides degree some first normal independent conjugates conjugates_from squared table_rows listed coordinates comb mul_mod rem reduce product digits digits_from ◌⊕◌ complexity ones ones_in grade_of kind_of grade_number pow_mod matrices_text text_bytes matrix_bytes line_bytes in_order matrix_entry bit_of
answered = (refl, refl, refl, refl)
