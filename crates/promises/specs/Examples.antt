-- The small numbers of document 01 ("Small numbers to hold it against"), of what the calls answer; those of division (document 02, §1), of its
-- definitions on rows that are written out; those of grades (§3); two texts of matrices (§4); and causes (§5).
--
--   Issued, Refused, Converted, Multiplied, Rejected   what a line says of the calls
--   examples          the twelve lines marked P, in one table
--   bytes, damaged    the sheet file's own line: a record in bytes, and the refusals of two sheets that lost a record
--   inverses          all inverses on the sheets of 7 and 2, of 11 and 3, and of 19 and 8, whose tables `examples` has
--   quotients         on these, every quotient times its divisor is the dividend, by conversion and the product modulo f
--   factors_in_order  on tables that no builder writes: which factor stands first
--   second_kind, both_kinds, cubes   grades at degrees 6 and 18, and why degree 2 has one of its own
--   texts             the texts of 7 and 2, and of 11 and 3, in full, as writing leaves them; a third one, and texts that are not right:
--                     `Examples` in `matrices`
--   causes_told, causes_numbered   what lies behind 2, 5 and 10; the lister's second lines, byte for byte: `Examples` in `listing`
--
-- Assumes nothing.
use Rattle.std.specs.Prelude.{◌≡◌, refl, Bool, false, not, ◌&&◌, List, [], ◌∷◌, ◌++◌, ℕ, ◌+◌, ◌-◌, ◌*◌, ◌^◌, ltb, eqb, drop, replicate, set}
use Rattle.std.specs.Int.Count.{ones, ones_in}
use Rattle.gf2.specs.Poly.{◌⊕◌, digits_from, digits, product, degree, reduce, rem, mul_mod, divides}
use Rattle.gf2.specs.Bounded.{some, first}
use Rattle.field.specs.Field.{squared, pow_mod, trace_to, trace}
use Rattle.field.specs.Accepted.{degree_outside, divided, strays}
use Rattle.refusals.specs.Verdicts.{first_of}
use Rattle.field.specs.Refusals.{too_large_lem}
use Rattle.refusals.specs.Answers.{Report, report_of, left}
use Rattle.field.specs.Answers.{check_report, multiply_report, square_report, trace_report}
use Rattle.rows.specs.Bits.{bit_of}
use Rattle.rows.specs.Rows.{comb, independent}
use Rattle.normal.specs.Normal.{conjugates_from, conjugates, normal, dependency, coordinates, listed, inverse_rows, table_rows, complexity}
use Rattle.normal.specs.Grades.{kind_of, grade_of, grade_number}
use Rattle.normal.specs.TableProduct.{rotate, rotated_by, total, product_bit, table_product}
use Rattle.normal.specs.Powers.{power_within, power_of, inverse_of, quotient_of}
use Rattle.sheet.specs.Record.{record_size, conjugate_rows_in, inverse_rows_in, table_rows_in, bytes_of, number_in, record_bytes, records_to, sheet_bytes, column_in, rows_in, record_at}
use Rattle.sheet.specs.Orders.{bad_length, misplaced, oversized, same, record_rules, differ_rules, value_rules}
use Rattle.sheet.specs.Answers.{Issue, issue_of, summary_of, build_report, built_buffer, read_report, to_polynomial, polynomial_report, element_in, to_normal, normal_report, through_table, times_report}
use Rattle.divisors.specs.Smallest.{smallest_divisor}
use Rattle.causes.specs.Causes.{number_of, first_field_lem, difference_in, polynomial_cause, basis_cause, sheet_cause, cause_of, why_report, why_check_answer, why_build_answer, field_number, cause_report, reason_of}
use Rattle.causes.specs.declared.answer.Cause.TheVariants as cause
use Rattle.matrices.specs.Matrices.{matrix_entry, in_order, line_bytes, matrix_bytes, text_bytes, matrices_text, text_size}
use Rattle.matrices.specs.Answers.{written_text}
use Rattle.matrices.specs.Examples.{text_of_two, text_of_three}

-- a buffer of 32n bytes, all zero, in which the sheet is built
abbrev blank : (f : ℕ) → List ℕ
blank f = replicate (record_size * degree f) 0

-- what the buffer holds once the sheet of f and a is built
abbrev pub sheet_of_lem : (f a : ℕ) → List ℕ
sheet_of_lem f a = built_buffer f a (blank f)

abbrev done : (value : ℕ) → Report
done x = record { number = 0; place = 0; value = x }

abbrev refused : (number place : ℕ) → Report
refused k p = record { number = k; place = p; value = 0 }

abbrev unissued : (number place : ℕ) → Issue
unissued k p = record { number = k; place = p; degree = 0; complexity = 0; grade = 0 }

-- the sheet of f and a has these rows, this complexity and this grade
abbrev pub Issued : (f a : ℕ) (conjugates inverse table : List ℕ) (complexity grade : ℕ) → Type 0
Issued f a C I T k g =
    (build_report f a (record_size * degree f) ≡ record { number = 0; place = 0; degree = degree f; complexity = k; grade = g })
    × (conjugate_rows_in (sheet_of_lem f a) ≡ C) × (inverse_rows_in (sheet_of_lem f a) ≡ I) × (table_rows_in (sheet_of_lem f a) ≡ T)

-- no sheet of f and a is built, for this reason
abbrev pub Refused : (f a number : ℕ) → Type 0
Refused f a k = build_report f a (record_size * degree f) ≡ unissued k 0

-- on the sheet of f and a the element y has these coordinates
abbrev pub Converted : (f a y coordinates : ℕ) → Type 0
Converted f a y v = normal_report (sheet_of_lem f a) y ≡ done v

-- on the sheet of f and a these coordinates have this product, which is the element y
abbrev pub Multiplied : (f a left right product y : ℕ) → Type 0
Multiplied f a u v p y = (times_report (sheet_of_lem f a) u v ≡ done p) × (polynomial_report (sheet_of_lem f a) p ≡ done y)

-- f is not accepted, for this reason
abbrev pub Rejected : (f number : ℕ) → Type 0
Rejected f k = check_report f ≡ refused k 0

-- ---- the table: its figures are the document's (the grades of the sheets of 19 stand with its searches), but for the grade of the sheet of
-- 7, which is document 02's (§3), and the inverse rows of 19 and 9, which it does not give

pub examples : Issued 7 2 (2 ∷ 3 ∷ []) (3 ∷ 1 ∷ []) (2 ∷ 3 ∷ []) 3 3
    × Refused 7 1 5
    × Refused 7 0 5
    × Refused 7 4 4
    × Issued 11 3 (3 ∷ 5 ∷ 7 ∷ []) (7 ∷ 6 ∷ 5 ∷ []) (2 ∷ 5 ∷ 6 ∷ []) 5 2
    × Refused 11 2 5
    × Converted 11 3 6 3
    × Multiplied 11 3 1 2 5 4
    × Issued 19 8 (8 ∷ 12 ∷ 15 ∷ 10 ∷ []) (15 ∷ 9 ∷ 3 ∷ 1 ∷ []) (2 ∷ 8 ∷ 15 ∷ 4 ∷ []) 7 1
    × Issued 19 9 (9 ∷ 13 ∷ 14 ∷ 11 ∷ []) (15 ∷ 9 ∷ 3 ∷ 14 ∷ []) (2 ∷ 11 ∷ 5 ∷ 13 ∷ []) 9 0
    × Rejected 5 2
    × Rejected 3 1
unfolding build_report built_buffer left check_report polynomial_report normal_report times_report report_of issue_of summary_of to_polynomial element_in to_normal through_table first_of bad_length misplaced oversized record_rules value_rules too_large_lem column_in number_in rows_in bytes_of record_bytes records_to sheet_bytes degree_outside divided strays divides degree some first normal independent conjugates conjugates_from squared inverse_rows table_rows listed coordinates comb mul_mod rem reduce product digits digits_from ◌⊕◌ complexity ones ones_in grade_of kind_of grade_number pow_mod table_product product_bit total bit_of
examples = ((refl, refl, refl, refl), refl, refl, refl, (refl, refl, refl, refl), refl, refl, (refl, refl), (refl, refl, refl, refl), (refl, refl, refl, refl), refl, refl)

-- ---- the line on the sheet file

-- "Sheet of f = 7, element 2, record 1 in hex: 02 01 03, five 00, then 03, 01, 03, each followed by seven 00."
abbrev zeros : ℕ → List ℕ
zeros k = replicate k 0

pub bytes : record_at (sheet_of_lem 7 2) 1 ≡ (2 ∷ 1 ∷ 3 ∷ zeros 5) ++ (3 ∷ zeros 7) ++ (1 ∷ zeros 7) ++ (3 ∷ zeros 7)
unfolding record_at built_buffer left first_of too_large_lem bytes_of record_bytes records_to sheet_bytes degree_outside divided strays divides degree some first normal independent conjugates conjugates_from squared inverse_rows table_rows listed coordinates comb mul_mod rem reduce product digits digits_from ◌⊕◌
bytes = refl

-- "The same sheet without record 0: refusal 7. The sheet of 11 and 3 without its middle record: refusal 8, place 0."
pub damaged : (read_report (drop record_size (sheet_of_lem 7 2)) ≡ unissued 7 0)
    × (read_report (record_at (sheet_of_lem 11 3) 0 ++ record_at (sheet_of_lem 11 3) 2) ≡ unissued 8 0)
unfolding read_report issue_of record_at built_buffer left first_of bad_length misplaced record_rules column_in number_in too_large_lem bytes_of record_bytes records_to sheet_bytes degree_outside divided strays divides degree some first normal independent conjugates conjugates_from squared inverse_rows table_rows listed coordinates comb mul_mod rem reduce product digits digits_from ◌⊕◌
damaged = (refl, refl)

-- ---- division

pub inverses : (listed 3 (λ i. inverse_of 2 (2 ∷ 3 ∷ []) (i + 1)) ≡ 2 ∷ 1 ∷ 3 ∷ [])
    × (listed 7 (λ i. inverse_of 3 (2 ∷ 5 ∷ 6 ∷ []) (i + 1)) ≡ 3 ∷ 6 ∷ 1 ∷ 5 ∷ 4 ∷ 2 ∷ 7 ∷ [])
    × (listed 15 (λ i. inverse_of 4 (2 ∷ 8 ∷ 15 ∷ 4 ∷ []) (i + 1)) ≡ 4 ∷ 8 ∷ 13 ∷ 1 ∷ 10 ∷ 11 ∷ 12 ∷ 2 ∷ 14 ∷ 5 ∷ 6 ∷ 7 ∷ 3 ∷ 9 ∷ 15 ∷ [])
unfolding listed inverse_of power_of power_within rotate rotated_by table_product product_bit total bit_of
inverses = (refl, refl, refl)

-- some quotient, converted and multiplied by its divisor's element, is not the dividend's element
abbrev astray : (f n : ℕ) (conjugates table : List ℕ) → Bool
astray f n C T = some (2 ^ n) (λ b. some (2 ^ n) (λ v. ltb 0 v && not (eqb (mul_mod f n (comb C (quotient_of n T b v)) (comb C v)) (comb C b))))

pub quotients : (astray 7 2 (2 ∷ 3 ∷ []) (2 ∷ 3 ∷ []) ≡ false) × (astray 11 3 (3 ∷ 5 ∷ 7 ∷ []) (2 ∷ 5 ∷ 6 ∷ []) ≡ false)
    × (astray 19 4 (8 ∷ 12 ∷ 15 ∷ 10 ∷ []) (2 ∷ 8 ∷ 15 ∷ 4 ∷ []) ≡ false)
unfolding some quotient_of inverse_of power_of power_within rotate rotated_by table_product product_bit total bit_of comb mul_mod rem reduce product digits digits_from ◌⊕◌
quotients = (refl, refl, refl)

-- the rotated factor before the other, for even and for odd k, and the dividend before the inverse: the other way round, other numbers
pub factors_in_order : (inverse_of 3 (0 ∷ 0 ∷ 1 ∷ []) 1 ≡ 4) × (inverse_of 4 (0 ∷ 0 ∷ 0 ∷ 1 ∷ []) 3 ≡ 8) × (quotient_of 4 (0 ∷ 0 ∷ 0 ∷ 1 ∷ []) 3 3 ≡ 1)
unfolding quotient_of inverse_of power_of power_within rotate rotated_by table_product product_bit total bit_of
factors_in_order = (refl, refl, refl)

-- ---- elements that arrive unreduced (document 02, §6)

-- modulo 11: 2^64 - 1 is 1, 2^63 is 1, 11 is 0, and 11 + 6 in the field's sum, 13, is 6
pub unreduced : (multiply_report 11 (2 ^ 64 - 1) 13 ≡ done 6) × (square_report 11 13 ≡ done 2) × (trace_report 11 (2 ^ 63) ≡ done 1) × (trace_report 11 11 ≡ done 0)
    × Converted 11 3 13 3 × Converted 11 3 (2 ^ 64 - 1) 7 × Converted 11 3 11 0
unfolding multiply_report square_report trace_report trace trace_to normal_report report_of element_in to_normal built_buffer left first_of bad_length misplaced oversized record_rules too_large_lem column_in number_in rows_in bytes_of record_bytes records_to sheet_bytes degree_outside divided strays divides degree some first normal independent conjugates conjugates_from squared inverse_rows table_rows listed coordinates comb mul_mod rem reduce product digits digits_from ◌⊕◌
unreduced = (refl, refl, refl, refl, refl, refl, refl)

-- ---- grades (document 02, §3)

-- "At degree 6 too: 7 is prime, yet its optimal basis is of the second kind."
pub second_kind : build_report 67 41 (record_size * 6) ≡ record { number = 0; place = 0; degree = 6; complexity = 11; grade = 2 }
unfolding build_report issue_of summary_of first_of too_large_lem degree_outside divided strays divides degree some first normal independent conjugates conjugates_from squared table_rows listed coordinates comb mul_mod rem reduce product digits digits_from ◌⊕◌ complexity ones ones_in grade_of kind_of grade_number pow_mod
second_kind = refl

-- "Both kinds of optimal basis exist at degree 18": the grades of two elements of complexity 35. That they have it is run and compared, in `vectors`.
pub both_kinds : (grade_number (grade_of 262153 18 52434 35) ≡ 1) × (grade_number (grade_of 262153 18 38805 35) ≡ 2)
unfolding grade_of kind_of grade_number pow_mod mul_mod rem reduce product digits digits_from ◌⊕◌
both_kinds = (refl, refl)

-- "At degree 2 both descriptions fit": each of its two normal elements to the power 3 is 1
pub cubes : (pow_mod 7 2 2 3 ≡ 1) × (pow_mod 7 2 3 3 ≡ 1)
unfolding pow_mod mul_mod rem reduce product digits digits_from ◌⊕◌
cubes = (refl, refl)

-- ---- the full set of matrices (document 02, §4)

-- from the sheets that build writes, into buffers of 14 and of 40 bytes: the byte past the second text stays
pub texts : (written_text (sheet_of_lem 7 2) (zeros 14) ≡ text_of_two) × (written_text (sheet_of_lem 11 3) (zeros 40) ≡ text_of_three ++ zeros 1)
unfolding written_text text_size matrices_text text_bytes matrix_bytes line_bytes in_order matrix_entry same differ_rules record_at built_buffer left first_of bad_length misplaced oversized record_rules column_in number_in too_large_lem bytes_of record_bytes records_to sheet_bytes degree_outside divided strays divides degree some first normal independent conjugates conjugates_from squared inverse_rows table_rows listed coordinates comb mul_mod rem reduce product digits digits_from ◌⊕◌ bit_of
texts = (refl, refl)

-- ---- causes (document 02, §5)

-- f = 5, x^8 + x^2 + 1; for f = 11 the element 0, and the element 2, whose conjugates 2, 4 and 6 sum to zero
pub causes_told : (why_check_answer 5 ≡ cause.Divisor 3) × (why_check_answer 261 ≡ cause.Divisor 19) × (why_build_answer 11 0 ≡ cause.Dependency 1) × (why_build_answer 11 2 ≡ cause.Dependency 7)
unfolding why_check_answer why_build_answer cause_of basis_cause polynomial_cause smallest_divisor dependency first_of too_large_lem degree_outside divided strays divides degree some first normal independent conjugates conjugates_from squared comb mul_mod rem reduce product digits digits_from ◌⊕◌
causes_told = (refl, refl, refl, refl)

-- the numbers that C gets for the sheet of f = 11, element 3, and for the same with the inverse row of record 1 changed from 6 to 7
pub causes_numbered : (why_report (sheet_of_lem 11 3) ≡ record { number = 0; place = 0; cause = 0; field = 0; stored = 0; right = 0 })
    × (why_report (set (sheet_of_lem 11 3) 48 7) ≡ record { number = 10; place = 1; cause = 0; field = 2; stored = 7; right = 6 })
unfolding why_report reason_of cause_report sheet_cause basis_cause polynomial_cause difference_in first_field_lem number_of field_number same differ_rules record_at built_buffer left first_of bad_length misplaced oversized record_rules column_in number_in too_large_lem bytes_of record_bytes records_to sheet_bytes degree_outside divided strays divides degree some first normal independent conjugates conjugates_from squared inverse_rows table_rows listed coordinates comb mul_mod rem reduce product digits digits_from ◌⊕◌
causes_numbered = (refl, refl)
