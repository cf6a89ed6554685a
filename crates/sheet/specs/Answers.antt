-- What the calls on sheets answer: a Result, the documents' numbers for each of its cases, and the final state of lent memory.
-- Definitions alone.
--
--   Issue                         the documents' numbers for what build and reading answer
--   issued_of v s, issue_of v s     the case, and the numbers, that an order's verdict gives
--   summary_of f n a               "Build and reading answer n, complexity and grade."
--   element_in sheet word          the remainder of a word modulo the sheet's f, which `to_normal` converts
--   to_polynomial, to_normal        the two conversions, by the rows as they stand
--   through_table                  the product, by the table as it stands
--   inverse_through, quotient_through   the inverse and the quotient, by the table as it stands
--   .._answer, .._report            the calls, as functions of their inputs
--   built_buffer, .._list          what the lent buffer and list hold at the end
--
-- Assumes nothing.
use Rattle.std.specs.Prelude.{List, ◌++◌, map, ℕ, length, drop}
use Rattle.gf2.specs.Poly.{degree, rem}
use Rattle.refusals.specs.Verdicts.{fault_number, Verdict, clear, refuse, first_of}
use Rattle.refusals.specs.Answers.{Report, answer_of, left, report_of, value_of, checked_of}
use Rattle.rows.specs.Rows.{comb}
use Rattle.normal.specs.Normal.{table_rows, complexity}
use Rattle.normal.specs.TableProduct.{table_product}
use Rattle.normal.specs.Powers.{inverse_of, quotient_of}
use Rattle.normal.specs.Grades.{grade_of, grade_number}
use Rattle.sheet.specs.Record.{record_count, conjugate_in, polynomial_in, conjugate_rows_in, inverse_rows_in, table_rows_in, sheet_bytes}
use Rattle.sheet.specs.Orders.{build_order, read_order, polynomial_order, normal_order, times_order, inverse_order, quotient_order, polynomial_list_order, normal_list_order}
use Rattle.sheet.specs.declared.answer.Summary.{Summary}
use Rattle.std.specs.Prelude.{Result, Ok, Err}
use Rattle.refusals.specs.Answers.{Checked}
use Rattle.refusals.specs.declared.answer.Refusal.{Refusal}

-- ---- build and reading

pub record Issue : Type 0 where
  pub number : ℕ
  pub place : ℕ
  pub degree : ℕ
  pub complexity : ℕ
  pub grade : ℕ

-- "Done is 0 with place 0." "A refusal's other values are zero"
unfoldable pub issue_of : Verdict → Summary → Issue
issue_of clear s = record { number = 0; place = 0; degree = s.degree; complexity = s.complexity; grade = grade_number s.grade }
issue_of (refuse k p) s = record { number = fault_number k; place = p; degree = 0; complexity = 0; grade = 0 }

abbrev pub issued_of : Verdict → Summary → Result Summary Refusal
issued_of v s = answer_of Err (Ok s) v

unfoldable pub issued_report : Result Summary Refusal → Issue
issued_report (Ok s) = record { number = 0; place = 0; degree = s.degree; complexity = s.complexity; grade = grade_number s.grade }
issued_report (Err r) = record { number = fault_number r.fault; place = r.place; degree = 0; complexity = 0; grade = 0 }

-- "Build and reading answer n, complexity and grade": of f, of degree n, the element a and its table
abbrev pub summary_with : (f n a : ℕ) (table : List ℕ) → Summary
summary_with f n a table = record { degree = n; complexity = complexity table; grade = grade_of f n a (complexity table) }

unfoldable pub summary_of : (f n a : ℕ) → Summary
summary_of f n a = summary_with f n a (table_rows f n a)

unfoldable pub build_answer : (f a room : ℕ) → Result Summary Refusal
build_answer f a room = issued_of (first_of (build_order f a room)) (summary_of f (degree f) a)

unfoldable pub build_report : (f a room : ℕ) → Issue
build_report f a room = issue_of (first_of (build_order f a room)) (summary_of f (degree f) a)

-- bytes written at a buffer's front, and the others as they came: "The builder writes the first 32n bytes of the lent buffer and no others."
abbrev pub at_front : (bytes buffer : List ℕ) → List ℕ
at_front bytes buffer = bytes ++ drop (length bytes) buffer

unfoldable pub built_buffer : (f a : ℕ) → List ℕ → List ℕ
built_buffer f a buffer = left (first_of (build_order f a (length buffer))) (at_front (sheet_bytes f (degree f) a) buffer) buffer

-- the summary of the polynomial and the element that a sheet names
abbrev pub summary_in : (sheet : List ℕ) → Summary
summary_in sheet = summary_of (polynomial_in sheet) (record_count sheet) (conjugate_in sheet 0)

unfoldable pub read_answer : (sheet : List ℕ) → Result Summary Refusal
read_answer sheet = issued_of (first_of (read_order sheet)) (summary_in sheet)

unfoldable pub read_report : (sheet : List ℕ) → Issue
read_report sheet = issue_of (first_of (read_order sheet)) (summary_in sheet)

-- ---- converting and multiplying: "use the rows as they stand and don't rebuild them"

-- "Converting to polynomial notation sums the conjugate rows picked by the bits"
unfoldable pub to_polynomial : (sheet : List ℕ) (coordinates : ℕ) → ℕ
to_polynomial sheet coordinates = comb (conjugate_rows_in sheet) coordinates

unfoldable pub polynomial_answer : (sheet : List ℕ) (coordinates : ℕ) → Result ℕ Refusal
polynomial_answer sheet coordinates = value_of (first_of (polynomial_order sheet coordinates)) (to_polynomial sheet coordinates)

unfoldable pub polynomial_report : (sheet : List ℕ) (coordinates : ℕ) → Report
polynomial_report sheet coordinates = report_of (first_of (polynomial_order sheet coordinates)) (to_polynomial sheet coordinates)

-- "its remainder modulo f .. likewise with the sheet's f" (document 02, §6): the element that a word stands for. The sheet's f is 2^n plus
-- its polynomial bytes, accepted or not.
unfoldable pub element_in : (sheet : List ℕ) (word : ℕ) → ℕ
element_in sheet word = rem (polynomial_in sheet) (record_count sheet) word

-- "converting to normal coordinates sums the inverse rows picked by the bits" of that element
unfoldable pub to_normal : (sheet : List ℕ) (word : ℕ) → ℕ
to_normal sheet word = comb (inverse_rows_in sheet) (element_in sheet word)

unfoldable pub normal_answer : (sheet : List ℕ) (word : ℕ) → Result ℕ Refusal
normal_answer sheet word = value_of (first_of (normal_order sheet)) (to_normal sheet word)

unfoldable pub normal_report : (sheet : List ℕ) (word : ℕ) → Report
normal_report sheet word = report_of (first_of (normal_order sheet)) (to_normal sheet word)

-- "Bit k of a product of normal coordinates a and b is the sum modulo 2, over all i and j, of .."
unfoldable pub through_table : (sheet : List ℕ) (a b : ℕ) → ℕ
through_table sheet a b = table_product (record_count sheet) (table_rows_in sheet) a b

unfoldable pub times_answer : (sheet : List ℕ) (a b : ℕ) → Result ℕ Refusal
times_answer sheet a b = value_of (first_of (times_order sheet a b)) (through_table sheet a b)

unfoldable pub times_report : (sheet : List ℕ) (a b : ℕ) → Report
times_report sheet a b = report_of (first_of (times_order sheet a b)) (through_table sheet a b)

-- ---- dividing (document 02, §1): "On other well-shaped sheets the same steps give the answer."

-- "The inverse is the power for n-1, rotated once"
unfoldable pub inverse_through : (sheet : List ℕ) (a : ℕ) → ℕ
inverse_through sheet a = inverse_of (record_count sheet) (table_rows_in sheet) a

unfoldable pub inverse_answer : (sheet : List ℕ) (a : ℕ) → Result ℕ Refusal
inverse_answer sheet a = value_of (first_of (inverse_order sheet a)) (inverse_through sheet a)

unfoldable pub inverse_report : (sheet : List ℕ) (a : ℕ) → Report
inverse_report sheet a = report_of (first_of (inverse_order sheet a)) (inverse_through sheet a)

-- "a quotient is the dividend times the inverse"
unfoldable pub quotient_through : (sheet : List ℕ) (dividend divisor : ℕ) → ℕ
quotient_through sheet dividend divisor = quotient_of (record_count sheet) (table_rows_in sheet) dividend divisor

unfoldable pub quotient_answer : (sheet : List ℕ) (dividend divisor : ℕ) → Result ℕ Refusal
quotient_answer sheet dividend divisor = value_of (first_of (quotient_order sheet dividend divisor)) (quotient_through sheet dividend divisor)

unfoldable pub quotient_report : (sheet : List ℕ) (dividend divisor : ℕ) → Report
quotient_report sheet dividend divisor = report_of (first_of (quotient_order sheet dividend divisor)) (quotient_through sheet dividend divisor)

-- ---- lists: every value converted, or the list as it came

unfoldable pub polynomial_list_answer : (sheet from : List ℕ) (room : ℕ) → Checked
polynomial_list_answer sheet from room = checked_of (first_of (polynomial_list_order sheet from room))

unfoldable pub polynomial_list_report : (sheet from : List ℕ) (room : ℕ) → Report
polynomial_list_report sheet from room = report_of (first_of (polynomial_list_order sheet from room)) 0

unfoldable pub polynomial_list : (sheet from into : List ℕ) → List ℕ
polynomial_list sheet from into = left (first_of (polynomial_list_order sheet from (length into))) (map (to_polynomial sheet) from) into

unfoldable pub normal_list_answer : (sheet from : List ℕ) (room : ℕ) → Checked
normal_list_answer sheet from room = checked_of (first_of (normal_list_order sheet from room))

unfoldable pub normal_list_report : (sheet from : List ℕ) (room : ℕ) → Report
normal_list_report sheet from room = report_of (first_of (normal_list_order sheet from room)) 0

unfoldable pub normal_list : (sheet from into : List ℕ) → List ℕ
normal_list sheet from into = left (first_of (normal_list_order sheet from (length into))) (map (to_normal sheet) from) into
