-- The text that the lister prints (document 01, "Lister"; document 02, §5), as a list of bytes. Definitions alone.
--
--   space, newline, .._word  the marks and words, each as its ASCII codes
--   decimal v                a number in decimal
--   number_then v mark        a number in decimal, and the mark after it
--   row_line, row_lines        the line of one row, and of the first k
--   last_line                 the last line
--   refused_line              the line of a sheet that reading refuses
--   cause_line                the line after it that tells the cause, [] where the number and the place say all; `difference_line_lem`: for 10
--   listing_of sheet          what is printed; `listing_by`: by what reading answers
--
-- Assumes nothing.
use Rattle.std.specs.Prelude.{cond, List, [], ◌∷◌, ◌++◌, ℕ, zero, suc, ◌/◌, ltb}
use Rattle.io.specs.Digits.{last_digits}
use Rattle.normal.specs.Grades.{grade_number}
use Rattle.sheet.specs.Record.{record_count, conjugate_in, inverse_in, table_in}
use Rattle.sheet.specs.Answers.{read_answer}
use Rattle.causes.specs.Causes.{why_answer}
use Rattle.causes.specs.declared.answer.Field.{Field}
use Rattle.causes.specs.declared.answer.Field.TheVariants as field
use Rattle.causes.specs.declared.answer.Difference.{Difference}
use Rattle.causes.specs.declared.answer.Cause.{Cause}
use Rattle.causes.specs.declared.answer.Cause.TheVariants as cause
use Rattle.std.specs.Prelude.{Result, Ok, Err}
use Rattle.sheet.specs.declared.answer.Summary.{Summary}
use Rattle.refusals.specs.Verdicts.{fault_number}
use Rattle.refusals.specs.declared.answer.Refusal.{Refusal}

-- ---- marks and words

abbrev pub space : ℕ
space = 32

abbrev pub newline : ℕ
newline = 10

-- "complexity", and a space
unfoldable pub complexity_word : List ℕ
complexity_word = 99 ∷ 111 ∷ 109 ∷ 112 ∷ 108 ∷ 101 ∷ 120 ∷ 105 ∷ 116 ∷ 121 ∷ space ∷ []

-- "grade", and a space
unfoldable pub grade_word : List ℕ
grade_word = 103 ∷ 114 ∷ 97 ∷ 100 ∷ 101 ∷ space ∷ []

-- "refused", and a space
unfoldable pub refused_word : List ℕ
refused_word = 114 ∷ 101 ∷ 102 ∷ 117 ∷ 115 ∷ 101 ∷ 100 ∷ space ∷ []

-- "the word conjugate, inverse or table", and a space
unfoldable pub conjugate_word : List ℕ
conjugate_word = 99 ∷ 111 ∷ 110 ∷ 106 ∷ 117 ∷ 103 ∷ 97 ∷ 116 ∷ 101 ∷ space ∷ []

unfoldable pub inverse_word : List ℕ
inverse_word = 105 ∷ 110 ∷ 118 ∷ 101 ∷ 114 ∷ 115 ∷ 101 ∷ space ∷ []

unfoldable pub table_word : List ℕ
table_word = 116 ∷ 97 ∷ 98 ∷ 108 ∷ 101 ∷ space ∷ []

unfoldable pub field_word : Field → List ℕ
field_word field.Conjugate = conjugate_word
field_word field.Inverse = inverse_word
field_word field.Table = table_word

-- ---- numbers

-- how many decimal digits v has, one at least; a step leaves a tenth of v, so v steps are enough
unfoldable pub places_by : (steps v : ℕ) → ℕ
places_by zero v = 1
places_by (suc steps) v = cond (ltb v 10) 1 (suc (places_by steps (v / 10)))

unfoldable pub decimal : (v : ℕ) → List ℕ
decimal v = last_digits 10 (places_by v v) v

unfoldable pub number_then : (v mark : ℕ) → List ℕ
number_then v mark = decimal v ++ (mark ∷ [])

-- ---- lines

-- "row number, conjugate, inverse row, table row in decimal, one space between"
unfoldable pub row_line : (sheet : List ℕ) (i : ℕ) → List ℕ
row_line sheet i =
    number_then i space ++ number_then (conjugate_in sheet i) space ++ number_then (inverse_in sheet i) space ++ number_then (table_in sheet i) newline

unfoldable pub row_lines : (sheet : List ℕ) (k : ℕ) → List ℕ
row_lines sheet zero = []
row_lines sheet (suc k) = row_lines sheet k ++ row_line sheet k

-- "a last line: the word complexity, its number, the word grade, its number, again one space between"
unfoldable pub last_line : (complexity grade : ℕ) → List ℕ
last_line complexity grade = complexity_word ++ number_then complexity space ++ grade_word ++ number_then grade newline

-- "only `refused`, the number and the place on one line, with one space between"; document 02, §5, puts a second line after it
unfoldable pub refused_line : (number place : ℕ) → List ℕ
refused_line number place = refused_word ++ number_then number space ++ number_then place newline

-- "the record, the word conjugate, inverse or table, the stored number and the right one, single spaces between"
unfoldable pub difference_line_lem : Difference → List ℕ
difference_line_lem d = number_then d.place space ++ field_word d.field ++ number_then d.stored space ++ number_then d.right newline

-- "designers want its cause on a second line"
unfoldable pub cause_line : Cause → List ℕ
cause_line cause.Accepted = []
cause_line (cause.Refused r) = []
cause_line (cause.Divisor d) = number_then d newline
cause_line (cause.Became y) = number_then y newline
cause_line (cause.Dependency v) = number_then v newline
cause_line (cause.Differs d) = difference_line_lem d

-- ---- the listing

-- by what reading answers. The cause is that of the same refusal (`why_as_reading` in `promises`)
unfoldable pub listing_by : Result Summary Refusal → (sheet : List ℕ) → List ℕ
listing_by (Ok s) sheet = row_lines sheet (record_count sheet) ++ last_line s.complexity (grade_number s.grade)
listing_by (Err r) sheet = refused_line (fault_number r.fault) r.place ++ cause_line (why_answer sheet)

unfoldable pub listing_of : (sheet : List ℕ) → List ℕ
listing_of sheet = listing_by (read_answer sheet) sheet
