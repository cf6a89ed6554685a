-- Why a call refuses (document 02, §5): "Where the lister prints one of these refusals, designers want its cause on a second line."
-- Definitions alone.
--
--   row_of sheet i, number_of c row   the rows of record i, and the one of them that a field names
--   first_field_lem stored right         "the first field in byte order" in which two records differ
--   difference_of i stored right     that field of record i, the number stored there and the right one; `difference_by`: of a given field
--   difference_in sheet i            the same of a sheet and the one rebuilt from it
--   polynomial_cause, basis_cause, sheet_cause   what lies behind a refusal of a polynomial, of a polynomial and an element, of a sheet
--   cause_of v behind                the case that a verdict gives: behind says what lies behind each number and place
--   Reason, cause_report             the numbers of a case, as C is handed them; `field_number`: that of a field
--   reason_of v behind               the numbers that a verdict gives
--   .._answer, .._report              the calls, as functions of their inputs: `why`, `why_check`, `why_build`
--
-- Assumes nothing.
use Rattle.std.specs.Prelude.{cond, List, ℕ, ◌*◌, eqb}
use Rattle.gf2.specs.Limit.{limit}
use Rattle.gf2.specs.Poly.{degree}
use Rattle.refusals.specs.declared.fault.Fault.{Fault}
use Rattle.refusals.specs.Verdicts.{fault_number, Verdict, clear, refuse, first_of}
use Rattle.refusals.specs.Answers.{refusal_at}
use Rattle.field.specs.Field.{squared}
use Rattle.field.specs.Refusals.{check_order}
use Rattle.divisors.specs.Smallest.{smallest_divisor}
use Rattle.normal.specs.Normal.{dependency}
use Rattle.sheet.specs.Record.{record_size, record_count, conjugate_in, inverse_in, table_in, polynomial_in}
use Rattle.sheet.specs.Orders.{rebuilt_from, build_order, read_order}
use Rattle.sheet.specs.declared.loading.Row.{Row}
use Rattle.causes.specs.declared.answer.Field.{Field}
use Rattle.causes.specs.declared.answer.Field.TheVariants as field
use Rattle.causes.specs.declared.answer.Difference.{Difference}
use Rattle.causes.specs.declared.answer.Cause.{Cause}
use Rattle.causes.specs.declared.answer.Cause.TheVariants as cause

-- ---- a record that differs

-- the rows of record i
abbrev pub row_of : (sheet : List ℕ) (i : ℕ) → Row
row_of sheet i = record { conjugate = conjugate_in sheet i; inverse = inverse_in sheet i; table = table_in sheet i }

unfoldable pub number_of : Field → Row → ℕ
number_of field.Conjugate row = row.conjugate
number_of field.Inverse row = row.inverse
number_of field.Table row = row.table

-- "the first field in byte order". 8 is tested before 10, so the degree, the row number and the polynomial of every record are those
-- rebuilt, and a record that differs does so in a row (`True`). Where the first two are right it is the third
unfoldable pub first_field_lem : (stored right : Row) → Field
first_field_lem stored right =
    cond (eqb stored.conjugate right.conjugate)
    (cond (eqb stored.inverse right.inverse) field.Table field.Inverse)
    field.Conjugate

abbrev pub difference_by : (i : ℕ) (stored right : Row) → Field → Difference
difference_by i stored right c = record { place = i; field = c; stored = number_of c stored; right = number_of c right }

abbrev pub difference_of : (i : ℕ) (stored right : Row) → Difference
difference_of i stored right = difference_by i stored right (first_field_lem stored right)

-- "the record, the word conjugate, inverse or table, the stored number and the right one, .. the first field in byte order"
unfoldable pub difference_in : (sheet : List ℕ) (i : ℕ) → Difference
difference_in sheet i = difference_of i (row_of sheet i) (row_of (rebuilt_from sheet) i)

-- ---- behind a refusal

-- "For refusal 2, the smallest divisor of degree at least 1 as a number. For refusal 3, what x became": after n squarings, and x is the
-- number 2
unfoldable pub polynomial_cause : (f n : ℕ) (fault : Fault) (place : ℕ) → Cause
polynomial_cause f n fault place =
    cond (eqb (fault_number fault) 2) (cause.Divisor (smallest_divisor f))
    (cond (eqb (fault_number fault) 3) (cause.Became (squared f n n 2))
    (cause.Refused (refusal_at fault place)))

-- "For refusal 5, the smallest non-zero number whose set bits select conjugates that sum to zero."
unfoldable pub basis_cause : (f n a : ℕ) (fault : Fault) (place : ℕ) → Cause
basis_cause f n a fault place = cond (eqb (fault_number fault) 5) (cause.Dependency (dependency f n a)) (polynomial_cause f n fault place)

-- "For refusal 10, the record, .."
unfoldable pub sheet_cause : (sheet : List ℕ) (fault : Fault) (place : ℕ) → Cause
sheet_cause sheet fault place =
    cond (eqb (fault_number fault) 10) (cause.Differs (difference_in sheet place))
    (basis_cause (polynomial_in sheet) (record_count sheet) (conjugate_in sheet 0) fault place)

-- ---- the calls

unfoldable pub cause_of : Verdict → (Fault → ℕ → Cause) → Cause
cause_of clear behind = cause.Accepted
cause_of (refuse fault place) behind = behind fault place

-- why reading refuses a sheet
unfoldable pub why_answer : (sheet : List ℕ) → Cause
why_answer sheet = cause_of (first_of (read_order sheet)) (sheet_cause sheet)

-- why check refuses f
unfoldable pub why_check_answer : (f : ℕ) → Cause
why_check_answer f = cause_of (first_of (check_order f)) (polynomial_cause f (degree f))

-- why build refuses f and a, given a buffer of 32 * 46 bytes, so that 6 never applies
unfoldable pub why_build_answer : (f a : ℕ) → Cause
why_build_answer f a = cause_of (first_of (build_order f a (record_size * limit))) (basis_cause f (degree f) a)

-- ---- the numbers of a case

pub record Reason : Type 0 where
  pub number : ℕ
  pub place : ℕ
  pub cause : ℕ
  pub field : ℕ
  pub stored : ℕ
  pub right : ℕ

-- in byte order, from 1
unfoldable pub field_number : Field → ℕ
field_number field.Conjugate = 1
field_number field.Inverse = 2
field_number field.Table = 3

-- the number and the place of a refusal, and the number behind it; 0 where there is none
abbrev pub bare_reason : (number place cause : ℕ) → Reason
bare_reason k p c = record { number = k; place = p; cause = c; field = 0; stored = 0; right = 0 }

unfoldable pub cause_report : Cause → Reason
cause_report cause.Accepted = bare_reason 0 0 0
cause_report (cause.Refused r) = bare_reason (fault_number r.fault) r.place 0
cause_report (cause.Divisor d) = bare_reason 2 0 d
cause_report (cause.Became y) = bare_reason 3 0 y
cause_report (cause.Dependency v) = bare_reason 5 0 v
cause_report (cause.Differs d) = record { number = 10; place = d.place; cause = 0; field = field_number d.field; stored = d.stored; right = d.right }

-- ---- the numbers of the calls

-- number and place are the verdict's, and the rest is what lies behind them; all zero where nothing is refused
unfoldable pub reason_of : Verdict → (Fault → ℕ → Cause) → Reason
reason_of clear behind = bare_reason 0 0 0
reason_of (refuse fault place) behind =
    record {
      number = fault_number fault;
      place = place;
      cause = (cause_report (behind fault place)).cause;
      field = (cause_report (behind fault place)).field;
      stored = (cause_report (behind fault place)).stored;
      right = (cause_report (behind fault place)).right;
    }

unfoldable pub why_report : (sheet : List ℕ) → Reason
why_report sheet = reason_of (first_of (read_order sheet)) (sheet_cause sheet)

unfoldable pub why_check_report : (f : ℕ) → Reason
why_check_report f = reason_of (first_of (check_order f)) (polynomial_cause f (degree f))

unfoldable pub why_build_report : (f a : ℕ) → Reason
why_build_report f a = reason_of (first_of (build_order f a (record_size * limit))) (basis_cause f (degree f) a)
