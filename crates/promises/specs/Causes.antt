-- Causes (document 02, §5), through the answers of the calls: "Prove the cause true, and smallest where promised so."
--
--   cause_true, cause-check_true, cause-build_true   each cause is true: `True`, `CheckTrue` and `BuildTrue` in `causes` say what that is
--   why_numbers, why_as_reading       the numbers that C gets are those of the case, and number and place are those of reading
--   why-number_runs, why-field_runs   a number lies behind 2, 3 and 5 alone, and a field behind 10 alone
--   why-zero_runs                     all is zero where reading accepts
--   second-line, shape-one-line       the lister's text: the line of the refusal, and the cause's line after it; 7, 8 and 9 have none
--   divisor-line, became_line, dependency-line, difference_line   the whole text for 2, 3, 5 and 10
--   .._runs                           of the calls themselves, for every run of them
--
-- Assumes nothing.
use Rattle.std.specs.Prelude.{◌≡◌, refl, List, ◌++◌, ℕ, ◌≤◌, drop}
use Rattle.std.proofs.Common.{sym, ap, ◌∙◌, append-nil}
use Rattle.refusals.specs.Verdicts.{Verdict, clear, refuse, first_of}
use Rattle.refusals.specs.Answers.{refusal_at}
use Rattle.refusals.specs.declared.answer.Refusal.{Refusal}
use Rattle.field.specs.Field.{squared}
use Rattle.divisors.specs.Smallest.{smallest_divisor}
use Rattle.normal.specs.Normal.{dependency}
use Rattle.sheet.specs.Record.{record_count, conjugate_in, polynomial_in}
use Rattle.sheet.specs.Orders.{read_order}
use Rattle.sheet.specs.Answers.{issue_of, summary_in, read_answer, read_report}
use Rattle.sheet.specs.Answered.{done-clear}
use Rattle.causes.specs.Causes.{difference_in, polynomial_cause, basis_cause, bare_reason, cause_report, sheet_cause, reason_of, why_answer, why_report, why_check_answer, why_build_answer}
use Rattle.causes.specs.Reported.{why-promised}
use Rattle.causes.specs.True.{True, why_true, why-behind, shape-alone}
use Rattle.causes.specs.Operands.{CheckTrue, check_true, BuildTrue, build_true}
use Rattle.causes.specs.declared.answer.Cause.{Cause}
use Rattle.causes.specs.declared.answer.Cause.TheVariants as cause
use Rattle.capi.specs.Answers.{desk_cause}
use Rattle.listing.specs.Text.{newline, number_then, refused_line, difference_line_lem, cause_line, listing_by, listing_of}
use Rattle.promises.specs.Calls.{Run, why, why-check, why-build, desk_read, desk_why, listing}
use Rattle.promises.specs.Demand1.{why_is, why-check_is, why-build_is, listing_is}
use Rattle.promises.specs.Exports.{desk_read_is, desk_why_is}
use Rattle.std.specs.Prelude.{Ok, Err}
use Rattle.refusals.specs.declared.fault.Fault.TheVariants as faults
use Rattle.refusals.specs.Verdicts.{fault_number}

-- ---- "Prove the cause true"

pub cause_true : (sheet : List ℕ) → True sheet (why_answer sheet)
cause_true sheet = why_true sheet

pub cause-check_true : (f : ℕ) → CheckTrue f (why_check_answer f)
cause-check_true f = check_true f

pub cause-build_true : (f a : ℕ) → BuildTrue f a (why_build_answer f a)
cause-build_true f a = build_true f a

pub cause_true_runs : (c : Run why) → True c.args.0.now c.result
cause_true_runs c = rw (why_is c) (cause_true c.args.0.now)

pub cause-check_true_runs : (c : Run why-check) → CheckTrue c.args.0 c.result
cause-check_true_runs c = rw (why-check_is c) (cause-check_true c.args.0)

pub cause-build_true_runs : (c : Run why-build) → BuildTrue c.args.0 c.args.1.0 c.result
cause-build_true_runs c = rw (why-build_is c) (cause-build_true c.args.0 c.args.1.0)

-- ---- the numbers

-- the numbers that C gets are those of the case
pub why_numbers : (sheet : List ℕ) → cause_report (why_answer sheet) ≡ why_report sheet
why_numbers sheet = (why-promised sheet refl).1

-- "number and place as reading's"
pub why_as_reading : (sheet : List ℕ) → ((why_report sheet).number ≡ (read_report sheet).number) × ((why_report sheet).place ≡ (read_report sheet).place)
unfolding why_report read_report
why_as_reading sheet = go (first_of (read_order sheet))
  where
    go : (v : Verdict) → ((reason_of v (sheet_cause sheet)).number ≡ (issue_of v (summary_in sheet)).number) × ((reason_of v (sheet_cause sheet)).place ≡ (issue_of v (summary_in sheet)).place)
    go clear = unfold reason_of issue_of in (refl, refl)
    go (refuse k p) = unfold reason_of issue_of in (refl, refl)

-- "cause the number of 2, 3 and 5, else 0"
number-alone : (c : Cause) → ((cause_report c).number ≡ 2 → ⊥) → ((cause_report c).number ≡ 3 → ⊥) → ((cause_report c).number ≡ 5 → ⊥) → (cause_report c).cause ≡ 0
unfolding cause_report
number-alone cause.Accepted two three five = refl
number-alone (cause.Refused r) two three five = refl
number-alone (cause.Divisor d) two three five = absurd (two refl)
number-alone (cause.Became y) two three five = absurd (three refl)
number-alone (cause.Dependency v) two three five = absurd (five refl)
number-alone (cause.Differs d) two three five = refl

-- "field 1, 2 or 3 for conjugate, inverse or table with stored and right, else 0"
field-alone : (c : Cause) → ((cause_report c).number ≡ 10 → ⊥) → ((cause_report c).field ≡ 0) × ((cause_report c).stored ≡ 0) × ((cause_report c).right ≡ 0)
unfolding cause_report
field-alone cause.Accepted ten = (refl, refl, refl)
field-alone (cause.Refused r) ten = (refl, refl, refl)
field-alone (cause.Divisor d) ten = (refl, refl, refl)
field-alone (cause.Became y) ten = (refl, refl, refl)
field-alone (cause.Dependency v) ten = (refl, refl, refl)
field-alone (cause.Differs d) ten = absurd (ten refl)

-- of every run of the export, beside a run of reading's on the same sheet
pub why_as_reading_runs : (c : Run desk_why) (r : Run desk_read) → c.args.0.now ≡ r.args.0.now
    → (c.result.number ≡ r.result.number) × (c.result.place ≡ r.result.place)
why_as_reading_runs c r same = rw (desk_why_is c, desk_read_is r, same) (why_as_reading r.args.0.now)

pub why-number_runs : (c : Run desk_why) → (c.result.number ≡ 2 → ⊥) → (c.result.number ≡ 3 → ⊥) → (c.result.number ≡ 5 → ⊥) → c.result.cause ≡ 0
why-number_runs c = rw (desk_why_is c, ← why_numbers c.args.0.now) (number-alone (why_answer c.args.0.now))

pub why-field_runs : (c : Run desk_why) → (c.result.number ≡ 10 → ⊥) → (c.result.field ≡ 0) × (c.result.stored ≡ 0) × (c.result.right ≡ 0)
why-field_runs c = rw (desk_why_is c, ← why_numbers c.args.0.now) (field-alone (why_answer c.args.0.now))

-- "All zero where reading accepts."
pub why-zero_runs : (c : Run desk_why) → read_answer c.args.0.now ≡ Ok (summary_in c.args.0.now) → c.result ≡ desk_cause (bare_reason 0 0 0)
unfolding read_answer why_report reason_of
why-zero_runs c e =
    let sheet : List ℕ = c.args.0.now in
    desk_why_is c ∙ ap (λ (v : Verdict). desk_cause (reason_of v (sheet_cause sheet))) (done-clear (first_of (read_order sheet)) (summary_in sheet) (summary_in sheet) e)

-- each cause that C gets is true, too
pub desk_why_true_runs : (c : Run desk_why) → (w : Cause) × True c.args.0.now w × (c.result ≡ desk_cause (cause_report w))
desk_why_true_runs c =
    let sheet : List ℕ = c.args.0.now in
    (why_answer sheet, cause_true sheet, desk_why_is c ∙ ap desk_cause (sym (why_numbers sheet)))

-- ---- the lister

-- "Where the lister prints one of these refusals, designers want its cause on a second line."
pub second-line : (sheet : List ℕ) (r : Refusal) → read_answer sheet ≡ Err r
    → listing_of sheet ≡ refused_line (fault_number r.fault) r.place ++ cause_line (why_answer sheet)
unfolding listing_of listing_by
second-line sheet r e = rw e

-- none for 7, 8 and 9
pub shape-one-line : (sheet : List ℕ) (r : Refusal) → read_answer sheet ≡ Err r → 7 ≤ fault_number r.fault → fault_number r.fault ≤ 9
    → listing_of sheet ≡ refused_line (fault_number r.fault) r.place
unfolding cause_line
shape-one-line sheet r e low high =
    second-line sheet r e ∙ rw (shape-alone sheet r e low high) (append-nil (refused_line (fault_number r.fault) r.place))

module _ (sheet : List ℕ) where
  -- "For refusal 2, the smallest divisor of degree at least 1 as a number."
  pub divisor-line : read_answer sheet ≡ Err (refusal_at faults.Divided 0) → listing_of sheet ≡ refused_line 2 0 ++ number_then (smallest_divisor (polynomial_in sheet)) newline
  unfolding sheet_cause basis_cause polynomial_cause cause_line
  divisor-line e = second-line sheet (refusal_at faults.Divided 0) e ∙ rw (why-behind sheet (refusal_at faults.Divided 0) e)

  -- "For refusal 3, what x became."
  pub became_line : read_answer sheet ≡ Err (refusal_at faults.Strays 0)
      → listing_of sheet ≡ refused_line 3 0 ++ number_then (squared (polynomial_in sheet) (record_count sheet) (record_count sheet) 2) newline
  unfolding sheet_cause basis_cause polynomial_cause cause_line
  became_line e = second-line sheet (refusal_at faults.Strays 0) e ∙ rw (why-behind sheet (refusal_at faults.Strays 0) e)

  -- "For refusal 5, the smallest non-zero number whose set bits select conjugates that sum to zero."
  pub dependency-line : read_answer sheet ≡ Err (refusal_at faults.NotNormal 0)
      → listing_of sheet ≡ refused_line 5 0 ++ number_then (dependency (polynomial_in sheet) (record_count sheet) (conjugate_in sheet 0)) newline
  unfolding sheet_cause basis_cause cause_line
  dependency-line e = second-line sheet (refusal_at faults.NotNormal 0) e ∙ rw (why-behind sheet (refusal_at faults.NotNormal 0) e)

  -- "For refusal 10, the record, the word conjugate, inverse or table, the stored number and the right one"
  pub difference_line : (p : ℕ) → read_answer sheet ≡ Err (refusal_at faults.Differs p) → listing_of sheet ≡ refused_line 10 p ++ difference_line_lem (difference_in sheet p)
  unfolding sheet_cause cause_line
  difference_line p e = second-line sheet (refusal_at faults.Differs p) e ∙ rw (why-behind sheet (refusal_at faults.Differs p) e)

-- of every run of the listing: these two lines stand at the front of the text, and nothing else of it changes
pub second-line_runs : (c : Run listing) (r : Refusal) → read_answer c.args.0.now ≡ Err r
    → c.exit.1.0.now ≡ refused_line (fault_number r.fault) r.place ++ cause_line (why_answer c.args.0.now) ++ drop c.result c.args.1.0.now
second-line_runs c r e = rw ((listing_is c).0, (listing_is c).1, second-line c.args.0.now r e) refl
