-- Demand 1 on refusals, as in `Refused`, for the exports: of the number, the place and the values in the struct that C gets, and of what
-- the export was lent. Done is what the call of its name answers.
-- Assumes nothing.
use Rattle.std.specs.Prelude.{◌≡◌, true, List, [], ◌∷◌, ℕ, ◌<◌, length}
use Rattle.std.proofs.Math.Path.{refl}
use Rattle.std.proofs.Common.{◌∙◌, arith}
use Rattle.gf2.specs.Poly.{degree}
use Rattle.refusals.specs.Answers.{answer_of, left, report_of}
use Rattle.refusals.specs.Verdicts.{Rule, Verdict, clear, refuse, first_of}
use Rattle.field.specs.Answers.{check_answer, check_report, multiply_answer, multiply_report, square_answer, square_report, trace_answer, trace_report}
use Rattle.field.specs.Refusals.{multiply_order, square_order, trace_order, check_order}
use Rattle.sheet.specs.Record.{record_count}
use Rattle.sheet.specs.Orders.{build_order, read_order, polynomial_order, normal_order, times_order, inverse_order, quotient_order, polynomial_list_order, normal_list_order}
use Rattle.sheet.specs.Listed.{OnShape, OnReading}
use Rattle.sheet.proofs.Listed.{shape-listed, read-listed}
use Rattle.sheet.specs.Answers.{issue_of, build_answer, build_report, built_buffer, read_answer, read_report, polynomial_answer, polynomial_report, normal_answer, normal_report, times_answer, times_report, inverse_answer, inverse_report, quotient_answer, quotient_report, polynomial_list_answer, polynomial_list_report, polynomial_list, normal_list_answer, normal_list_report, normal_list}
use Rattle.sheet.specs.declared.answer.Summary.{Summary}
use Rattle.matrices.specs.Orders.{write_text_order, read_text_order}
use Rattle.matrices.specs.Answers.{write_text_answer, write_text_report, written_text, read_text_answer, read_text_report}
use Rattle.search.specs.Answers.{search_order, search_of, search_answer, search_report, refused_report}
use Rattle.search.specs.Answers as answers
use Rattle.search.specs.Search.{ranged, Answered}
use Rattle.search.proofs.Walks.{ranged_answered}
use Rattle.search.specs.declared.answer.Search.{Search}
use Rattle.capi.specs.Answers.{found_flag}
use Rattle.capi.specs.declared.answer.DeskValue.{DeskValue}
use Rattle.capi.specs.declared.answer.DeskIssued.{DeskIssued}
use Rattle.capi.specs.declared.answer.DeskFound.{DeskFound}
use Rattle.promises.specs.Calls as calls
use Rattle.promises.specs.Calls.{Run}
use Rattle.promises.specs.Exports.{desk_check_is, desk_multiply_is, desk_square_is, desk_trace_is, desk_build_is, desk_read_is, desk_to-polynomial_is, desk_to-normal_is, desk_times_is, desk_inverse_is, desk_quotient_is, desk_list-to-polynomial_is, desk_list-to-normal_is, desk_write_matrices_is, desk_read-matrices_is, desk_search_is}
use Rattle.promises.specs.Listed.{OnValue, OnDivision, OnWords, OnList, OnWritingText, OnReadingText, multiply-listed, square-listed, trace-listed, check-listed, build-listed, search-listed, shape-positive, value-listed, value-positive, division_listed, division_positive, words_listed, words_positive, list-listed, list-positive, read-positive, write_listed, write_positive, text_listed, text_positive}
use Rattle.promises.specs.Refused.{issue_told, done_searched, answered_number}
use Rattle.refusals.specs.Told.{AtZero, AllZero, Every, Told, number_of}
use Rattle.refusals.specs.Telling.{nonzero, placed-zero, at-zero-positive, told, report_told, done-value, done_checked}
use Rattle.std.specs.Prelude.{Result, Ok}
use Rattle.refusals.specs.Answers.{passed}
use Rattle.refusals.specs.declared.answer.Refusal.{Refusal}
use Rattle.refusals.specs.declared.fault.Fault.{Fault}

-- ---- the structs

abbrev pub DeskValueTold : (rs : List Rule) → (ℕ → ℕ → Type 0) → (Done : Type 0) → DeskValue → Type 0
DeskValueTold rs P Done d = Told rs P Done d.number d.place (d.value ∷ [])

-- done with some value
abbrev pub Valued : Result ℕ Refusal → Type 0
Valued r = (x : ℕ) × (r ≡ Ok x)

abbrev pub DeskIssuedTold : (rs : List Rule) → (ℕ → ℕ → Type 0) → Result Summary Refusal → DeskIssued → Type 0
DeskIssuedTold rs P r d = Told rs P ((t : Summary) × (r ≡ Ok t)) d.number d.place (d.degree ∷ d.complexity ∷ d.grade ∷ [])

abbrev pub DeskFoundTold : (rs : List Rule) → (ℕ → ℕ → Type 0) → Search → DeskFound → Type 0
DeskFoundTold rs P r d = Told rs P (Answered r) d.number 0 (d.found ∷ d.element ∷ d.complexity ∷ d.grade ∷ d.count ∷ [])

-- what a refusal leaves in the struct beside its number is zero
refused_found : (k : Fault) (p : ℕ) (x : Search)
    → AllZero (found_flag (search_of (refuse k p) x) ∷ (answers.report_of (refuse k p) x).element ∷ (answers.report_of (refuse k p) x).complexity ∷ (answers.report_of (refuse k p) x).grade ∷ (answers.report_of (refuse k p) x).count ∷ [])
unfolding found_flag answer_of answers.report_of refused_report
refused_found k p x = (refl, (refl, (refl, (refl, (refl, tt)))))

module _ (ks : List ℕ) (nz : nonzero ks ≡ true) (rs : List Rule) (all : Every (AtZero ks) rs) where
  found_told : (x : Search) → Answered x
      → Told rs (AtZero ks) (Answered (search_of (first_of rs) x)) (answers.report_of (first_of rs) x).number 0
      (found_flag (search_of (first_of rs) x) ∷ (answers.report_of (first_of rs) x).element ∷ (answers.report_of (first_of rs) x).complexity ∷ (answers.report_of (first_of rs) x).grade ∷ (answers.report_of (first_of rs) x).count ∷ [])
  found_told x h =
      told rs (AtZero ks) _ _ _ _ all (at-zero-positive ks nz) (done_searched (first_of rs) x h) (number (first_of rs)) (placed-zero ks rs all)
      (λ k p e. rw e (refused_found k p x))
    where
      number : (v : Verdict) → (answers.report_of v x).number ≡ number_of v
      number clear = unfold answers.report_of number_of in answered_number x h
      number (refuse k p) = unfold answers.report_of refused_report number_of in refl

-- ---- the field calls

pub desk_check_told : (c : Run calls.desk_check) → DeskValueTold (check_order c.args.0) (AtZero (1 ∷ 2 ∷ 3 ∷ [])) (check_answer c.args.0 ≡ passed) c.result
unfolding check_answer check_report
desk_check_told c = rw (desk_check_is c) (report_told _ _ (check-listed c.args.0) (at-zero-positive (1 ∷ 2 ∷ 3 ∷ []) refl) _ (done_checked (first_of (check_order c.args.0))) 0)

pub desk_multiply_told : (c : Run calls.desk_multiply) → DeskValueTold (multiply_order c.args.0) (AtZero (1 ∷ [])) (Valued (multiply_answer c.args.0 c.args.1.0 c.args.1.1.0)) c.result
unfolding multiply_answer multiply_report
desk_multiply_told c =
    rw (desk_multiply_is c) (report_told _ _ (multiply-listed c.args.0) (at-zero-positive (1 ∷ []) refl) _ (done-value (first_of (multiply_order c.args.0)) _) _)

pub desk_square_told : (c : Run calls.desk_square) → DeskValueTold (square_order c.args.0) (AtZero (1 ∷ [])) (Valued (square_answer c.args.0 c.args.1.0)) c.result
unfolding square_answer square_report
desk_square_told c =
    rw (desk_square_is c) (report_told _ _ (square-listed c.args.0) (at-zero-positive (1 ∷ []) refl) _ (done-value (first_of (square_order c.args.0)) _) _)

pub desk_trace_told : (c : Run calls.desk_trace) → DeskValueTold (trace_order c.args.0) (AtZero (1 ∷ 2 ∷ 3 ∷ [])) (Valued (trace_answer c.args.0 c.args.1.0)) c.result
unfolding trace_answer trace_report
desk_trace_told c =
    rw (desk_trace_is c) (report_told _ _ (trace-listed c.args.0) (at-zero-positive (1 ∷ 2 ∷ 3 ∷ []) refl) _ (done-value (first_of (trace_order c.args.0)) _) _)

-- ---- build and read

pub desk_build_told : (c : Run calls.desk_build) → DeskIssuedTold (build_order c.args.0 c.args.1.0 (length c.args.1.1.0.now)) (AtZero (1 ∷ 4 ∷ 6 ∷ 2 ∷ 3 ∷ 5 ∷ [])) (build_answer c.args.0 c.args.1.0 (length c.args.1.1.0.now)) c.result
unfolding build_answer build_report
desk_build_told c =
    rw (desk_build_is c).0
    (issue_told _ _ (build-listed c.args.0 c.args.1.0 (length c.args.1.1.0.now)) (at-zero-positive (1 ∷ 4 ∷ 6 ∷ 2 ∷ 3 ∷ 5 ∷ []) refl) _)

pub desk_read_told : (c : Run calls.desk_read) → DeskIssuedTold (read_order c.args.0.now) (OnReading (record_count c.args.0.now)) (read_answer c.args.0.now) c.result
unfolding read_answer read_report
desk_read_told c = rw (desk_read_is c) (issue_told _ _ (read-listed c.args.0.now) (read-positive (record_count c.args.0.now)) _)

-- ---- single values through a sheet

pub desk_to-polynomial_told : (c : Run calls.desk_to-polynomial) → DeskValueTold (polynomial_order c.args.0.now c.args.1.0) (OnValue (record_count c.args.0.now)) (Valued (polynomial_answer c.args.0.now c.args.1.0)) c.result
unfolding polynomial_answer polynomial_report
desk_to-polynomial_told c =
    rw (desk_to-polynomial_is c)
    (report_told _ _ (value-listed c.args.0.now (c.args.1.0 ∷ [])) (value-positive (record_count c.args.0.now)) _ (done-value (first_of (polynomial_order c.args.0.now c.args.1.0)) _) _)

pub desk_to-normal_told : (c : Run calls.desk_to-normal) → DeskValueTold (normal_order c.args.0.now) (OnShape (record_count c.args.0.now)) (Valued (normal_answer c.args.0.now c.args.1.0)) c.result
unfolding normal_answer normal_report
desk_to-normal_told c =
    rw (desk_to-normal_is c)
    (report_told _ _ (shape-listed c.args.0.now) (shape-positive (record_count c.args.0.now)) _ (done-value (first_of (normal_order c.args.0.now)) _) _)

pub desk_times_told : (c : Run calls.desk_times) → DeskValueTold (times_order c.args.0.now c.args.1.0 c.args.1.1.0) (OnValue (record_count c.args.0.now)) (Valued (times_answer c.args.0.now c.args.1.0 c.args.1.1.0)) c.result
unfolding times_answer times_report
desk_times_told c =
    rw (desk_times_is c)
    (report_told _ _ (value-listed c.args.0.now (c.args.1.0 ∷ c.args.1.1.0 ∷ [])) (value-positive (record_count c.args.0.now)) _ (done-value (first_of (times_order c.args.0.now c.args.1.0 c.args.1.1.0)) _) _)

pub desk_inverse_told : (c : Run calls.desk_inverse) → DeskValueTold (inverse_order c.args.0.now c.args.1.0) (OnDivision (record_count c.args.0.now)) (Valued (inverse_answer c.args.0.now c.args.1.0)) c.result
unfolding inverse_answer inverse_report
desk_inverse_told c =
    rw (desk_inverse_is c)
    (report_told _ _ (division_listed c.args.0.now (c.args.1.0 ∷ []) c.args.1.0) (division_positive (record_count c.args.0.now)) _ (done-value (first_of (inverse_order c.args.0.now c.args.1.0)) _) _)

pub desk_quotient_told : (c : Run calls.desk_quotient) → DeskValueTold (quotient_order c.args.0.now c.args.1.0 c.args.1.1.0) (OnDivision (record_count c.args.0.now)) (Valued (quotient_answer c.args.0.now c.args.1.0 c.args.1.1.0)) c.result
unfolding quotient_answer quotient_report
desk_quotient_told c =
    rw (desk_quotient_is c)
    (report_told _ _ (division_listed c.args.0.now (c.args.1.0 ∷ c.args.1.1.0 ∷ []) c.args.1.1.0) (division_positive (record_count c.args.0.now)) _ (done-value (first_of (quotient_order c.args.0.now c.args.1.0 c.args.1.1.0)) _) _)

-- ---- lists

pub desk_list-to-polynomial_told : (c : Run calls.desk_list-to-polynomial) → DeskValueTold (polynomial_list_order c.args.0.now c.args.1.0.now (length c.args.1.1.0.now)) (OnList (record_count c.args.0.now) (length c.args.1.0.now)) (polynomial_list_answer c.args.0.now c.args.1.0.now (length c.args.1.1.0.now) ≡ passed) c.result
unfolding polynomial_list_answer polynomial_list_report
desk_list-to-polynomial_told c =
    rw (desk_list-to-polynomial_is c).0
    (report_told _ _ (list-listed c.args.0.now c.args.1.0.now (length c.args.1.1.0.now)) (list-positive (record_count c.args.0.now) (length c.args.1.0.now)) _ (done_checked (first_of (polynomial_list_order c.args.0.now c.args.1.0.now (length c.args.1.1.0.now)))) 0)

pub desk_list-to-normal_told : (c : Run calls.desk_list-to-normal) → DeskValueTold (normal_list_order c.args.0.now c.args.1.0.now (length c.args.1.1.0.now)) (OnWords (record_count c.args.0.now)) (normal_list_answer c.args.0.now c.args.1.0.now (length c.args.1.1.0.now) ≡ passed) c.result
unfolding normal_list_answer normal_list_report
desk_list-to-normal_told c =
    rw (desk_list-to-normal_is c).0
    (report_told _ _ (words_listed c.args.0.now (length c.args.1.0.now) (length c.args.1.1.0.now)) (words_positive (record_count c.args.0.now)) _ (done_checked (first_of (normal_list_order c.args.0.now c.args.1.0.now (length c.args.1.1.0.now)))) 0)

-- ---- the text of the matrices

pub desk_write_matrices_told : (c : Run calls.desk_write_matrices) → DeskIssuedTold (write_text_order c.args.0.now (length c.args.1.0.now)) (OnWritingText (record_count c.args.0.now)) (write_text_answer c.args.0.now (length c.args.1.0.now)) c.result
unfolding write_text_answer write_text_report
desk_write_matrices_told c =
    rw (desk_write_matrices_is c).0 (issue_told _ _ (write_listed c.args.0.now (length c.args.1.0.now)) (write_positive (record_count c.args.0.now)) _)

pub desk_read-matrices_told : (c : Run calls.desk_read-matrices) → DeskIssuedTold (read_text_order c.args.0 c.args.1.0 c.args.1.1.0.now) (OnReadingText (degree c.args.0)) (read_text_answer c.args.0 c.args.1.0 c.args.1.1.0.now) c.result
unfolding read_text_answer read_text_report
desk_read-matrices_told c =
    rw (desk_read-matrices_is c) (issue_told _ _ (text_listed c.args.0 c.args.1.0 c.args.1.1.0.now) (text_positive (degree c.args.0)) _)

-- ---- the search

pub desk_search_told : (c : Run calls.desk_search) → DeskFoundTold (search_order c.args.0 c.args.1.0 c.args.1.1.0) (AtZero (1 ∷ 4 ∷ 12 ∷ 2 ∷ 3 ∷ [])) (search_answer c.args.0 c.args.1.0 c.args.1.1.0) c.result
unfolding search_answer search_report
desk_search_told c =
    rw (desk_search_is c)
    (found_told (1 ∷ 4 ∷ 12 ∷ 2 ∷ 3 ∷ []) refl (search_order c.args.0 c.args.1.0 c.args.1.1.0) (search-listed c.args.0 c.args.1.0 c.args.1.1.0) (ranged c.args.0 (degree c.args.0) c.args.1.0 c.args.1.1.0) (ranged_answered c.args.0 (degree c.args.0) c.args.1.0 c.args.1.1.0))

-- ---- "every lent buffer and list stays as it came"

built_unchanged : (v : Verdict) (s : Summary) (done came : List ℕ) → 0 < (issue_of v s).number → left v done came ≡ came
unfolding issue_of left
built_unchanged clear s done came h = absurd (omega arith)
built_unchanged (refuse k p) s done came h = refl

list_unchanged : (v : Verdict) (done came : List ℕ) → 0 < (report_of v 0).number → left v done came ≡ came
unfolding report_of left
list_unchanged clear done came h = absurd (omega arith)
list_unchanged (refuse k p) done came h = refl

pub desk_build_unchanged : (c : Run calls.desk_build) → 0 < c.result.number → c.exit.1.1.0.now ≡ c.args.1.1.0.now
unfolding build_report built_buffer
desk_build_unchanged c h = (desk_build_is c).1 ∙ built_unchanged _ _ _ c.args.1.1.0.now (rw (desk_build_is c).0 at h)

pub desk_list-to-polynomial_unchanged : (c : Run calls.desk_list-to-polynomial) → 0 < c.result.number → c.exit.1.1.0.now ≡ c.args.1.1.0.now
unfolding polynomial_list_report polynomial_list
desk_list-to-polynomial_unchanged c h = (desk_list-to-polynomial_is c).1 ∙ list_unchanged _ _ c.args.1.1.0.now (rw (desk_list-to-polynomial_is c).0 at h)

pub desk_list-to-normal_unchanged : (c : Run calls.desk_list-to-normal) → 0 < c.result.number → c.exit.1.1.0.now ≡ c.args.1.1.0.now
unfolding normal_list_report normal_list
desk_list-to-normal_unchanged c h = (desk_list-to-normal_is c).1 ∙ list_unchanged _ _ c.args.1.1.0.now (rw (desk_list-to-normal_is c).0 at h)

pub desk_write_matrices_unchanged : (c : Run calls.desk_write_matrices) → 0 < c.result.number → c.exit.1.0.now ≡ c.args.1.0.now
unfolding write_text_report written_text
desk_write_matrices_unchanged c h = (desk_write_matrices_is c).1 ∙ built_unchanged _ _ _ c.args.1.0.now (rw (desk_write_matrices_is c).0 at h)
