-- Demand 1, what a refused call leaves and gives (document 01, "Refusal numbers"), over every run of a call that can refuse.
--
--   ..Told, .._told   what a run answers: done is 0 with place 0, and 0 exactly if done; a number that is given stands in the call's order
--                     with its place (`Listed`), and its condition is the first that applies; a refusal's other values are zero
--   .._unchanged      "every lent buffer and list stays as it came"
--
-- `Told` stands in `refusals`; the exports in `RefusedExports`.
-- What of this a wrong definition breaks, and what rests on that, stands in `proofs/Refused.antt`.
-- Assumes nothing.
use Rattle.std.specs.Prelude.{◌≡◌, ◌↔◌, true, List, [], ◌∷◌, ℕ, ◌<◌, length}
use Rattle.std.proofs.Math.Path.{refl}
use Rattle.std.proofs.Common.{sym, ◌∙◌, arith}
use Rattle.gf2.specs.Poly.{degree}
use Rattle.refusals.specs.Answers.{answer_of, left, checked_of}
use Rattle.refusals.specs.Verdicts.{Rule, Verdict, clear, refuse, first_of}
use Rattle.refusals.specs.declared.answer.Refusal.{Refusal}
use Rattle.field.specs.Answers.{check_answer, multiply_answer, square_answer, trace_answer}
use Rattle.field.specs.Refusals.{multiply_order, square_order, trace_order, check_order}
use Rattle.sheet.specs.Record.{record_count}
use Rattle.sheet.specs.Orders.{build_order, polynomial_order, times_order, inverse_order, quotient_order, polynomial_list_order, normal_list_order}
use Rattle.sheet.specs.Answers.{issue_of, issued_of, issued_report, build_answer, built_buffer, polynomial_answer, times_answer, inverse_answer, quotient_answer, polynomial_list_answer, polynomial_list, normal_list_answer, normal_list}
use Rattle.sheet.specs.Answered.{issued_report_lem}
use Rattle.sheet.specs.declared.answer.Summary.{Summary}
use Rattle.matrices.specs.Orders.{write_text_order, read_text_order}
use Rattle.matrices.specs.Answers.{write_text_answer, read_text_answer}
use Rattle.matrices.specs.Exact.{written_kept}
use Rattle.search.specs.Answers.{search_order, search_of, search_answer, case_report, refused_report}
use Rattle.search.specs.Search.{ranged, Answered, nothing, found}
use Rattle.search.proofs.Walks.{ranged_answered}
use Rattle.search.specs.declared.answer.Search.{Search}
use Rattle.search.specs.declared.answer.Search.TheVariants as searched
use Rattle.promises.specs.Calls as calls
use Rattle.promises.specs.Calls.{Run}
use Rattle.promises.specs.Demand1.{check_is, multiply_is, square_is, trace_is, build_is, to-polynomial_is, times_is, inverse_is, quotient_is, list-to-polynomial_is, list-to-normal_is, write_matrices_is, read-matrices_is, search_is}
use Rattle.promises.specs.Listed.{OnValue, OnDivision, OnWords, OnList, OnWritingText, OnReadingText, multiply-listed, square-listed, trace-listed, check-listed, build-listed, search-listed, value-listed, value-positive, division_listed, division_positive, words_listed, words_positive, list-listed, list-positive, write_listed, write_positive, text_listed, text_positive}
use Rattle.refusals.specs.Told.{AtZero, AllZero, Every, Told, ValueTold, CheckedTold, number_of, place_of}
use Rattle.refusals.specs.Telling.{nonzero, placed-zero, at-zero-positive, told, value_told, checked_told}
use Rattle.std.specs.Prelude.{Result, Ok, Err}
use Rattle.refusals.specs.declared.fault.Fault.{Fault}

-- ---- the answers of build, reading and the search, by the verdict of an order

abbrev pub IssuedTold : (rs : List Rule) → (ℕ → ℕ → Type 0) → Result Summary Refusal → Type 0
IssuedTold rs P r =
    Told rs P ((t : Summary) × (r ≡ Ok t)) (issued_report r).number (issued_report r).place
    ((issued_report r).degree ∷ (issued_report r).complexity ∷ (issued_report r).grade ∷ [])

-- the search's answer carries no place
abbrev pub SearchTold : (rs : List Rule) → (ℕ → ℕ → Type 0) → Search → Type 0
SearchTold rs P r =
    Told rs P (Answered r) (case_report r).number 0 ((case_report r).element ∷ (case_report r).complexity ∷ (case_report r).grade ∷ (case_report r).count ∷ [])

done_issued : (v : Verdict) (s : Summary) → (v ≡ clear) ↔ ((t : Summary) × (issued_of v s ≡ Ok t))
unfolding answer_of
done_issued clear s = (λ e. (s, refl), λ d. refl)
done_issued (refuse k p) s =
    (λ e. let z : ◌≡◌ {A = ℕ} 0 1 = cc in absurd (omega arith), λ d. let e = d.1 in let z : ◌≡◌ {A = ℕ} 0 1 = cc in absurd (omega arith))

answered_not_refused : (x : Search) (k : Fault) → Answered x → x ≡ searched.Refused k → ⊥
answered_not_refused x k nothing e = let z : ◌≡◌ {A = ℕ} 0 1 = cc in omega arith
answered_not_refused x k (found y) e = let z : ◌≡◌ {A = ℕ} 0 1 = cc in omega arith

pub done_searched : (v : Verdict) (x : Search) → Answered x → (v ≡ clear) ↔ Answered (search_of v x)
unfolding answer_of
done_searched clear x h = (λ e. h, λ d. refl)
done_searched (refuse k p) x h =
    (λ e. let z : ◌≡◌ {A = ℕ} 0 1 = cc in absurd (omega arith), λ d. absurd (answered_not_refused (searched.Refused k) k d refl))

pub answered_number : (x : Search) → Answered x → (case_report x).number ≡ 0
unfolding case_report
answered_number x nothing = refl
answered_number x (found y) = refl

-- what a refusal reports beside its number and place is zero
refused_search : (k : Fault) (p : ℕ) (x : Search)
    → AllZero ((case_report (search_of (refuse k p) x)).element ∷ (case_report (search_of (refuse k p) x)).complexity ∷ (case_report (search_of (refuse k p) x)).grade ∷ (case_report (search_of (refuse k p) x)).count ∷ [])
unfolding answer_of case_report refused_report
refused_search k p x = (refl, (refl, (refl, (refl, tt))))

refused_issue : (k : Fault) (p : ℕ) (s : Summary)
    → AllZero ((issue_of (refuse k p) s).degree ∷ (issue_of (refuse k p) s).complexity ∷ (issue_of (refuse k p) s).grade ∷ [])
unfolding issue_of
refused_issue k p s = (refl, (refl, (refl, tt)))

module _ (rs : List Rule) (P : ℕ → ℕ → Type 0) (all : Every P rs) (positive : (k p : ℕ) → P k p → 0 < k) where
  -- as the verdict's report has it, for the exports
  pub issue_told : (s : Summary)
      → Told rs P ((t : Summary) × (issued_of (first_of rs) s ≡ Ok t)) (issue_of (first_of rs) s).number (issue_of (first_of rs) s).place
      ((issue_of (first_of rs) s).degree ∷ (issue_of (first_of rs) s).complexity ∷ (issue_of (first_of rs) s).grade ∷ [])
  issue_told s =
      told rs P _ _ _ _ all positive (done_issued (first_of rs) s) (number (first_of rs)) (place (first_of rs))
      (λ k p e. rw e (refused_issue k p s))
    where
      number : (v : Verdict) → (issue_of v s).number ≡ number_of v
      number clear = unfold issue_of number_of in refl
      number (refuse k p) = unfold issue_of number_of in refl

      place : (v : Verdict) → (issue_of v s).place ≡ place_of v
      place clear = unfold issue_of place_of in refl
      place (refuse k p) = unfold issue_of place_of in refl

  pub issued_told : (s : Summary) → IssuedTold rs P (issued_of (first_of rs) s)
  issued_told s = rw (issued_report_lem (first_of rs) s) (issue_told s)

module _ (ks : List ℕ) (nz : nonzero ks ≡ true) (rs : List Rule) (all : Every (AtZero ks) rs) where
  pub searched_told : (x : Search) → Answered x → SearchTold rs (AtZero ks) (search_of (first_of rs) x)
  searched_told x h =
      told rs (AtZero ks) _ _ _ _ all (at-zero-positive ks nz) (done_searched (first_of rs) x h) (number (first_of rs)) (placed-zero ks rs all)
      (λ k p e. rw e (refused_search k p x))
    where
      number : (v : Verdict) → (case_report (search_of v x)).number ≡ number_of v
      number clear = unfold answer_of number_of in answered_number x h
      number (refuse k p) = unfold answer_of case_report refused_report number_of in refl

-- ---- the field calls

pub check_told : (c : Run calls.check) → CheckedTold (check_order c.args.0) (AtZero (1 ∷ 2 ∷ 3 ∷ [])) c.result
unfolding check_answer
check_told c = rw (check_is c) (checked_told _ _ (check-listed c.args.0) (at-zero-positive (1 ∷ 2 ∷ 3 ∷ []) refl))

pub multiply_told : (c : Run calls.multiply) → ValueTold (multiply_order c.args.0) (AtZero (1 ∷ [])) c.result
unfolding multiply_answer
multiply_told c = rw (multiply_is c) (value_told _ _ (multiply-listed c.args.0) (at-zero-positive (1 ∷ []) refl) _)

pub square_told : (c : Run calls.square) → ValueTold (square_order c.args.0) (AtZero (1 ∷ [])) c.result
unfolding square_answer
square_told c = rw (square_is c) (value_told _ _ (square-listed c.args.0) (at-zero-positive (1 ∷ []) refl) _)

pub trace_told : (c : Run calls.trace) → ValueTold (trace_order c.args.0) (AtZero (1 ∷ 2 ∷ 3 ∷ [])) c.result
unfolding trace_answer
trace_told c = rw (trace_is c) (value_told _ _ (trace-listed c.args.0) (at-zero-positive (1 ∷ 2 ∷ 3 ∷ []) refl) _)

-- ---- build and read

pub build_told : (c : Run calls.build) → IssuedTold (build_order c.args.0 c.args.1.0 (length c.args.1.1.0.now)) (AtZero (1 ∷ 4 ∷ 6 ∷ 2 ∷ 3 ∷ 5 ∷ [])) c.result
unfolding build_answer
build_told c = rw (build_is c).0 (issued_told _ _ (build-listed c.args.0 c.args.1.0 (length c.args.1.1.0.now)) (at-zero-positive (1 ∷ 4 ∷ 6 ∷ 2 ∷ 3 ∷ 5 ∷ []) refl) _)

-- ---- single values through a sheet

pub to-polynomial_told : (c : Run calls.to-polynomial) → ValueTold (polynomial_order c.args.0.now c.args.1.0) (OnValue (record_count c.args.0.now)) c.result
unfolding polynomial_answer
to-polynomial_told c = rw (to-polynomial_is c) (value_told _ _ (value-listed c.args.0.now (c.args.1.0 ∷ [])) (value-positive (record_count c.args.0.now)) _)

pub times_told : (c : Run calls.times) → ValueTold (times_order c.args.0.now c.args.1.0 c.args.1.1.0) (OnValue (record_count c.args.0.now)) c.result
unfolding times_answer
times_told c = rw (times_is c) (value_told _ _ (value-listed c.args.0.now (c.args.1.0 ∷ c.args.1.1.0 ∷ [])) (value-positive (record_count c.args.0.now)) _)

pub inverse_told : (c : Run calls.inverse) → ValueTold (inverse_order c.args.0.now c.args.1.0) (OnDivision (record_count c.args.0.now)) c.result
unfolding inverse_answer
inverse_told c = rw (inverse_is c) (value_told _ _ (division_listed c.args.0.now (c.args.1.0 ∷ []) c.args.1.0) (division_positive (record_count c.args.0.now)) _)

pub quotient_told : (c : Run calls.quotient) → ValueTold (quotient_order c.args.0.now c.args.1.0 c.args.1.1.0) (OnDivision (record_count c.args.0.now)) c.result
unfolding quotient_answer
quotient_told c =
    rw (quotient_is c)
    (value_told _ _ (division_listed c.args.0.now (c.args.1.0 ∷ c.args.1.1.0 ∷ []) c.args.1.1.0) (division_positive (record_count c.args.0.now)) _)

-- ---- lists

pub list-to-polynomial_told : (c : Run calls.list-to-polynomial) → CheckedTold (polynomial_list_order c.args.0.now c.args.1.0.now (length c.args.1.1.0.now)) (OnList (record_count c.args.0.now) (length c.args.1.0.now)) c.result
unfolding polynomial_list_answer
list-to-polynomial_told c =
    rw (list-to-polynomial_is c).0
    (checked_told _ _ (list-listed c.args.0.now c.args.1.0.now (length c.args.1.1.0.now)) (list-positive (record_count c.args.0.now) (length c.args.1.0.now)))

pub list-to-normal_told : (c : Run calls.list-to-normal) → CheckedTold (normal_list_order c.args.0.now c.args.1.0.now (length c.args.1.1.0.now)) (OnWords (record_count c.args.0.now)) c.result
unfolding normal_list_answer
list-to-normal_told c =
    rw (list-to-normal_is c).0
    (checked_told _ _ (words_listed c.args.0.now (length c.args.1.0.now) (length c.args.1.1.0.now)) (words_positive (record_count c.args.0.now)))

-- ---- the text of the matrices

pub write_matrices_told : (c : Run calls.write_matrices) → IssuedTold (write_text_order c.args.0.now (length c.args.1.0.now)) (OnWritingText (record_count c.args.0.now)) c.result
unfolding write_text_answer
write_matrices_told c =
    rw (write_matrices_is c).0 (issued_told _ _ (write_listed c.args.0.now (length c.args.1.0.now)) (write_positive (record_count c.args.0.now)) _)

pub read-matrices_told : (c : Run calls.read-matrices) → IssuedTold (read_text_order c.args.0 c.args.1.0 c.args.1.1.0.now) (OnReadingText (degree c.args.0)) c.result
unfolding read_text_answer
read-matrices_told c =
    rw (read-matrices_is c) (issued_told _ _ (text_listed c.args.0 c.args.1.0 c.args.1.1.0.now) (text_positive (degree c.args.0)) _)

-- ---- the search

pub search_told : (c : Run calls.search) → SearchTold (search_order c.args.0 c.args.1.0 c.args.1.1.0) (AtZero (1 ∷ 4 ∷ 12 ∷ 2 ∷ 3 ∷ [])) c.result
unfolding search_answer
search_told c =
    rw (search_is c)
    (searched_told (1 ∷ 4 ∷ 12 ∷ 2 ∷ 3 ∷ []) refl (search_order c.args.0 c.args.1.0 c.args.1.1.0) (search-listed c.args.0 c.args.1.0 c.args.1.1.0) (ranged c.args.0 (degree c.args.0) c.args.1.0 c.args.1.1.0) (ranged_answered c.args.0 (degree c.args.0) c.args.1.0 c.args.1.1.0))

-- ---- "every lent buffer and list stays as it came"

built_refused : (v : Verdict) (s : Summary) (r : Refusal) (done came : List ℕ) → issued_of v s ≡ Err r → left v done came ≡ came
unfolding answer_of left
built_refused clear s r done came e = let z : ◌≡◌ {A = ℕ} 0 1 = cc in absurd (omega arith)
built_refused (refuse k p) s r done came e = refl

list-refused : (v : Verdict) (r : Refusal) (done came : List ℕ) → checked_of v ≡ Err r → left v done came ≡ came
unfolding answer_of left
list-refused clear r done came e = let z : ◌≡◌ {A = ℕ} 0 1 = cc in absurd (omega arith)
list-refused (refuse k p) r done came e = refl

pub build_unchanged : (c : Run calls.build) (r : Refusal) → c.result ≡ Err r → c.exit.1.1.0.now ≡ c.args.1.1.0.now
unfolding build_answer built_buffer
build_unchanged c r e = (build_is c).1 ∙ built_refused _ _ r _ c.args.1.1.0.now (sym (build_is c).0 ∙ e)

pub list-to-polynomial_unchanged : (c : Run calls.list-to-polynomial) (r : Refusal) → c.result ≡ Err r → c.exit.1.1.0.now ≡ c.args.1.1.0.now
unfolding polynomial_list_answer polynomial_list
list-to-polynomial_unchanged c r e = (list-to-polynomial_is c).1 ∙ list-refused _ r _ c.args.1.1.0.now (sym (list-to-polynomial_is c).0 ∙ e)

pub list-to-normal_unchanged : (c : Run calls.list-to-normal) (r : Refusal) → c.result ≡ Err r → c.exit.1.1.0.now ≡ c.args.1.1.0.now
unfolding normal_list_answer normal_list
list-to-normal_unchanged c r e = (list-to-normal_is c).1 ∙ list-refused _ r _ c.args.1.1.0.now (sym (list-to-normal_is c).0 ∙ e)

pub write_matrices_unchanged : (c : Run calls.write_matrices) (r : Refusal) → c.result ≡ Err r → c.exit.1.0.now ≡ c.args.1.0.now
write_matrices_unchanged c r e = (write_matrices_is c).1 ∙ written_kept c.args.0.now c.args.1.0.now r (sym (write_matrices_is c).0 ∙ e)
