-- Demand 1 for the functions that other languages and the command line call, with the theorems of `Demand1`: a run of an export returns
-- the numbers that the documents give for the answer of the call of its name, and a run on a word what the word means.
-- Assumes nothing.
use Rattle.std.specs.Prelude.{◌≡◌, length}
use Rattle.std.proofs.Common.{sym, ◌∙◌}
use Rattle.field.specs.Answers.{check_report, multiply_report, square_report, trace_report}
use Rattle.sheet.specs.Answers.{build_report, built_buffer, read_report, polynomial_report, normal_report, times_report, inverse_report, quotient_report, polynomial_list_report, polynomial_list, normal_list_report, normal_list}
use Rattle.causes.specs.Causes.{why_report}
use Rattle.matrices.specs.Answers.{write_text_report, written_text, read_text_report}
use Rattle.search.specs.Answers.{search_answer, search_report}
use Rattle.capi.specs.Answers.{desk_value, desk_issued, desk_found, desk_cause, desk_word, found_flag}
use Rattle.words.specs.Notation.{number_of, polynomial_of}
use Rattle.promises.specs.Calls.{Run, Determined, DeterminedWith, desk_check, desk_multiply, desk_square, desk_trace, desk_build, desk_read, desk_why, desk_to-polynomial, desk_to-normal, desk_times, desk_inverse, desk_quotient, desk_list-to-polynomial, desk_list-to-normal, desk_write_matrices, desk_read-matrices, desk_search, desk_number_of, desk_polynomial_of, number, polynomial}

-- ---- the field calls

pub desk_check_is : (c : Run desk_check) → c.result ≡ desk_value (check_report c.args.0)
desk_check_is c = c.kept

pub desk_check_determined : Determined desk_check
desk_check_determined κs a x y e e' p q = p ∙ sym q

pub desk_multiply_is : (c : Run desk_multiply) → c.result ≡ desk_value (multiply_report c.args.0 c.args.1.0 c.args.1.1.0)
desk_multiply_is c = c.kept

pub desk_multiply_determined : Determined desk_multiply
desk_multiply_determined κs a x y e e' p q = p ∙ sym q

pub desk_square_is : (c : Run desk_square) → c.result ≡ desk_value (square_report c.args.0 c.args.1.0)
desk_square_is c = c.kept

pub desk_square_determined : Determined desk_square
desk_square_determined κs a x y e e' p q = p ∙ sym q

pub desk_trace_is : (c : Run desk_trace) → c.result ≡ desk_value (trace_report c.args.0 c.args.1.0)
desk_trace_is c = c.kept

pub desk_trace_determined : Determined desk_trace
desk_trace_determined κs a x y e e' p q = p ∙ sym q

-- ---- sheets

pub desk_build_is : (c : Run desk_build) → (c.result ≡ desk_issued (build_report c.args.0 c.args.1.0 (length c.args.1.1.0.now)))
    × (c.exit.1.1.0.now ≡ built_buffer c.args.0 c.args.1.0 c.args.1.1.0.now)
desk_build_is c = (c.kept.0, c.kept.1)

pub desk_build_determined : DeterminedWith desk_build (λ κs e. e.1.1.0.now)
desk_build_determined κs a x y e e' p q = (p.0 ∙ sym q.0, p.1 ∙ sym q.1)

pub desk_read_is : (c : Run desk_read) → c.result ≡ desk_issued (read_report c.args.0.now)
desk_read_is c = c.kept

pub desk_read_determined : Determined desk_read
desk_read_determined κs a x y e e' p q = p ∙ sym q

pub desk_why_is : (c : Run desk_why) → c.result ≡ desk_cause (why_report c.args.0.now)
desk_why_is c = c.kept

pub desk_why_determined : Determined desk_why
desk_why_determined κs a x y e e' p q = p ∙ sym q

pub desk_to-polynomial_is : (c : Run desk_to-polynomial) → c.result ≡ desk_value (polynomial_report c.args.0.now c.args.1.0)
desk_to-polynomial_is c = c.kept

pub desk_to-polynomial_determined : Determined desk_to-polynomial
desk_to-polynomial_determined κs a x y e e' p q = p ∙ sym q

pub desk_to-normal_is : (c : Run desk_to-normal) → c.result ≡ desk_value (normal_report c.args.0.now c.args.1.0)
desk_to-normal_is c = c.kept

pub desk_to-normal_determined : Determined desk_to-normal
desk_to-normal_determined κs a x y e e' p q = p ∙ sym q

pub desk_times_is : (c : Run desk_times) → c.result ≡ desk_value (times_report c.args.0.now c.args.1.0 c.args.1.1.0)
desk_times_is c = c.kept

pub desk_times_determined : Determined desk_times
desk_times_determined κs a x y e e' p q = p ∙ sym q

pub desk_inverse_is : (c : Run desk_inverse) → c.result ≡ desk_value (inverse_report c.args.0.now c.args.1.0)
desk_inverse_is c = c.kept

pub desk_inverse_determined : Determined desk_inverse
desk_inverse_determined κs a x y e e' p q = p ∙ sym q

pub desk_quotient_is : (c : Run desk_quotient) → c.result ≡ desk_value (quotient_report c.args.0.now c.args.1.0 c.args.1.1.0)
desk_quotient_is c = c.kept

pub desk_quotient_determined : Determined desk_quotient
desk_quotient_determined κs a x y e e' p q = p ∙ sym q

pub desk_list-to-polynomial_is : (c : Run desk_list-to-polynomial) → (c.result ≡ desk_value (polynomial_list_report c.args.0.now c.args.1.0.now (length c.args.1.1.0.now)))
    × (c.exit.1.1.0.now ≡ polynomial_list c.args.0.now c.args.1.0.now c.args.1.1.0.now)
desk_list-to-polynomial_is c = (c.kept.0, c.kept.1)

pub desk_list-to-polynomial_determined : DeterminedWith desk_list-to-polynomial (λ κs e. e.1.1.0.now)
desk_list-to-polynomial_determined κs a x y e e' p q = (p.0 ∙ sym q.0, p.1 ∙ sym q.1)

pub desk_list-to-normal_is : (c : Run desk_list-to-normal) → (c.result ≡ desk_value (normal_list_report c.args.0.now c.args.1.0.now (length c.args.1.1.0.now)))
    × (c.exit.1.1.0.now ≡ normal_list c.args.0.now c.args.1.0.now c.args.1.1.0.now)
desk_list-to-normal_is c = (c.kept.0, c.kept.1)

pub desk_list-to-normal_determined : DeterminedWith desk_list-to-normal (λ κs e. e.1.1.0.now)
desk_list-to-normal_determined κs a x y e e' p q = (p.0 ∙ sym q.0, p.1 ∙ sym q.1)

-- ---- the text of the matrices

pub desk_write_matrices_is : (c : Run desk_write_matrices) → (c.result ≡ desk_issued (write_text_report c.args.0.now (length c.args.1.0.now)))
    × (c.exit.1.0.now ≡ written_text c.args.0.now c.args.1.0.now)
desk_write_matrices_is c = (c.kept.0, c.kept.1)

pub desk_write_matrices_determined : DeterminedWith desk_write_matrices (λ κs e. e.1.0.now)
desk_write_matrices_determined κs a x y e e' p q = (p.0 ∙ sym q.0, p.1 ∙ sym q.1)

pub desk_read-matrices_is : (c : Run desk_read-matrices) → c.result ≡ desk_issued (read_text_report c.args.0 c.args.1.0 c.args.1.1.0.now)
desk_read-matrices_is c = c.kept

pub desk_read-matrices_determined : Determined desk_read-matrices
desk_read-matrices_determined κs a x y e e' p q = p ∙ sym q

-- ---- the search

pub desk_search_is : (c : Run desk_search) → c.result ≡ desk_found (found_flag (search_answer c.args.0 c.args.1.0 c.args.1.1.0)) (search_report c.args.0 c.args.1.0 c.args.1.1.0)
desk_search_is c = c.kept

pub desk_search_determined : Determined desk_search
desk_search_determined κs a x y e e' p q = p ∙ sym q

-- ---- words

pub number_is : (c : Run number) → c.result ≡ number_of c.args.0.now
number_is c = c.kept

pub number_determined : Determined number
number_determined κs a x y e e' p q = p ∙ sym q

pub polynomial_is : (c : Run polynomial) → c.result ≡ polynomial_of c.args.0.now
polynomial_is c = c.kept

pub polynomial_determined : Determined polynomial
polynomial_determined κs a x y e e' p q = p ∙ sym q

pub desk_number_of_is : (c : Run desk_number_of) → c.result ≡ desk_word (number_of c.args.0.now)
desk_number_of_is c = c.kept

pub desk_number_of_determined : Determined desk_number_of
desk_number_of_determined κs a x y e e' p q = p ∙ sym q

pub desk_polynomial_of_is : (c : Run desk_polynomial_of) → c.result ≡ desk_word (polynomial_of c.args.0.now)
desk_polynomial_of_is c = c.kept

pub desk_polynomial_of_determined : Determined desk_polynomial_of
desk_polynomial_of_determined κs a x y e e' p q = p ∙ sym q
