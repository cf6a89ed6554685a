-- Demand 1 (document 01, "Strength of each call"): the promise of a public call determines its result and the final state of all it was
-- lent. For each of the twenty calls two theorems over the promise as the checker itself reads it, for all arguments:
--
--   .._is           a run returns the call's answer, as a function of its arguments, and leaves in lent memory what the same function says
--   .._determined   any two results, and any two final states of lent memory, that the promise permits are equal
--
-- So whatever `Demand2`, `Demand3`, `Division`, `Matrices` and `Causes` say of an answer they say of the call. In order: check, multiply,
-- square, trace; build, read; why, why_check, why_build; to_polynomial, to_normal, times, inverse, quotient; list_to_polynomial,
-- list_to_normal; write_matrices, read_matrices; search; listing. What is refused: `Refused`.
-- What of this a wrong definition breaks, and what rests on that, stands in `proofs/Demand1.antt`.
-- Assumes nothing.
use Rattle.std.specs.Prelude.{◌≡◌, ◌++◌, length, drop}
use Rattle.std.proofs.Common.{sym, ◌∙◌}
use Rattle.field.specs.Answers.{check_answer, multiply_answer, square_answer, trace_answer}
use Rattle.sheet.specs.Answers.{build_answer, built_buffer, polynomial_answer, times_answer, inverse_answer, quotient_answer, polynomial_list_answer, polynomial_list, normal_list_answer, normal_list}
use Rattle.causes.specs.Causes.{why_answer, why_check_answer, why_build_answer}
use Rattle.matrices.specs.Answers.{write_text_answer, written_text, read_text_answer}
use Rattle.search.specs.Answers.{search_answer}
use Rattle.listing.specs.Text.{listing_of}
use Rattle.promises.specs.Calls.{Run, Determined, DeterminedWith, check, multiply, square, trace, build, why, why-check, why-build, to-polynomial, to-normal, times, inverse, quotient, list-to-polynomial, list-to-normal, write_matrices, read-matrices, search, listing}

-- ---- the field calls

pub check_is : (c : Run check) → c.result ≡ check_answer c.args.0
check_is c = c.kept.0

pub check_determined : Determined check
check_determined κs a x y e e' p q = p.0 ∙ sym q.0

pub multiply_is : (c : Run multiply) → c.result ≡ multiply_answer c.args.0 c.args.1.0 c.args.1.1.0
multiply_is c = c.kept.0

pub multiply_determined : Determined multiply
multiply_determined κs a x y e e' p q = p.0 ∙ sym q.0

pub square_is : (c : Run square) → c.result ≡ square_answer c.args.0 c.args.1.0
square_is c = c.kept.0

pub square_determined : Determined square
square_determined κs a x y e e' p q = p.0 ∙ sym q.0

pub trace_is : (c : Run trace) → c.result ≡ trace_answer c.args.0 c.args.1.0
trace_is c = c.kept.0

pub trace_determined : Determined trace
trace_determined κs a x y e e' p q = p.0 ∙ sym q.0

-- ---- build and read

-- the lent buffer too
pub build_is : (c : Run build) → (c.result ≡ build_answer c.args.0 c.args.1.0 (length c.args.1.1.0.now))
    × (c.exit.1.1.0.now ≡ built_buffer c.args.0 c.args.1.0 c.args.1.1.0.now)
build_is c = (c.kept.0, c.kept.1.1)

pub build_determined : DeterminedWith build (λ κs e. e.1.1.0.now)
build_determined κs a x y e e' p q = (p.0 ∙ sym q.0, p.1.1 ∙ sym q.1.1)

-- ---- causes

pub why_is : (c : Run why) → c.result ≡ why_answer c.args.0.now
why_is c = c.kept.0

pub why_determined : Determined why
why_determined κs a x y e e' p q = p.0 ∙ sym q.0

pub why-check_is : (c : Run why-check) → c.result ≡ why_check_answer c.args.0
why-check_is c = c.kept.0

pub why-check_determined : Determined why-check
why-check_determined κs a x y e e' p q = p.0 ∙ sym q.0

pub why-build_is : (c : Run why-build) → c.result ≡ why_build_answer c.args.0 c.args.1.0
why-build_is c = c.kept.0

pub why-build_determined : Determined why-build
why-build_determined κs a x y e e' p q = p.0 ∙ sym q.0

-- ---- single values through a sheet

pub to-polynomial_is : (c : Run to-polynomial) → c.result ≡ polynomial_answer c.args.0.now c.args.1.0
to-polynomial_is c = c.kept.0

pub to-polynomial_determined : Determined to-polynomial
to-polynomial_determined κs a x y e e' p q = p.0 ∙ sym q.0

pub to-normal_determined : Determined to-normal
to-normal_determined κs a x y e e' p q = p.0 ∙ sym q.0

pub times_is : (c : Run times) → c.result ≡ times_answer c.args.0.now c.args.1.0 c.args.1.1.0
times_is c = c.kept.0

pub times_determined : Determined times
times_determined κs a x y e e' p q = p.0 ∙ sym q.0

pub inverse_is : (c : Run inverse) → c.result ≡ inverse_answer c.args.0.now c.args.1.0
inverse_is c = c.kept.0

pub inverse_determined : Determined inverse
inverse_determined κs a x y e e' p q = p.0 ∙ sym q.0

pub quotient_is : (c : Run quotient) → c.result ≡ quotient_answer c.args.0.now c.args.1.0 c.args.1.1.0
quotient_is c = c.kept.0

pub quotient_determined : Determined quotient
quotient_determined κs a x y e e' p q = p.0 ∙ sym q.0

-- ---- lists, with the lent list

pub list-to-polynomial_is : (c : Run list-to-polynomial) → (c.result ≡ polynomial_list_answer c.args.0.now c.args.1.0.now (length c.args.1.1.0.now))
    × (c.exit.1.1.0.now ≡ polynomial_list c.args.0.now c.args.1.0.now c.args.1.1.0.now)
list-to-polynomial_is c = (c.kept.0, c.kept.1.1)

pub list-to-polynomial_determined : DeterminedWith list-to-polynomial (λ κs e. e.1.1.0.now)
list-to-polynomial_determined κs a x y e e' p q = (p.0 ∙ sym q.0, p.1.1 ∙ sym q.1.1)

pub list-to-normal_is : (c : Run list-to-normal) → (c.result ≡ normal_list_answer c.args.0.now c.args.1.0.now (length c.args.1.1.0.now))
    × (c.exit.1.1.0.now ≡ normal_list c.args.0.now c.args.1.0.now c.args.1.1.0.now)
list-to-normal_is c = (c.kept.0, c.kept.1.1)

pub list-to-normal_determined : DeterminedWith list-to-normal (λ κs e. e.1.1.0.now)
list-to-normal_determined κs a x y e e' p q = (p.0 ∙ sym q.0, p.1.1 ∙ sym q.1.1)

-- ---- the text of the matrices, with the lent text

pub write_matrices_is : (c : Run write_matrices) → (c.result ≡ write_text_answer c.args.0.now (length c.args.1.0.now))
    × (c.exit.1.0.now ≡ written_text c.args.0.now c.args.1.0.now)
write_matrices_is c = (c.kept.0, c.kept.1.1)

pub write_matrices_determined : DeterminedWith write_matrices (λ κs e. e.1.0.now)
write_matrices_determined κs a x y e e' p q = (p.0 ∙ sym q.0, p.1.1 ∙ sym q.1.1)

pub read-matrices_is : (c : Run read-matrices) → c.result ≡ read_text_answer c.args.0 c.args.1.0 c.args.1.1.0.now
read-matrices_is c = c.kept.0

pub read-matrices_determined : Determined read-matrices
read-matrices_determined κs a x y e e' p q = p.0 ∙ sym q.0

-- ---- the search

pub search_is : (c : Run search) → c.result ≡ search_answer c.args.0 c.args.1.0 c.args.1.1.0
search_is c = c.kept.0

pub search_determined : Determined search
search_determined κs a x y e e' p q = p.0 ∙ sym q.0

-- ---- the listing, with the lent text

pub listing_is : (c : Run listing) → (c.result ≡ length (listing_of c.args.0.now))
    × (c.exit.1.0.now ≡ listing_of c.args.0.now ++ drop (length (listing_of c.args.0.now)) c.args.1.0.now)
listing_is c = (c.kept.0, c.kept.1.0)

pub listing_determined : DeterminedWith listing (λ κs e. e.1.0.now)
listing_determined κs a x y e e' p q = (p.0 ∙ sym q.0, p.1.0 ∙ sym q.1.0)
