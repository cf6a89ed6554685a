-- What the two calls decide and answer, by what the functions below them found: the verdict of each path, and the clauses of a promise that
-- follow from it.
--
--   built_based, built_verdict     a basis that was built, and the verdict on a text compared with its matrices
--   text_refused, text_rest        reading: 1 or 4 refuses, or 2, 3, 5 and 14 decide
--   write_refused, write_short     writing: what is refused; 6
--   write_done                     the text is written
--
-- When the calls are done: `Judging`. What writing leaves: `Exact`.
-- What of this a wrong definition breaks, and what rests on that, stands in `proofs/Calls.antt`.
-- Assumes nothing.
use Rattle.std.specs.Prelude.{◌≡◌, ℕ}
use Rattle.std.proofs.Math.Path.{sym, ap}
use Rattle.std.proofs.Common.{◌∙◌}
use mathlib.Core.List.{List, ◌++◌}
use Rattle.gf2.specs.Poly.{degree}
use Rattle.refusals.specs.Verdicts.{Verdict, refuse, first_of}
use Rattle.refusals.specs.Answered.{answer-refused}
use Rattle.refusals.specs.declared.answer.Refusal.{Refusal}
use Rattle.field.specs.Refusals.{field_order}
use Rattle.sheet.specs.Answers.{issued_of, issued_report, summary_of}
use Rattle.sheet.specs.Answered.{issued_promised}
use Rattle.matrices.specs.Orders.{match_order, read_text_order}
use Rattle.matrices.specs.Answers.{read_text_answer, read_text_report}
use Rattle.std.specs.Prelude.{Result, Err}
use Rattle.sheet.specs.declared.answer.Summary.{Summary}

-- ---- reading

module _ (f a : ℕ) (text : List ℕ) where
  pub text_refused : {r : Refusal} → first_of (read_text_order f a text) ≡ refuse r.fault r.place
      → (Err r ≡ read_text_answer f a text) × (issued_report (Err r) ≡ read_text_report f a text)
  unfolding read_text_answer read_text_report
  text_refused {r} e = issued_promised (first_of (read_text_order f a text)) (summary_of f (degree f) a) (answer-refused Err _ {r = r} e)

  pub text_rest : (n : ℕ) {r : Result Summary Refusal} → n ≡ degree f → first_of (read_text_order f a text) ≡ first_of (field_order f ++ match_order f (degree f) a text)
      → r ≡ issued_of (first_of (field_order f ++ match_order f n a text)) (summary_of f n a)
      → (r ≡ read_text_answer f a text) × (issued_report r ≡ read_text_report f a text)
  unfolding read_text_answer read_text_report
  text_rest n {r} en e er =
      issued_promised (first_of (read_text_order f a text)) (summary_of f (degree f) a)
      (er ∙ ap (λ (k : ℕ). issued_of (first_of (field_order f ++ match_order f k a text)) (summary_of f k a)) en
      ∙ ap (λ (w : Verdict). issued_of w (summary_of f (degree f) a)) (sym e))
