-- What the calls on the text of the matrices answer: a Result, the documents' numbers for each of its cases, and the final state of the
-- lent buffer. "Answering as build does" is said of reading; writing answers so too. Definitions alone.
--
--   text_in sheet                 the text of the polynomial and the element that a sheet names
--   write_text_answer, .._report   writing, as functions of its inputs; `written_text`: what the lent buffer holds at the end
--   read_text_answer, .._report    reading
--
-- Assumes nothing.
use Rattle.std.specs.Prelude.{List, ℕ, length}
use Rattle.gf2.specs.Poly.{degree}
use Rattle.refusals.specs.Verdicts.{first_of}
use Rattle.refusals.specs.Answers.{left}
use Rattle.sheet.specs.Record.{record_count, conjugate_in, polynomial_in}
use Rattle.sheet.specs.Answers.{Issue, issue_of, issued_of, summary_of, summary_in, at_front}
use Rattle.matrices.specs.Matrices.{matrices_text}
use Rattle.matrices.specs.Orders.{write_text_order, read_text_order}
use Rattle.std.specs.Prelude.{Result}
use Rattle.refusals.specs.declared.answer.Refusal.{Refusal}
use Rattle.sheet.specs.declared.answer.Summary.{Summary}

-- ---- writing

abbrev pub text_in : (sheet : List ℕ) → List ℕ
text_in sheet = matrices_text (polynomial_in sheet) (record_count sheet) (conjugate_in sheet 0)

unfoldable pub write_text_answer : (sheet : List ℕ) (room : ℕ) → Result Summary Refusal
write_text_answer sheet room = issued_of (first_of (write_text_order sheet room)) (summary_in sheet)

unfoldable pub write_text_report : (sheet : List ℕ) (room : ℕ) → Issue
write_text_report sheet room = issue_of (first_of (write_text_order sheet room)) (summary_in sheet)

-- the text at the front, and the bytes past it unchanged; on a refusal the whole buffer is
unfoldable pub written_text : (sheet buffer : List ℕ) → List ℕ
written_text sheet buffer = left (first_of (write_text_order sheet (length buffer))) (at_front (text_in sheet) buffer) buffer

-- ---- "Reading needs f and the element too."

unfoldable pub read_text_answer : (f a : ℕ) (text : List ℕ) → Result Summary Refusal
read_text_answer f a text = issued_of (first_of (read_text_order f a text)) (summary_of f (degree f) a)

unfoldable pub read_text_report : (f a : ℕ) (text : List ℕ) → Issue
read_text_report f a text = issue_of (first_of (read_text_order f a text)) (summary_of f (degree f) a)
