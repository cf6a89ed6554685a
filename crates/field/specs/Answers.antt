-- What the four field calls answer, as functions of their inputs: the answer itself, and document 01's numbers for it.
-- Document 02, §6: multiplication, squaring and trace "take any 64-bit operand and answer for its remainder modulo f", which is `element f a`.
-- Definitions alone.
-- Assumes nothing.
use Rattle.std.specs.Prelude.{ℕ, Result}
use Rattle.refusals.specs.declared.answer.Refusal.{Refusal}
use Rattle.gf2.specs.Poly.{degree, rem, mul_mod}
use Rattle.refusals.specs.Verdicts.{first_of}
use Rattle.refusals.specs.Answers.{Report, report_of, value_of, Checked, checked_of}
use Rattle.field.specs.Field.{trace}
use Rattle.field.specs.Refusals.{multiply_order, square_order, trace_order, check_order}

-- "its remainder modulo f": the element that a word stands for
abbrev pub element : (f a : ℕ) → ℕ
element f a = rem f (degree f) a

unfoldable pub multiply_answer : (f a b : ℕ) → Result ℕ Refusal
multiply_answer f a b = value_of (first_of (multiply_order f)) (mul_mod f (degree f) (element f a) (element f b))

unfoldable pub multiply_report : (f a b : ℕ) → Report
multiply_report f a b = report_of (first_of (multiply_order f)) (mul_mod f (degree f) (element f a) (element f b))

unfoldable pub square_answer : (f a : ℕ) → Result ℕ Refusal
square_answer f a = value_of (first_of (square_order f)) (mul_mod f (degree f) (element f a) (element f a))

unfoldable pub square_report : (f a : ℕ) → Report
square_report f a = report_of (first_of (square_order f)) (mul_mod f (degree f) (element f a) (element f a))

unfoldable pub trace_answer : (f a : ℕ) → Result ℕ Refusal
trace_answer f a = value_of (first_of (trace_order f)) (trace f (degree f) (element f a))

unfoldable pub trace_report : (f a : ℕ) → Report
trace_report f a = report_of (first_of (trace_order f)) (trace f (degree f) (element f a))

unfoldable pub check_answer : (f : ℕ) → Checked
check_answer f = checked_of (first_of (check_order f))

unfoldable pub check_report : (f : ℕ) → Report
check_report f = report_of (first_of (check_order f)) 0
