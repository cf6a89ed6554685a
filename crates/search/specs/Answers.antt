-- What the call search answers: the order of its refusals, the case of its enum, and the documents' numbers for each case.
--
--   range_rule, search_order     "Search: 1, 4, 12, 2, 3."
--   search_answer f first last  the answer, as a function of the inputs
--   SearchReport               document 01's reading of an answer; `case_report` gives it for each case of the enum
--   search_report f first last  the numbers that the order's verdict gives
--
-- Assumes nothing.
use Rattle.std.specs.Prelude.{List, [], ◌∷◌, ◌++◌, ℕ, ltb}
use Rattle.gf2.specs.Poly.{degree}
use Rattle.refusals.specs.Verdicts.{fault_number, Rule, Verdict, clear, refuse, first_of}
use Rattle.refusals.specs.Answers.{answer_of}
use Rattle.refusals.specs.declared.answer.Refusal.{Refusal}
use Rattle.field.specs.Refusals.{operand_order, field_order}
use Rattle.normal.specs.Grades.{grade_number}
use Rattle.search.specs.Search.{ranged}
use Rattle.search.specs.declared.answer.Search.{Search}
use Rattle.search.specs.declared.answer.Search.TheVariants.{Refused, Nothing, Found}
use Rattle.refusals.specs.declared.fault.Fault.TheVariants as faults

-- "first of the range is greater than last"
abbrev pub range_rule : (first last : ℕ) → Rule
range_rule first last = record { fault = faults.EmptyRange; place = 0; applies = ltb last first }

-- "Search: 1, 4, 12, 2, 3."
abbrev pub search_order : (f first last : ℕ) → List Rule
search_order f first last = operand_order f (first ∷ last ∷ []) ++ (range_rule first last ∷ field_order f)

-- "refused with a number", or what the walk gives
abbrev pub search_of : Verdict → Search → Search
search_of v x = answer_of (λ (r : Refusal). Refused r.fault) x v

unfoldable pub search_answer : (f first last : ℕ) → Search
search_answer f first last = search_of (first_of (search_order f first last)) (ranged f (degree f) first last)

-- ---- the numbers

pub record SearchReport : Type 0 where
  pub number : ℕ
  pub element : ℕ
  pub complexity : ℕ
  pub grade : ℕ
  pub count : ℕ

-- "A refusal's other values are zero"
unfoldable pub refused_report : ℕ → SearchReport
refused_report k = record { number = k; element = 0; complexity = 0; grade = 0; count = 0 }

-- "refused with a number"; "nothing counts as 0"; "found, with the element, its complexity, its grade and the count"
unfoldable pub case_report : Search → SearchReport
case_report (Refused k) = refused_report (fault_number k)
case_report Nothing = record { number = 0; element = 0; complexity = 0; grade = 0; count = 0 }
case_report (Found x) =
    record { number = 0; element = x.element; complexity = x.complexity; grade = grade_number x.grade; count = x.count }

unfoldable pub report_of : Verdict → Search → SearchReport
report_of clear x = case_report x
report_of (refuse k p) x = refused_report (fault_number k)

unfoldable pub search_report : (f first last : ℕ) → SearchReport
search_report f first last = report_of (first_of (search_order f first last)) (ranged f (degree f) first last)
