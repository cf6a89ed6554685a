-- The answer of the search, handed out, by its case.
-- Assumes nothing.
use Rattle.std.proofs.Common.{◌≡◌, sym, ap, ◌∙◌}
use Rattle.search.specs.Answers.{refused_report, case_report}
use Rattle.search.specs.declared.answer.Search.{Search}
use Rattle.capi.specs.Answers.{found_flag, desk_found}
use Rattle.capi.proofs.answer.DeskFoundFromSearch.from.Goals as goal

-- the numbers of an answer are those of the case that it is
of-case : {a b : Search} → a ≡ b → desk_found (found_flag b) (case_report b) ≡ desk_found (found_flag a) (case_report a)
of-case e = sym (ap (λ (s : Search). desk_found (found_flag s) (case_report s)) e)

pub returns-in-Refused : goal.returns-in-Refused
unfolding found_flag refused_report case_report
returns-in-Refused c = (rw c.number.ensures at c.not_found.ensures) ∙ of-case c.in-Refused.is

pub returns-in-Nothing : goal.returns-in-Nothing
unfolding found_flag refused_report case_report
returns-in-Nothing c = c.not_found-in-Nothing.ensures ∙ of-case c.in-Nothing.is

pub returns-in-Found : goal.returns-in-Found
unfolding found_flag case_report
returns-in-Found c = rw c.from.ensures (of-case c.in-Found.is)
