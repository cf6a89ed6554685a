-- A cause, handed out, by its case.
-- Assumes nothing.
use Rattle.std.proofs.Common.{◌≡◌, sym, ap, ◌∙◌}
use Rattle.causes.specs.Causes.{cause_report}
use Rattle.causes.specs.declared.answer.Cause.{Cause}
use Rattle.capi.specs.Answers.{desk_cause}
use Rattle.capi.proofs.answer.DeskCauseFromCause.from.Goals as goal

-- the numbers of an answer are those of the case that it is
of-case : {a b : Cause} → a ≡ b → desk_cause (cause_report b) ≡ desk_cause (cause_report a)
of-case e = sym (ap (λ (c : Cause). desk_cause (cause_report c)) e)

pub returns-in-Accepted : goal.returns-in-Accepted
unfolding cause_report
returns-in-Accepted c = c.number_behind.ensures ∙ of-case c.in-Accepted.is

pub returns-in-Refused : goal.returns-in-Refused
unfolding cause_report
returns-in-Refused c = (rw c.number.ensures at c.number_behind-in-Refused.ensures) ∙ of-case c.in-Refused.is

pub returns-in-Divisor : goal.returns-in-Divisor
unfolding cause_report
returns-in-Divisor c = c.number_behind-in-Divisor.ensures ∙ of-case c.in-Divisor.is

pub returns-in-Became : goal.returns-in-Became
unfolding cause_report
returns-in-Became c = c.number_behind-in-Became.ensures ∙ of-case c.in-Became.is

pub returns-in-Dependency : goal.returns-in-Dependency
unfolding cause_report
returns-in-Dependency c = c.number_behind-in-Dependency.ensures ∙ of-case c.in-Dependency.is

pub returns-in-Differs : goal.returns-in-Differs
unfolding cause_report
returns-in-Differs c = c.from.ensures ∙ of-case c.in-Differs.is
