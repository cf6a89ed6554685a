-- An answer of no value, handed out, by its case.
-- Assumes nothing.
use Rattle.std.proofs.Common.{sym, ap}
use Rattle.refusals.specs.Answers.{Checked, checked_report}
use Rattle.capi.specs.Answers.{desk_value}
use Rattle.capi.proofs.answer.DeskValueFromResultUnitRefusal.from.Goals as goal

pub returns-in-Ok : goal.returns-in-Ok
unfolding checked_report
returns-in-Ok c = sym (ap (λ (a : Checked). desk_value (checked_report a)) c.in-Ok.is)

pub returns-in-Err : goal.returns-in-Err
unfolding checked_report
returns-in-Err c = rw c.number.ensures (sym (ap (λ (a : Checked). desk_value (checked_report a)) c.in-Err.is))
