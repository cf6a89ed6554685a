-- The answer of build or of reading, handed out, by its case.
-- Assumes nothing.
use Rattle.std.proofs.Common.{sym, ap}
use Rattle.std.specs.Prelude.{Result}
use Rattle.refusals.specs.declared.answer.Refusal.{Refusal}
use Rattle.sheet.specs.Answers.{issued_report}
use Rattle.sheet.specs.declared.answer.Summary.{Summary}
use Rattle.capi.specs.Answers.{desk_issued}
use Rattle.capi.proofs.answer.DeskIssuedFromResultSummaryRefusal.from.Goals as goal

pub returns-in-Ok : goal.returns-in-Ok
unfolding issued_report
returns-in-Ok c = rw c.from.ensures (sym (ap (λ (a : Result Summary Refusal). desk_issued (issued_report a)) c.in-Ok.is))

pub returns-in-Err : goal.returns-in-Err
unfolding issued_report
returns-in-Err c = rw c.number.ensures (sym (ap (λ (a : Result Summary Refusal). desk_issued (issued_report a)) c.in-Err.is))
