-- `causes::calls::why` meets its contract: reading, and what lies behind its refusal.
-- Assumes nothing.
use mathlib.Core.Path.{sym, ◌∙◌}
use Rattle.refusals.specs.Verdicts.{first_of}
use Rattle.sheet.specs.Orders.{read_order}
use Rattle.sheet.specs.Answers.{summary_in, read_answer}
use Rattle.sheet.specs.Answered.{done-clear, refused_verdict}
use Rattle.causes.specs.Causes.{sheet_cause, why_answer}
use Rattle.causes.specs.Reported.{why-promised}
use Rattle.causes.specs.Cases.{cause-refused, cause-accepted}
use Rattle.causes.proofs.calls.why.Goals as goal

pub sheet_cause-requires : goal.sheet_cause-requires
unfolding read_answer
sheet_cause-requires c =
    let sheet = c.args.sheet.now in
    refused_verdict (first_of (read_order sheet)) (summary_in sheet) (sym c.read.ensures.answer ∙ c.in-Err.is)

pub returns-in-Err : goal.returns-in-Err
unfolding read_answer why_answer
returns-in-Err c =
    let sheet = c.args.sheet.now in
    let whole = why-promised sheet
    (cause-refused (sheet_cause sheet) (refused_verdict (first_of (read_order sheet)) (summary_in sheet) (sym c.read.ensures.answer ∙ c.in-Err.is)) c.sheet_cause.ensures) in record { answer = whole.0; report = whole.1 }

pub returns-in-Ok : goal.returns-in-Ok
unfolding read_answer why_answer
returns-in-Ok c =
    let sheet = c.args.sheet.now in
    let whole = why-promised sheet
    (cause-accepted (sheet_cause sheet) (done-clear (first_of (read_order sheet)) (summary_in sheet) _ (sym c.read.ensures.answer ∙ c.in-Ok.is))) in record { answer = whole.0; report = whole.1 }
