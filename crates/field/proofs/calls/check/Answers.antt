-- `field::calls::check` meets its contract: what the verdict promises.
-- Assumes nothing.
use Rattle.std.proofs.Common.{rules, ◌≡◌, ◌∙◌}
use Rattle.std.specs.Prelude.{Err}
use Rattle.refusals.specs.Verdicts.{first_of}
use Rattle.refusals.specs.Answers.{passed}
use Rattle.refusals.specs.Answered.{answer-clear, answer-refused, checked_promised}
use Rattle.field.specs.Refusals.{check_order}
use Rattle.field.specs.Answers.{check_answer, check_report}
use Rattle.field.proofs.calls.check.Goals as goal

pub returns-in_err-check_verdict : goal.returns-in_err-check_verdict
unfolding check_answer check_report
returns-in_err-check_verdict c =
    let e : c.from_residual.result ≡ Err c.in_err-check_verdict.field-0.0 = search rules in
    let whole = checked_promised (first_of (check_order c.args.f)) (e ∙ answer-refused Err passed c.in_err-check_verdict.ensures) in
    record { answer = whole.0; report = whole.1 }

pub returns : goal.returns
unfolding check_answer check_report
returns c =
    let whole = checked_promised (first_of (check_order c.args.f)) (answer-clear Err passed c.in_ok-check_verdict.ensures.2) in
    record { answer = whole.0; report = whole.1 }
