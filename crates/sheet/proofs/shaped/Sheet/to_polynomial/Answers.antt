-- `sheet::shaped::Sheet::to_polynomial` meets its contract: it judges, and then works.
-- Assumes nothing.
use mathlib.Core.Path.{ap, ◌∙◌}
use native.Mathlib.Omega.{arith}
use Rattle.refusals.specs.Verdicts.{first_of}
use Rattle.refusals.specs.Answered.{judged_clear, judged_refused, judged_done}
use Rattle.sheet.specs.Orders.{polynomial_order}
use Rattle.sheet.specs.Answers.{to_polynomial, polynomial_answer}
use Rattle.sheet.proofs.ConvertingLaws.{value_judged}
use Rattle.sheet.proofs.shaped.Sheet.to_polynomial.Goals as goal
use Rattle.std.proofs.Common.{rules, ◌≡◌}
use Rattle.std.specs.Prelude.{Ok, Err}

pub converted-requires : goal.converted-requires
converted-requires c =
    let j = value_judged c.args.self.now.bytes.now c.args.coordinates (judged_clear (first_of (polynomial_order c.args.self.now.bytes.now c.args.coordinates)) c.value_verdict.ensures c.in_ok-value_verdict.was) in
    (omega arith, j.1)

pub returns-in_err-value_verdict : goal.returns-in_err-value_verdict
unfolding polynomial_answer
returns-in_err-value_verdict c =
    let e : c.from_residual.result ≡ Err c.in_err-value_verdict.field-0.0 = search rules in
    e ∙ judged_refused Err _ _ c.value_verdict.ensures c.in_err-value_verdict.was

pub returns : goal.returns
unfolding to_polynomial polynomial_answer
returns c =
    ap Ok c.converted.ensures ∙ judged_done Err _ _ c.value_verdict.ensures c.in_ok-value_verdict.was
