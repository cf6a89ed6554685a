-- `sheet::shaped::Sheet::quotient` meets its contract: it judges, and then works.
-- Assumes nothing.
use mathlib.Core.Path.{ap, ◌∙◌}
use Rattle.refusals.specs.Verdicts.{first_of}
use Rattle.refusals.specs.Answered.{judged_clear, judged_refused, judged_done}
use Rattle.sheet.specs.Orders.{quotient_order}
use Rattle.sheet.specs.Answers.{quotient_answer}
use Rattle.sheet.proofs.DividingLaws.{division_judged}
use Rattle.sheet.proofs.shaped.Sheet.quotient.Goals as goal
use Rattle.std.proofs.Common.{rules, ◌≡◌}
use Rattle.std.specs.Prelude.{Ok, Err}

pub divided-requires : goal.divided-requires
divided-requires c =
    let j = division_judged c.args.self.now.bytes.now c.args.dividend c.args.divisor (judged_clear (first_of (quotient_order c.args.self.now.bytes.now c.args.dividend c.args.divisor)) c.division_verdict.ensures c.in_ok-division_verdict.was) in
    (j.1, j.2)

pub returns-in_err-division_verdict : goal.returns-in_err-division_verdict
unfolding quotient_answer
returns-in_err-division_verdict c =
    let e : c.from_residual.result ≡ Err c.in_err-division_verdict.field-0.0 = search rules in
    e ∙ judged_refused Err _ _ c.division_verdict.ensures c.in_err-division_verdict.was

pub returns : goal.returns
unfolding quotient_answer
returns c =
    ap Ok c.divided.ensures ∙ judged_done Err _ _ c.division_verdict.ensures c.in_ok-division_verdict.was
