-- `sheet::shaped::Sheet::times` meets its contract: it judges, and then works.
-- Assumes nothing.
use mathlib.Core.Path.{ap, ◌∙◌}
use Rattle.refusals.specs.Verdicts.{first_of}
use Rattle.refusals.specs.Answered.{judged_clear, judged_refused, judged_done}
use Rattle.sheet.specs.Orders.{times_order}
use Rattle.sheet.specs.Answers.{times_answer}
use Rattle.sheet.proofs.ConvertingLaws.{values_judged}
use Rattle.sheet.proofs.shaped.Sheet.times.Goals as goal
use Rattle.std.proofs.Common.{rules, ◌≡◌}
use Rattle.std.specs.Prelude.{Ok, Err}

pub multiplied-requires : goal.multiplied-requires
multiplied-requires c =
    let j = values_judged c.args.self.now.bytes.now c.args.a c.args.b (judged_clear (first_of (times_order c.args.self.now.bytes.now c.args.a c.args.b)) c.values_verdict.ensures c.in_ok-values_verdict.was) in
    (j.1, j.2)

pub returns-in_err-values_verdict : goal.returns-in_err-values_verdict
unfolding times_answer
returns-in_err-values_verdict c =
    let e : c.from_residual.result ≡ Err c.in_err-values_verdict.field-0.0 = search rules in
    e ∙ judged_refused Err _ _ c.values_verdict.ensures c.in_err-values_verdict.was

pub returns : goal.returns
unfolding times_answer
returns c =
    ap Ok c.multiplied.ensures ∙ judged_done Err _ _ c.values_verdict.ensures c.in_ok-values_verdict.was
