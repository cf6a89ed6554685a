-- `field::judging::check_verdict` meets its contract: 1, then 2 and 3.
-- Assumes nothing.
use Rattle.std.proofs.Common.{rules, ◌≡◌, ◌∙◌, [], ◌∷◌}
use Rattle.std.specs.Prelude.{Err}
use Rattle.refusals.specs.Verdicts.{first_of}
use Rattle.refusals.specs.Answered.{judged_clear, judged_verdict}
use Rattle.refusals.specs.Orders.{part-refused, part-clear}
use Rattle.field.specs.Refusals.{degree_rule, field_order}
use Rattle.field.proofs.judging.check_verdict.Goals as goal

pub returns-in_err-ring : goal.returns-in_err-ring
returns-in_err-ring c =
    let e : c.from_residual.result ≡ Err c.in_err-ring.field-0.0 = search rules in
    rw e (part-refused (degree_rule c.args.f ∷ []) (field_order c.args.f) c.in_err-ring.field-0.0.fault c.in_err-ring.field-0.0.place c.in_err-ring.ensures)

pub returns-in_err-field_verdict : goal.returns-in_err-field_verdict
returns-in_err-field_verdict c =
    let e : c.from_residual-in_err-field_verdict.result ≡ Err c.in_err-field_verdict.field-0.0 = search rules in
    let judged = rw c.in_ok-ring.ensures.0 at (judged_verdict (first_of (field_order c.in_ok-ring.ring.f)) c.field_verdict.ensures c.in_err-field_verdict.was) in
    rw e (part-clear (degree_rule c.args.f ∷ []) (field_order c.args.f) c.in_ok-ring.ensures.2 ∙ judged)

pub returns : goal.returns
returns c =
    let judged = rw c.in_ok-ring.ensures.0 at (judged_clear (first_of (field_order c.in_ok-ring.ring.f)) c.field_verdict.ensures c.in_ok-field_verdict.was) in
    (c.in_ok-ring.ensures.0, c.in_ok-ring.ensures.1, part-clear (degree_rule c.args.f ∷ []) (field_order c.args.f) c.in_ok-ring.ensures.2 ∙ judged)
