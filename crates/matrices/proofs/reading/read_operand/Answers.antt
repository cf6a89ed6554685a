-- `matrices::reading::read_operand` meets its contract: 2 and 3, then 5 and 14.
-- Assumes nothing.
use mathlib.Core.Path.{sym, ap, ◌∙◌}
use Rattle.refusals.specs.Verdicts.{Verdict, first_of}
use Rattle.refusals.specs.Answered.{answer-refused, judged_clear, part-refuses, part-passes}
use Rattle.field.specs.Refusals.{field_order}
use Rattle.sheet.specs.Answers.{issued_of, summary_of}
use Rattle.matrices.specs.Orders.{match_order}
use Rattle.matrices.proofs.reading.read_operand.Goals as goal
use Rattle.std.proofs.Common.{rules, ◌≡◌}
use Rattle.std.specs.Prelude.{Err}

pub read_built-requires : goal.read_built-requires
read_built-requires c =
    (c.requires, judged_clear (first_of (field_order c.args.ring.f)) c.field_verdict.ensures c.in_ok-field_verdict.was)

pub returns-in_err-field_verdict : goal.returns-in_err-field_verdict
returns-in_err-field_verdict c =
    let e : c.from_residual.result ≡ Err c.in_err-field_verdict.field-0.0 = search rules in
    e ∙ answer-refused Err _
    (part-refuses (field_order c.args.ring.f) (match_order c.args.ring.f c.args.ring.n c.args.element c.args.text.now) c.field_verdict.ensures c.in_err-field_verdict.was)

pub returns : goal.returns
returns c =
    c.read_built.ensures
    ∙ ap (λ (w : Verdict). issued_of w (summary_of c.args.ring.f c.args.ring.n c.args.element))
    (sym (part-passes (field_order c.args.ring.f) (match_order c.args.ring.f c.args.ring.n c.args.element c.args.text.now) c.field_verdict.ensures c.in_ok-field_verdict.was))
