-- `sheet::shaped::Sheet::judged` meets its contract: a clear shape is a good one.
-- Assumes nothing.
use Rattle.refusals.specs.Verdicts.{first_of}
use Rattle.refusals.specs.Answered.{judged_clear, judged_verdict}
use Rattle.sheet.specs.Orders.{shape_order}
use Rattle.sheet.proofs.Clear.{clear-shaped}
use Rattle.std.proofs.Common.{rules, ◌≡◌}
use Rattle.std.specs.Prelude.{Err}
use Rattle.sheet.proofs.shaped.Sheet.judged.Goals as goal

pub invariant_of-result : goal.invariant_of-result
invariant_of-result c = record {
  shaped = clear-shaped c.args.bytes.now (judged_clear (first_of (shape_order c.args.bytes.now)) c.shape_verdict.ensures c.in_ok-shape_verdict.was);
}

pub returns-in_err-shape_verdict : goal.returns-in_err-shape_verdict
returns-in_err-shape_verdict c =
    let e : c.from_residual.result ≡ Err c.in_err-shape_verdict.field-0.0 = search rules in
    rw e (judged_verdict (first_of (shape_order c.args.bytes.now)) c.shape_verdict.ensures c.in_err-shape_verdict.was)
