-- `sheet::reading::read` meets its contract: the shape, then the sheet rebuilt.
-- Assumes nothing.
use Rattle.std.proofs.Common.{List, sym, ap, ◌∙◌, ℕ}
use Rattle.refusals.specs.Verdicts.{Verdict, first_of}
use Rattle.refusals.specs.Orders.{part-refused, part-clear}
use Rattle.refusals.specs.Answered.{answer-refused}
use Rattle.sheet.specs.Orders.{shape_order, rebuild_order, read_order}
use Rattle.sheet.specs.Answers.{summary_in, issued_of, read_answer, read_report}
use Rattle.sheet.specs.Answered.{issued_promised}
use Rattle.sheet.proofs.Clear.{shaped-clear}
use Rattle.sheet.proofs.reading.read.Goals as goal
use Rattle.std.specs.Prelude.{Err}
use Rattle.std.proofs.Common.{rules, ◌≡◌, ◌∙◌}

pub returns : goal.returns
unfolding read_answer read_report
returns c =
    let sheet = c.args.sheet.now in
    let clear-shape = rw c.in_ok-judged.ensures at (shaped-clear c.in_ok-judged.judged.bytes.now c.in_ok-judged.judged.shaped) in
    let whole = issued_promised (first_of (read_order sheet)) (summary_in sheet)
    (c.rebuilt.ensures ∙ ap (λ (s : List ℕ). issued_of (first_of (rebuild_order s)) (summary_in s)) c.in_ok-judged.ensures
    ∙ ap (λ (w : Verdict). issued_of w (summary_in sheet)) (sym (part-clear (shape_order sheet) (rebuild_order sheet) clear-shape))) in record { answer = whole.0; report = whole.1 }

pub returns-in_err-judged : goal.returns-in_err-judged
unfolding read_answer read_report
returns-in_err-judged c =
    let e : c.from_residual.result ≡ Err c.in_err-judged.field-0.0 = search rules in
    let sheet = c.args.sheet.now in
    let whole = issued_promised (first_of (read_order sheet)) (summary_in sheet)
    (e ∙ answer-refused Err _ (part-refused (shape_order sheet) (rebuild_order sheet) c.in_err-judged.field-0.0.fault c.in_err-judged.field-0.0.place c.in_err-judged.ensures)) in record { answer = whole.0; report = whole.1 }
