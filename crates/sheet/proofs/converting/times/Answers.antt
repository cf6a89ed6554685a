-- `sheet::converting::times` meets its contract: the shape is judged, and then what the sheet answers is the answer.
-- Assumes nothing.
use Rattle.std.proofs.Common.{List, [], ◌∷◌, ℕ, ap, ◌∙◌}
use Rattle.refusals.specs.Verdicts.{first_of}
use Rattle.refusals.specs.Orders.{part-refused}
use Rattle.refusals.specs.Answered.{answer-refused, value-promised}
use Rattle.field.specs.Refusals.{element_order}
use Rattle.sheet.specs.Record.{record_count}
use Rattle.sheet.specs.Orders.{shape_order, times_order}
use Rattle.sheet.specs.Answers.{times_answer, times_report}
use Rattle.sheet.proofs.converting.times.Goals as goal
use Rattle.std.specs.Prelude.{Err}
use Rattle.std.proofs.Common.{rules, ◌≡◌, ◌∙◌}

pub returns : goal.returns
unfolding times_answer times_report
returns c =
    let whole = value-promised (first_of (times_order c.args.sheet.now c.args.a c.args.b)) _ (c.times.ensures ∙ ap (λ (s : List ℕ). times_answer s c.args.a c.args.b) c.in_ok-judged.ensures) in record { answer = whole.0; report = whole.1 }

pub returns-in_err-judged : goal.returns-in_err-judged
unfolding times_answer times_report
returns-in_err-judged c =
    let e : c.from_residual.result ≡ Err c.in_err-judged.field-0.0 = search rules in
    let whole = value-promised (first_of (times_order c.args.sheet.now c.args.a c.args.b)) _
    (e ∙ answer-refused Err _ (part-refused (shape_order c.args.sheet.now) (element_order (record_count c.args.sheet.now) (c.args.a ∷ c.args.b ∷ [])) c.in_err-judged.field-0.0.fault c.in_err-judged.field-0.0.place c.in_err-judged.ensures)) in record { answer = whole.0; report = whole.1 }
