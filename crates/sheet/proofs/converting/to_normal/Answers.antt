-- `sheet::converting::to_normal` meets its contract: the shape is judged, and then a word of any size is converted.
-- Assumes nothing.
use Rattle.std.proofs.Common.{List, ℕ, ap, ◌∙◌}
use Rattle.refusals.specs.Verdicts.{first_of}
use Rattle.refusals.specs.Answered.{answer-clear, answer-refused, value-promised}
use Rattle.sheet.specs.Orders.{normal_order}
use Rattle.sheet.specs.Answers.{to_normal, normal_answer, normal_report}
use Rattle.sheet.proofs.Clear.{shaped-clear}
use Rattle.sheet.proofs.converting.to_normal.Goals as goal
use Rattle.std.specs.Prelude.{Ok, Err}
use Rattle.std.proofs.Common.{rules, ◌≡◌, ◌∙◌}

pub returns : goal.returns
unfolding normal_answer normal_report
returns c =
    let clear-shape = rw c.in_ok-judged.ensures at (shaped-clear c.in_ok-judged.judged.bytes.now c.in_ok-judged.judged.shaped) in
    let whole = value-promised (first_of (normal_order c.args.sheet.now)) _
    (ap Ok (c.to_normal.ensures ∙ ap (λ (s : List ℕ). to_normal s c.args.word) c.in_ok-judged.ensures) ∙ answer-clear Err _ clear-shape) in record { answer = whole.0; report = whole.1 }

pub returns-in_err-judged : goal.returns-in_err-judged
unfolding normal_answer normal_report
returns-in_err-judged c =
    let e : c.from_residual.result ≡ Err c.in_err-judged.field-0.0 = search rules in
    let whole = value-promised (first_of (normal_order c.args.sheet.now)) _ (e ∙ answer-refused Err _ c.in_err-judged.ensures) in record { answer = whole.0; report = whole.1 }
