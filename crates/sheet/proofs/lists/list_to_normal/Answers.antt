-- `sheet::lists::list_to_normal` meets its contract: the shape is judged, and then what the sheet answers is the answer.
-- Assumes nothing.
use Rattle.std.proofs.Common.{List, [], ◌∷◌, ℕ, ap, ◌∙◌, length}
use Rattle.refusals.specs.Verdicts.{first_of}
use Rattle.refusals.specs.Orders.{part-refused}
use Rattle.refusals.specs.Answered.{answer-refused, left-refused, checked_promised}
use Rattle.sheet.specs.Orders.{shape_order, list_rule, normal_list_order}
use Rattle.sheet.specs.Answers.{normal_list_answer, normal_list_report, normal_list}
use Rattle.sheet.proofs.lists.list_to_normal.Goals as goal
use Rattle.std.specs.Prelude.{Err}
use Rattle.std.proofs.Common.{rules, ◌≡◌, ◌∙◌}
use Rattle.refusals.specs.Answers.{passed}

pub returns : goal.returns
unfolding normal_list_answer normal_list_report
returns c =
    let room = length c.args.into.now in
    let p = checked_promised (first_of (normal_list_order c.args.sheet.now c.args.from.now room))
    (c.list_to_normal.ensures.answer ∙ ap (λ (s : List ℕ). normal_list_answer s c.args.from.now room) c.in_ok-judged.ensures) in
    record { answer = p.0; report = p.1; written = c.list_to_normal.ensures.written ∙ ap (λ (s : List ℕ). normal_list s c.args.from.now c.args.into.now) c.in_ok-judged.ensures }

pub returns-in_err-judged : goal.returns-in_err-judged
unfolding normal_list_answer normal_list_report normal_list
returns-in_err-judged c =
    let e : c.from_residual.result ≡ Err c.in_err-judged.field-0.0 = search rules in
    let sheet = c.args.sheet.now in
    let from = c.args.from.now in
    let room = length c.args.into.now in
    let k = c.in_err-judged.field-0.0.fault in
    let i = c.in_err-judged.field-0.0.place in
    let v = part-refused (shape_order sheet) (list_rule (length from) room ∷ []) k i c.in_err-judged.ensures in
    let p = checked_promised (first_of (normal_list_order sheet from room)) (e ∙ answer-refused Err passed v) in
    record { answer = p.0; report = p.1; written = left-refused _ c.args.into.now v }
