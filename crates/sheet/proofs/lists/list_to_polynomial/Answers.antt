-- `sheet::lists::list_to_polynomial` meets its contract: the shape is judged, and then what the sheet answers is the answer.
-- Assumes nothing.
use Rattle.std.proofs.Common.{List, [], ◌∷◌, ℕ, ap, ◌∙◌, length}
use Rattle.refusals.specs.Verdicts.{first_of}
use Rattle.refusals.specs.Orders.{part-refused}
use Rattle.refusals.specs.Answered.{answer-refused, left-refused, checked_promised}
use Rattle.sheet.specs.Record.{record_count}
use Rattle.sheet.specs.Orders.{shape_order, list_rule, list_order, value_rules, polynomial_list_order}
use Rattle.sheet.specs.Answers.{polynomial_list_answer, polynomial_list_report, polynomial_list}
use Rattle.sheet.proofs.lists.list_to_polynomial.Goals as goal
use Rattle.std.specs.Prelude.{Err}
use Rattle.std.proofs.Common.{rules, ◌≡◌, ◌∙◌}
use Rattle.refusals.specs.Answers.{passed}

pub returns : goal.returns
unfolding polynomial_list_answer polynomial_list_report
returns c =
    let room = length c.args.into.now in
    let p = checked_promised (first_of (polynomial_list_order c.args.sheet.now c.args.from.now room))
    (c.list_to_polynomial.ensures.answer ∙ ap (λ (s : List ℕ). polynomial_list_answer s c.args.from.now room) c.in_ok-judged.ensures) in
    record { answer = p.0; report = p.1; written = c.list_to_polynomial.ensures.written ∙ ap (λ (s : List ℕ). polynomial_list s c.args.from.now c.args.into.now) c.in_ok-judged.ensures }

pub returns-in_err-judged : goal.returns-in_err-judged
unfolding polynomial_list_answer polynomial_list_report polynomial_list
returns-in_err-judged c =
    let e : c.from_residual.result ≡ Err c.in_err-judged.field-0.0 = search rules in
    let sheet = c.args.sheet.now in
    let from = c.args.from.now in
    let room = length c.args.into.now in
    let k = c.in_err-judged.field-0.0.fault in
    let i = c.in_err-judged.field-0.0.place in
    let v = part-refused (list_order sheet (length from) room) (value_rules (record_count sheet) 0 from) k i (part-refused (shape_order sheet) (list_rule (length from) room ∷ []) k i c.in_err-judged.ensures) in
    let p = checked_promised (first_of (polynomial_list_order sheet from room)) (e ∙ answer-refused Err passed v) in
    record { answer = p.0; report = p.1; written = left-refused _ c.args.into.now v }
