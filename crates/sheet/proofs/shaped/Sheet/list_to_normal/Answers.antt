-- `sheet::shaped::Sheet::list_to_normal` meets its contract: it judges, and then works.
-- Assumes nothing.
use mathlib.Core.Path.{◌∙◌}
use lib.ListN.{length}
use Rattle.refusals.specs.Verdicts.{first_of}
use Rattle.refusals.specs.Answered.{judged_clear, judged_verdict, judged_refused, judged_done, left-clear, left-refused, checked_promised}
use Rattle.sheet.specs.Orders.{normal_list_order}
use Rattle.sheet.specs.Answers.{normal_list_answer, normal_list}
use Rattle.sheet.proofs.ListsLaws.{list_judged}
use Rattle.sheet.proofs.shaped.Sheet.list_to_normal.Goals as goal
use Rattle.std.specs.Prelude.{Err}
use Rattle.std.proofs.Common.{rules, ◌≡◌}
use Rattle.refusals.specs.Answers.{passed}

pub fill_coordinates-requires : goal.fill_coordinates-requires
fill_coordinates-requires c =
    let order = normal_list_order c.args.self.now.bytes.now c.args.from.now (length c.args.into.now) in
    let j = list_judged c.args.self.now.bytes.now (length c.args.from.now) (length c.args.into.now) (judged_clear (first_of order) c.list_verdict.ensures c.in_ok-list_verdict.was) in
    j.1.lengths

pub returns-in_err-list_verdict : goal.returns-in_err-list_verdict
unfolding normal_list_answer normal_list
returns-in_err-list_verdict c =
    let e : c.from_residual.result ≡ Err c.in_err-list_verdict.field-0.0 = search rules in
    let order = normal_list_order c.args.self.now.bytes.now c.args.from.now (length c.args.into.now) in
    let p = checked_promised (first_of order) (e ∙ judged_refused Err passed (first_of order) c.list_verdict.ensures c.in_err-list_verdict.was) in
    record { answer = p.0; written = left-refused _ c.args.into.now (judged_verdict (first_of order) c.list_verdict.ensures c.in_err-list_verdict.was) }

pub returns : goal.returns
unfolding normal_list_answer normal_list
returns c =
    let order = normal_list_order c.args.self.now.bytes.now c.args.from.now (length c.args.into.now) in
    let p = checked_promised (first_of order) (judged_done Err passed (first_of order) c.list_verdict.ensures c.in_ok-list_verdict.was) in
    record { answer = p.0; written = c.fill_coordinates.ensures ∙ left-clear _ c.args.into.now (judged_clear (first_of order) c.list_verdict.ensures c.in_ok-list_verdict.was) }
