-- `sheet::shaped::Sheet::list_to_polynomial` meets its contract: it judges, and then works.
-- Assumes nothing.
use mathlib.Core.Path.{◌∙◌}
use lib.ListN.{length}
use Rattle.refusals.specs.Verdicts.{first_of}
use Rattle.refusals.specs.Answered.{judged_clear, judged_verdict, judged_refused, judged_done, left-clear, left-refused, checked_promised}
use Rattle.sheet.specs.Orders.{polynomial_list_order}
use Rattle.sheet.specs.Answers.{polynomial_list_answer, polynomial_list}
use Rattle.sheet.proofs.ListsLaws.{polynomials_judged}
use Rattle.sheet.proofs.shaped.Sheet.list_to_polynomial.Goals as goal
use Rattle.std.specs.Prelude.{Err}
use Rattle.std.proofs.Common.{rules, ◌≡◌}
use Rattle.refusals.specs.Answers.{passed}

pub fill_polynomials-requires : goal.fill_polynomials-requires
fill_polynomials-requires c =
    let order = polynomial_list_order c.args.self.now.bytes.now c.args.from.now (length c.args.into.now) in
    let j = polynomials_judged c.args.self.now.bytes.now c.args.from.now (length c.args.into.now) (judged_clear (first_of order) c.polynomial_list_verdict.ensures c.in_ok-polynomial_list_verdict.was) in
    (j.1.lengths, j.2)

pub returns-in_err-polynomial_list_verdict : goal.returns-in_err-polynomial_list_verdict
unfolding polynomial_list_answer polynomial_list
returns-in_err-polynomial_list_verdict c =
    let e : c.from_residual.result ≡ Err c.in_err-polynomial_list_verdict.field-0.0 = search rules in
    let order = polynomial_list_order c.args.self.now.bytes.now c.args.from.now (length c.args.into.now) in
    let p = checked_promised (first_of order) (e ∙ judged_refused Err passed (first_of order) c.polynomial_list_verdict.ensures c.in_err-polynomial_list_verdict.was) in
    record { answer = p.0; written = left-refused _ c.args.into.now (judged_verdict (first_of order) c.polynomial_list_verdict.ensures c.in_err-polynomial_list_verdict.was) }

pub returns : goal.returns
unfolding polynomial_list_answer polynomial_list
returns c =
    let order = polynomial_list_order c.args.self.now.bytes.now c.args.from.now (length c.args.into.now) in
    let p = checked_promised (first_of order) (judged_done Err passed (first_of order) c.polynomial_list_verdict.ensures c.in_ok-polynomial_list_verdict.was) in
    record { answer = p.0; written = c.fill_polynomials.ensures ∙ left-clear _ c.args.into.now (judged_clear (first_of order) c.polynomial_list_verdict.ensures c.in_ok-polynomial_list_verdict.was) }
