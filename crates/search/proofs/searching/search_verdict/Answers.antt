-- `search::searching::search_verdict` meets its contract: 1 and 4, then 12, 2 and 3.
-- Assumes nothing.
use mathlib.Core.List.{[]}
use mathlib.Core.List.{◌∷◌}
use Rattle.refusals.specs.Verdicts.{first_of}
use Rattle.refusals.specs.Orders.{part-refused, part-clear}
use Rattle.refusals.specs.Answered.{judged_clear, judged_verdict}
use Rattle.field.specs.Refusals.{operand_order, field_order}
use Rattle.search.specs.Answers.{range_rule}
use Rattle.std.proofs.Common.{rules, ◌≡◌, ◌∙◌}
use Rattle.std.specs.Prelude.{Err}
use Rattle.search.proofs.searching.search_verdict.Goals as goal

pub returns-in_err-ring : goal.returns-in_err-ring
returns-in_err-ring c =
    let r = c.in_err-ring.field-0.0 in
    let e : c.from_residual.result ≡ Err r = search rules in
    rw e
    (part-refused (operand_order c.args.f (c.args.first ∷ c.args.last ∷ [])) (range_rule c.args.first c.args.last ∷ field_order c.args.f) r.fault r.place c.in_err-ring.ensures)

pub returns-in_err-range_verdict : goal.returns-in_err-range_verdict
returns-in_err-range_verdict c =
    let e : c.from_residual-in_err-range_verdict.result ≡ Err c.in_err-range_verdict.field-0.0 = search rules in
    let judged = rw c.in_ok-ring.ensures.0 at
    (judged_verdict (first_of (range_rule c.args.first c.args.last ∷ field_order c.in_ok-ring.ring.f)) c.range_verdict.ensures c.in_err-range_verdict.was) in
    rw e
    (part-clear (operand_order c.args.f (c.args.first ∷ c.args.last ∷ [])) (range_rule c.args.first c.args.last ∷ field_order c.args.f) c.in_ok-ring.ensures.2 ∙ judged)

pub returns : goal.returns
returns c =
    let judged = rw c.in_ok-ring.ensures.0 at
    (judged_clear (first_of (range_rule c.args.first c.args.last ∷ field_order c.in_ok-ring.ring.f)) c.range_verdict.ensures c.in_ok-range_verdict.was) in (
      c.in_ok-ring.ensures.0,
      c.in_ok-ring.ensures.1,
      part-clear (operand_order c.args.f (c.args.first ∷ c.args.last ∷ [])) (range_rule c.args.first c.args.last ∷ field_order c.args.f) c.in_ok-ring.ensures.2 ∙ judged,
    )
