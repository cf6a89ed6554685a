-- `field::judging::operands_verdict` meets its contract: 1, then 4.
-- Assumes nothing.
use Rattle.std.proofs.Common.{rules, ◌≡◌, ◌∙◌, [], ◌∷◌, arith}
use Rattle.std.specs.Prelude.{Err}
use Rattle.gf2.specs.Poly.{degree}
use Rattle.refusals.specs.Verdicts.{first_of}
use Rattle.refusals.specs.Answered.{judged_clear, judged_verdict}
use Rattle.refusals.specs.Orders.{part-refused, part-clear}
use Rattle.field.specs.Refusals.{degree_rule, element_order}
use Rattle.field.proofs.judging.operands_verdict.Goals as goal

pub returns-in_err-ring : goal.returns-in_err-ring
returns-in_err-ring c =
    let e : c.from_residual.result ≡ Err c.in_err-ring.field-0.0 = search rules in
    rw e (part-refused (degree_rule c.args.f ∷ []) (element_order (degree c.args.f) (c.args.a ∷ c.args.b ∷ [])) c.in_err-ring.field-0.0.fault c.in_err-ring.field-0.0.place c.in_err-ring.ensures)

pub elements_verdict-requires : goal.elements_verdict-requires
elements_verdict-requires c = omega (arith, c.in_ok-ring.ring.in_range.most)

pub returns-in_err-elements_verdict : goal.returns-in_err-elements_verdict
returns-in_err-elements_verdict c =
    let e : c.from_residual-in_err-elements_verdict.result ≡ Err c.in_err-elements_verdict.field-0.0 = search rules in
    let values = c.args.a ∷ c.args.b ∷ [] in
    let judged = rw c.in_ok-ring.ensures.1 at (judged_verdict (first_of (element_order c.in_ok-ring.ring.n values)) c.elements_verdict.ensures c.in_err-elements_verdict.was) in
    rw e (part-clear (degree_rule c.args.f ∷ []) (element_order (degree c.args.f) values) c.in_ok-ring.ensures.2 ∙ judged)

pub returns : goal.returns
returns c =
    let values = c.args.a ∷ c.args.b ∷ [] in
    let judged = rw c.in_ok-ring.ensures.1 at (judged_clear (first_of (element_order c.in_ok-ring.ring.n values)) c.elements_verdict.ensures c.in_ok-elements_verdict.was) in
    (c.in_ok-ring.ensures.0, c.in_ok-ring.ensures.1, part-clear (degree_rule c.args.f ∷ []) (element_order (degree c.args.f) values) c.in_ok-ring.ensures.2 ∙ judged)
