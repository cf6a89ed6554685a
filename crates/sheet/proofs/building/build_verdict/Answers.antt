-- `sheet::building::build_verdict` meets its contract: 1 and 4, then 6, 2 and 3.
-- Assumes nothing.
use Rattle.std.proofs.Common.{rules, ◌≡◌, ◌∙◌, [], ◌∷◌}
use Rattle.std.specs.Prelude.{Err}
use Rattle.gf2.specs.Poly.{degree}
use Rattle.refusals.specs.Verdicts.{first_of}
use Rattle.refusals.specs.Answered.{judged_clear, judged_verdict}
use Rattle.refusals.specs.Orders.{part-refused, part-clear}
use Rattle.field.specs.Refusals.{operand_order, field_order}
use Rattle.sheet.specs.Orders.{room_rule}
use Rattle.sheet.proofs.building.build_verdict.Goals as goal

pub returns-in_err-ring : goal.returns-in_err-ring
returns-in_err-ring c =
    let e : c.from_residual.result ≡ Err c.in_err-ring.field-0.0 = search rules in
    rw e
    (part-refused (operand_order c.args.f (c.args.element ∷ [])) (room_rule (degree c.args.f) c.args.room ∷ field_order c.args.f)
    c.in_err-ring.field-0.0.fault c.in_err-ring.field-0.0.place c.in_err-ring.ensures)

pub returns-in_err-room_verdict : goal.returns-in_err-room_verdict
returns-in_err-room_verdict c =
    let e : c.from_residual-in_err-room_verdict.result ≡ Err c.in_err-room_verdict.field-0.0 = search rules in
    let r = c.in_ok-ring.ring in
    let judged = rw (c.in_ok-ring.ensures.0, c.in_ok-ring.ensures.1) at
    (judged_verdict (first_of (room_rule r.n c.args.room ∷ field_order r.f)) c.room_verdict.ensures c.in_err-room_verdict.was) in
    rw e
    (part-clear (operand_order c.args.f (c.args.element ∷ [])) (room_rule (degree c.args.f) c.args.room ∷ field_order c.args.f) c.in_ok-ring.ensures.2 ∙ judged)

pub returns : goal.returns
returns c =
    let r = c.in_ok-ring.ring in
    let judged = rw (c.in_ok-ring.ensures.0, c.in_ok-ring.ensures.1) at
    (judged_clear (first_of (room_rule r.n c.args.room ∷ field_order r.f)) c.room_verdict.ensures c.in_ok-room_verdict.was) in (
      c.in_ok-ring.ensures.0,
      c.in_ok-ring.ensures.1,
      part-clear (operand_order c.args.f (c.args.element ∷ [])) (room_rule (degree c.args.f) c.args.room ∷ field_order c.args.f) c.in_ok-ring.ensures.2 ∙ judged,
    )
