-- `sheet::building::build` meets its contract: it judges, and then works.
-- Assumes nothing.
use mathlib.Core.List.{[]}
use mathlib.Core.List.{◌∷◌}
use lib.ListN.{length}
use Rattle.gf2.specs.Poly.{degree}
use Rattle.refusals.specs.Orders.{part-refused, part-clear}
use Rattle.sheet.specs.Orders.{normal_rule, room_order}
use Rattle.sheet.specs.Building.{room_judged, build-refused, build-rest}
use Rattle.std.proofs.Common.{rules, ◌≡◌, ap, ◌∙◌}
use Rattle.std.specs.Prelude.{Err}
use Rattle.sheet.specs.Answers.{issued_report}
use Rattle.sheet.proofs.building.build.Goals as goal

pub build_judged-requires : goal.build_judged-requires
build_judged-requires c =
    let j = room_judged c.args.f c.in_ok-ring.ring.n c.args.element (length c.args.buffer.now) c.in_ok-ring.ensures.1 c.in_ok-ring.ensures.2 in
    (j.0.small, j.1)

pub returns-in_err-ring : goal.returns-in_err-ring
returns-in_err-ring c =
    let r = c.in_err-ring.field-0.0 in
    let e : c.from_residual.result ≡ Err r = search rules in
    let whole = build-refused c.args.f c.args.element c.args.buffer.now
    (part-refused (room_order c.args.f c.args.element (length c.args.buffer.now)) (normal_rule c.args.f (degree c.args.f) c.args.element ∷ []) r.fault r.place c.in_err-ring.ensures)
    in record { answer = e ∙ whole.0; report = ap issued_report e ∙ whole.1.0; written = whole.1.1 }

pub returns : goal.returns
returns c =
    let whole = build-rest c.args.f c.args.element c.args.buffer.now c.in_ok-ring.ring.n c.in_ok-ring.ensures.1
    (part-clear (room_order c.args.f c.args.element (length c.args.buffer.now)) (normal_rule c.args.f (degree c.args.f) c.args.element ∷ []) c.in_ok-ring.ensures.2)
    (rw c.in_ok-ring.ensures.0 at c.build_judged.ensures.answer) (rw c.in_ok-ring.ensures.0 at c.build_judged.ensures.written) in
    record { answer = whole.0; report = whole.1.0; written = whole.1.1 }
