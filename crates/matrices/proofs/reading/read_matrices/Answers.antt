-- `matrices::reading::read_matrices` meets its contract: 1 and 4, then the rest.
-- Assumes nothing.
use mathlib.Core.List.{[]}
use mathlib.Core.List.{◌∷◌, ◌++◌}
use Rattle.gf2.specs.Poly.{degree}
use Rattle.refusals.specs.Orders.{part-refused, part-clear}
use Rattle.field.proofs.Orders.{operand_judged}
use Rattle.field.specs.Refusals.{operand_order, field_order}
use Rattle.matrices.specs.Orders.{match_order}
use Rattle.matrices.specs.Calls.{text_refused, text_rest}
use Rattle.std.proofs.Common.{rules, ◌≡◌, ap, ◌∙◌}
use Rattle.sheet.specs.Answers.{issued_report}
use Rattle.std.specs.Prelude.{Err}
use Rattle.matrices.proofs.reading.read_matrices.Goals as goal

pub read_operand-requires : goal.read_operand-requires
read_operand-requires c =
    (operand_judged c.args.f c.in_ok-ring.ring.n c.args.element c.in_ok-ring.ensures.1 c.in_ok-ring.ensures.2).small

pub returns-in_err-ring : goal.returns-in_err-ring
returns-in_err-ring c =
    let r = c.in_err-ring.field-0.0 in
    let e : c.from_residual.result ≡ Err r = search rules in
    let f = c.args.f in
    let a = c.args.element in
    let whole = text_refused f a c.args.text.now
    (part-refused (operand_order f (a ∷ [])) (field_order f ++ match_order f (degree f) a c.args.text.now) r.fault r.place c.in_err-ring.ensures) in
    record { answer = e ∙ whole.0; report = ap issued_report e ∙ whole.1 }

pub returns : goal.returns
returns c =
    let f = c.args.f in
    let a = c.args.element in
    let whole = text_rest f a c.args.text.now c.in_ok-ring.ring.n c.in_ok-ring.ensures.1
    (part-clear (operand_order f (a ∷ [])) (field_order f ++ match_order f (degree f) a c.args.text.now) c.in_ok-ring.ensures.2)
    (rw c.in_ok-ring.ensures.0 at c.read_operand.ensures) in record { answer = whole.0; report = whole.1 }
