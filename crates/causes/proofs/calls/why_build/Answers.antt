-- `causes::calls::why_build` meets its contract: build, and what lies behind its refusal.
-- Assumes nothing.
use mathlib.Core.Path.{◌≡◌, sym, ap, ◌∙◌}
use Prim.Native.Nat.{ℕ, ◌*◌}
use Rattle.gf2.specs.Limit.{limit}
use Rattle.gf2.specs.Poly.{degree}
use Rattle.refusals.specs.Verdicts.{fault_number, refuse, first_of}
use Rattle.sheet.specs.Record.{record_size}
use Rattle.sheet.specs.Orders.{build_order}
use Rattle.sheet.specs.Answers.{summary_of, build_answer}
use Rattle.sheet.specs.Answered.{done-clear, refused_verdict}
use Rattle.causes.specs.Causes.{basis_cause, why_build_answer}
use Rattle.causes.specs.Behind.{operands_number, build-operand, build_dependent}
use Rattle.causes.specs.Reported.{build-promised}
use Rattle.causes.specs.Cases.{basis_alone, cause-refused, cause-accepted}
use Rattle.causes.proofs.calls.why_build.Goals as goal

pub returns-then-is_of_operands : goal.returns-then-is_of_operands
unfolding build_answer why_build_answer
returns-then-is_of_operands c =
    let f = c.args.f in
    let a = c.args.element in
    let r = c.in-Err.refusal in
    let whole = build-promised f a
    (cause-refused (basis_cause f (degree f) a) (refused_verdict (first_of (build_order f a (record_size * limit))) (summary_of f (degree f) a) (sym c.build.ensures.answer ∙ c.in-Err.is))
    (basis_alone f (degree f) r a ((operands_number (fault_number r.fault)).0 (sym c.is_of_operands.ensures ∙ c.if-is_of_operands.true)))) in record { answer = whole.0; report = whole.1 }

pub invariant_of-ring : goal.invariant_of-ring
unfolding build_answer
invariant_of-ring c =
    let f = c.args.f in
    let a = c.args.element in
    let r = c.in-Err.refusal in
    let e : first_of (build_order f a (record_size * limit)) ≡ refuse r.fault r.place =
    refused_verdict (first_of (build_order f a (record_size * limit))) (summary_of f (degree f) a) (sym c.build.ensures.answer ∙ c.in-Err.is) in
    let off = (operands_number (fault_number r.fault)).1 (sym c.is_of_operands.ensures ∙ c.if-is_of_operands.false) in
    record { in_range = (build-operand f a (record_size * limit) c.degree_of.result r.fault r.place c.degree_of.ensures e off.0 off.1).in_range }

pub basis_cause-requires : goal.basis_cause-requires
unfolding build_answer
basis_cause-requires c =
    let f = c.args.f in
    let a = c.args.element in
    let r = c.in-Err.refusal in
    let e : first_of (build_order f a (record_size * limit)) ≡ refuse r.fault r.place =
    refused_verdict (first_of (build_order f a (record_size * limit))) (summary_of f (degree f) a) (sym c.build.ensures.answer ∙ c.in-Err.is) in
    let off = (operands_number (fault_number r.fault)).1 (sym c.is_of_operands.ensures ∙ c.if-is_of_operands.false) in (
      (build-operand f a (record_size * limit) c.degree_of.result r.fault r.place c.degree_of.ensures e off.0 off.1).small,
      λ five. rw c.degree_of.ensures (build_dependent f a (record_size * limit) r.place (rw five at e)),
    )

pub returns-else-is_of_operands : goal.returns-else-is_of_operands
unfolding build_answer why_build_answer
returns-else-is_of_operands c =
    let f = c.args.f in
    let a = c.args.element in
    let r = c.in-Err.refusal in
    let whole = build-promised f a
    (cause-refused (basis_cause f (degree f) a) (refused_verdict (first_of (build_order f a (record_size * limit))) (summary_of f (degree f) a) (sym c.build.ensures.answer ∙ c.in-Err.is))
    (c.basis_cause.ensures ∙ ap (λ (n : ℕ). basis_cause f n a r.fault r.place) c.degree_of.ensures)) in record { answer = whole.0; report = whole.1 }

pub returns-in-Ok : goal.returns-in-Ok
unfolding build_answer why_build_answer
returns-in-Ok c =
    let f = c.args.f in
    let a = c.args.element in
    let whole = build-promised f a
    (cause-accepted (basis_cause f (degree f) a) (done-clear (first_of (build_order f a (record_size * limit))) (summary_of f (degree f) a) _ (sym c.build.ensures.answer ∙ c.in-Ok.is))) in record { answer = whole.0; report = whole.1 }
