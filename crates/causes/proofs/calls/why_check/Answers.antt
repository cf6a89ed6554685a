-- `causes::calls::why_check` meets its contract: check, and what lies behind its refusal.
-- Assumes nothing.
use mathlib.Core.Path.{ap, ◌∙◌}
use Prim.Native.Nat.{ℕ}
use native.Mathlib.Omega.{arith}
use Rattle.gf2.specs.Poly.{degree}
use Rattle.refusals.specs.Verdicts.{fault_number, first_of}
use Rattle.refusals.specs.Telling.{same_fault}
use Rattle.refusals.specs.declared.fault.Fault.TheVariants as faults
use Rattle.refusals.specs.Answered.{judged_clear, judged_verdict}
use Rattle.field.specs.Refusals.{check_order}
use Rattle.field.specs.Answers.{check_answer}
use Rattle.causes.specs.Causes.{polynomial_cause, why_check_answer}
use Rattle.causes.specs.Behind.{check_range}
use Rattle.causes.specs.Reported.{check-promised}
use Rattle.causes.specs.Cases.{polynomial-alone, cause-refused, cause-accepted}
use Rattle.causes.proofs.calls.why_check.Goals as goal

pub returns-in-DegreeOutside : goal.returns-in-DegreeOutside
unfolding check_answer why_check_answer
returns-in-DegreeOutside c =
    let f = c.args.f in
    let r = c.in-Err.refusal in
    let whole = check-promised f
    (cause-refused (polynomial_cause f (degree f)) (judged_verdict (first_of (check_order f)) c.check.ensures.answer c.in-Err.is)
    (polynomial-alone f (degree f) r (λ e. omega (arith, e, ap fault_number c.in-DegreeOutside.is)) (λ e. omega (arith, e, ap fault_number c.in-DegreeOutside.is)))) in record { answer = whole.0; report = whole.1 }

pub invariant_of-ring : goal.invariant_of-ring
unfolding check_answer
invariant_of-ring c =
    let f = c.args.f in
    let r = c.in-Err.refusal in
    record {
      in_range = check_range f c.degree_of.result r.fault r.place c.degree_of.ensures
          (judged_verdict (first_of (check_order f)) c.check.ensures.answer c.in-Err.is) (λ e. c.in_default.not-DegreeOutside (same_fault r.fault faults.DegreeOutside e));
    }

pub returns-in_default : goal.returns-in_default
unfolding check_answer why_check_answer
returns-in_default c =
    let f = c.args.f in
    let r = c.in-Err.refusal in
    let whole = check-promised f
    (cause-refused (polynomial_cause f (degree f)) (judged_verdict (first_of (check_order f)) c.check.ensures.answer c.in-Err.is)
    (c.polynomial_cause.ensures ∙ ap (λ (n : ℕ). polynomial_cause f n r.fault r.place) c.degree_of.ensures)) in record { answer = whole.0; report = whole.1 }

pub returns-in-Ok : goal.returns-in-Ok
unfolding check_answer why_check_answer
returns-in-Ok c =
    let f = c.args.f in
    let whole = check-promised f
    (cause-accepted (polynomial_cause f (degree f)) (judged_clear (first_of (check_order f)) c.check.ensures.answer c.in-Ok.is)) in record { answer = whole.0; report = whole.1 }
