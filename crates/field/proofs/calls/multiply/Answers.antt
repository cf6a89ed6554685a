-- `field::calls::multiply` meets its contract: it judges, and then works.
-- Assumes nothing.
use Rattle.std.proofs.Common.{rules, ◌≡◌, ap, ◌∙◌}
use Rattle.std.specs.Prelude.{Ok, Err}
use Rattle.gf2.specs.Poly.{degree, rem, mul_mod}
use Rattle.refusals.specs.Verdicts.{first_of}
use Rattle.refusals.specs.Answered.{answer-clear, answer-refused, value-promised}
use Rattle.field.specs.Refusals.{multiply_order}
use Rattle.field.specs.Answers.{multiply_answer, multiply_report}
use Rattle.field.proofs.calls.multiply.Goals as goal

pub returns-in_err-ring : goal.returns-in_err-ring
unfolding multiply_answer multiply_report
returns-in_err-ring c =
    let e : c.from_residual.result ≡ Err c.in_err-ring.field-0.0 = search rules in
    let whole = value-promised (first_of (multiply_order c.args.f)) _ (e ∙ answer-refused Err _ c.in_err-ring.ensures) in record { answer = whole.0; report = whole.1 }

pub returns : goal.returns
unfolding multiply_answer multiply_report
returns c =
    let value : c.product.result ≡ mul_mod c.args.f (degree c.args.f) (rem c.args.f (degree c.args.f) c.args.a) (rem c.args.f (degree c.args.f) c.args.b) = rw (c.product.ensures, c.in_ok-ring.ensures.0, c.in_ok-ring.ensures.1) in
    let whole = value-promised (first_of (multiply_order c.args.f)) _ (ap Ok value ∙ answer-clear Err _ c.in_ok-ring.ensures.2) in record { answer = whole.0; report = whole.1 }
