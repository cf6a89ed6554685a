-- `sheet::shaped::Sheet::inverse` meets its contract: it judges, and then works.
-- Assumes nothing.
use mathlib.Core.Path.{◌≡◌, ap, ◌∙◌}
use mathlib.Core.List.{List}
use Prim.Native.Nat.{ℕ}
use Rattle.refusals.specs.Verdicts.{first_of}
use Rattle.refusals.specs.Answers.{checked_of}
use Rattle.refusals.specs.Answered.{judged_clear, judged_refused, judged_done}
use Rattle.sheet.specs.Orders.{inverse_order, quotient_order}
use Rattle.sheet.specs.Answers.{inverse_answer}
use Rattle.sheet.proofs.DividingLaws.{inverse_twice, division_judged}
use Rattle.sheet.proofs.shaped.Sheet.inverse.Goals as goal
use Rattle.std.specs.Prelude.{Ok, Err}
use Rattle.std.proofs.Common.{rules, ◌≡◌}
use Rattle.refusals.specs.Answers.{Checked}

-- the number is judged as divided by itself
judged : (sheet : List ℕ) (a : ℕ) {r : Checked} → r ≡ checked_of (first_of (quotient_order sheet a a)) → r ≡ checked_of (first_of (inverse_order sheet a))
judged sheet a e = e ∙ ap checked_of (inverse_twice sheet a)

pub inverted-requires : goal.inverted-requires
inverted-requires c =
    let j = division_judged c.args.self.now.bytes.now c.args.a c.args.a (judged_clear (first_of (quotient_order c.args.self.now.bytes.now c.args.a c.args.a)) c.division_verdict.ensures c.in_ok-division_verdict.was) in
    j.1

pub returns-in_err-division_verdict : goal.returns-in_err-division_verdict
unfolding inverse_answer
returns-in_err-division_verdict c =
    let e : c.from_residual.result ≡ Err c.in_err-division_verdict.field-0.0 = search rules in
    e ∙ judged_refused Err _ _ (judged c.args.self.now.bytes.now c.args.a c.division_verdict.ensures) c.in_err-division_verdict.was

pub returns : goal.returns
unfolding inverse_answer
returns c =
    ap Ok c.inverted.ensures ∙ judged_done Err _ _ (judged c.args.self.now.bytes.now c.args.a c.division_verdict.ensures) c.in_ok-division_verdict.was
