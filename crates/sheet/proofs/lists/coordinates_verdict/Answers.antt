-- `sheet::lists::coordinates_verdict` meets its contract: the first value that is too large decides.
-- Assumes nothing.
use Rattle.std.proofs.Common.{sym, ap, ◌∙◌, arith}
use Rattle.refusals.specs.Verdicts.{refuse}
use Rattle.refusals.specs.Answers.{checked_of}
use Rattle.refusals.specs.Answered.{answer-clear}
use Rattle.sheet.specs.Lists.{large_position, large_verdict, small_verdict}
use Rattle.sheet.proofs.lists.coordinates_verdict.Goals as goal
use Rattle.std.specs.Prelude.{Err}
use Rattle.refusals.specs.declared.fault.Fault.TheVariants as faults
use Rattle.refusals.specs.Answers.{passed}

pub returns-in-Some : goal.returns-in-Some
returns-in-Some c =
    let p = large_position c.args.n c.args.values.now (sym c.in-Some.is ∙ c.first_too_large.ensures) in
    c.refused_at.ensures
    ∙ ap checked_of (ap (refuse faults.TooLarge) (sym p.0) ∙ sym (large_verdict c.args.n 0 c.args.values.now (omega arith)))

pub returns-in-None : goal.returns-in-None
returns-in-None c =
    let p = large_position c.args.n c.args.values.now (sym c.in-None.is ∙ c.first_too_large.ensures) in
    answer-clear Err passed (small_verdict c.args.n 0 c.args.values.now (omega arith))
