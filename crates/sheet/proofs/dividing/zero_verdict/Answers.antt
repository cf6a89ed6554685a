-- `sheet::dividing::zero_verdict` meets its contract: 13 exactly for 0.
-- Assumes nothing.
use mathlib.Core.Path.{sym, ap, ◌∙◌}
use Rattle.refusals.specs.Answers.{answer_of, checked_of}
use Rattle.sheet.specs.Dividing.{zero-applies, zero-passes}
use Rattle.sheet.proofs.dividing.zero_verdict.Goals as goal

pub returns-then-value-eq0 : goal.returns-then-value-eq0
returns-then-value-eq0 c = c.refused.ensures ∙ sym (ap checked_of (zero-applies c.args.value c.if-value-eq0.true))

pub returns : goal.returns
unfolding answer_of
returns c = sym (ap checked_of (zero-passes c.args.value c.if-value-eq0.false))
