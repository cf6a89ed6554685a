-- `search::searching::range_verdict` meets its contract: 12, then 2 and 3.
-- Assumes nothing.
use mathlib.Core.Path.{sym, ap, ◌∙◌}
use Rattle.refusals.specs.Answers.{checked_of}
use Rattle.search.proofs.Orders.{range_empty, range_past}
use Rattle.search.proofs.searching.range_verdict.Goals as goal

pub returns-then-last-first : goal.returns-then-last-first
returns-then-last-first c =
    c.refused.ensures ∙ ap checked_of (sym (range_empty c.args.ring.f c.args.first c.args.last c.if-last-first.true))

pub returns : goal.returns
returns c =
    c.field_verdict.ensures ∙ ap checked_of (sym (range_past c.args.ring.f c.args.first c.args.last c.if-last-first.false))
