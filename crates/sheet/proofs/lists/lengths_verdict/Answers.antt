-- `sheet::lists::lengths_verdict` meets its contract: each return has passed the tests before it.
-- Assumes nothing.
use mathlib.Core.Path.{sym, ap, ◌∙◌}
use Rattle.refusals.specs.Answers.{checked_of}
use Rattle.refusals.specs.Answered.{answer-clear}
use Rattle.sheet.specs.Lists.{lengths_differ, list_too_long, list_fits}
use Rattle.sheet.proofs.lists.lengths_verdict.Goals as goal
use Rattle.std.specs.Prelude.{Err}
use Rattle.refusals.specs.Answers.{passed}

pub returns-then-values-room : goal.returns-then-values-room
returns-then-values-room c =
    c.refused.ensures ∙ ap checked_of (sym (lengths_differ c.args.values c.args.room c.if-values-room.true))

pub returns-then-values-gt-LIST_LIMIT : goal.returns-then-values-gt-LIST_LIMIT
returns-then-values-gt-LIST_LIMIT c =
    c.refused-then-values-gt-LIST_LIMIT.ensures ∙ ap checked_of (sym (list_too_long c.args.values c.args.room c.if-values-room.false c.if-values-gt-LIST_LIMIT.true))

pub returns : goal.returns
returns c =
    answer-clear Err passed (list_fits c.args.values c.args.room c.if-values-room.false c.if-values-gt-LIST_LIMIT.false)
