-- `field::judging::elements_verdict` meets its contract: one number after the other.
-- Assumes nothing.
use mathlib.Core.Path.{sym, ap, ◌∙◌}
use Rattle.refusals.specs.Answers.{checked_of}
use Rattle.refusals.specs.Answered.{answer-clear}
use Rattle.field.specs.Orders.{first_large, second_large, none_large}
use Rattle.field.proofs.judging.elements_verdict.Goals as goal
use Rattle.std.specs.Prelude.{Err}
use Rattle.refusals.specs.Answers.{passed}

pub returns-then-too_large : goal.returns-then-too_large
returns-then-too_large c =
    c.refused.ensures ∙ ap checked_of (sym (first_large c.args.n c.args.a c.args.b (sym c.too_large.ensures ∙ c.if-too_large.true)))

pub returns-then-too_large-2 : goal.returns-then-too_large-2
returns-then-too_large-2 c =
    c.refused-then-too_large-2.ensures
    ∙ ap checked_of
    (sym (second_large c.args.n c.args.a c.args.b (sym c.too_large.ensures ∙ c.if-too_large.false) (sym c.too_large-2.ensures ∙ c.if-too_large-2.true)))

pub returns : goal.returns
returns c =
    answer-clear Err passed
    (none_large c.args.n c.args.a c.args.b (sym c.too_large.ensures ∙ c.if-too_large.false) (sym c.too_large-2.ensures ∙ c.if-too_large-2.false))
