-- `search::joining::better_of` meets its contract: its test is the definition's.
-- Assumes nothing.
use mathlib.Core.Path.{sym, ◌∙◌}
use Rattle.search.proofs.JoiningLaws.{better-new, better-kept}
use Rattle.search.proofs.joining.better_of.Goals as goal

pub returns-then-comes_before : goal.returns-then-comes_before
returns-then-comes_before c =
    let s = c.args in
    c.found_by.ensures ∙ sym (better-new s.f s.n s.a s.x s.ones (sym c.comes_before.ensures ∙ c.if-comes_before.true))

pub returns-else-comes_before : goal.returns-else-comes_before
returns-else-comes_before c =
    let s = c.args in
    sym (better-kept s.f s.n s.a s.x s.ones (sym c.comes_before.ensures ∙ c.if-comes_before.false))
