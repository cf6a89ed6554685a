-- `normal::grade::kind_of` meets its contract: its tests are the definition's.
-- Assumes nothing.
use mathlib.Core.Path.{sym, ◌∙◌}
use Rattle.normal.proofs.Graded.{kind_both, kind_first, kind_second}
use Rattle.normal.proofs.grade.kind_of.Goals as goal

pub returns-then-ring-eq2 : goal.returns-then-ring-eq2
returns-then-ring-eq2 c = let s = c.args in sym (kind_both s.ring.f s.ring.n s.a c.if-ring-eq2.true)

pub returns-then-element_power-eq1 : goal.returns-then-element_power-eq1
returns-then-element_power-eq1 c =
    let s = c.args in
    sym (kind_first s.ring.f s.ring.n s.a c.if-ring-eq2.false (sym c.element_power.ensures ∙ c.if-element_power-eq1.true))

pub returns-else-element_power-eq1 : goal.returns-else-element_power-eq1
returns-else-element_power-eq1 c =
    let s = c.args in
    sym (kind_second s.ring.f s.ring.n s.a c.if-ring-eq2.false (λ e. c.if-element_power-eq1.false (c.element_power.ensures ∙ e)))
