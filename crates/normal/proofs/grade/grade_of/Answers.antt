-- `normal::grade::grade_of` meets its contract: its test is the definition's.
-- Assumes nothing.
use mathlib.Core.Path.{sym, ◌∙◌}
use native.Mathlib.Omega.{arith}
use Rattle.normal.proofs.Graded.{grade-none, grade_optimal}
use Rattle.normal.proofs.grade.grade_of.Goals as goal

pub overflow_mul-ring : goal.overflow_mul-ring
overflow_mul-ring c = omega (arith, c.args.ring.in_range.most)

pub overflow_sub-ring : goal.overflow_sub-ring
overflow_sub-ring c = omega (arith, c.args.ring.in_range.two)

pub returns-then-complexity-ring : goal.returns-then-complexity-ring
returns-then-complexity-ring c = let s = c.args in sym (grade-none s.ring.f s.ring.n s.a s.complexity c.if-complexity-ring.true)

pub returns : goal.returns
returns c =
    let s = c.args in
    c.kind_of.ensures ∙ sym (grade_optimal s.ring.f s.ring.n s.a s.complexity c.if-complexity-ring.false)
