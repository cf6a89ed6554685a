-- `sheet::building::summary_of` meets its contract: the complexity of its table, and the grade of its element at that.
-- Assumes nothing.
use mathlib.Core.Path.{◌≡◌}
use mathlib.Core.List.{List}
use Prim.Native.Nat.{ℕ}
use Rattle.normal.specs.Normal.{complexity}
use Rattle.normal.specs.Grades.{grade_of}
use Rattle.normal.specs.declared.grade.Grade.{Grade}
use Rattle.sheet.specs.Answers.{summary_with}
use Rattle.sheet.proofs.building.summary_of.Goals as goal

summarized : (f n a c : ℕ) (g : Grade) (table : List ℕ) → c ≡ complexity table → g ≡ grade_of f n a c → record { degree = n; complexity = c; grade = g } ≡ summary_with f n a table
summarized f n a c g table e p = rw (p, e)

pub returns : goal.returns
returns c =
    summarized c.args.ring.f c.args.ring.n c.args.element c.complexity_of-complexity.result c.grade_of.result _ c.complexity_of-complexity.ensures c.grade_of.ensures
