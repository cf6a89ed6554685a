-- The laws of `specs/Grades.antt` that a wrong definition breaks, and what rests on them. The head there tells of both files.
-- Assumes nothing.
use Rattle.std.specs.Prelude.{◌≡◌}
use Rattle.std.proofs.Math.Path.{sym}
use Rattle.std.proofs.Common.{◌∙◌}
use Rattle.normal.specs.Grades.{grade_number}
use Rattle.sheet.specs.Record.{record_count, conjugate_in, polynomial_in}
use Rattle.sheet.specs.declared.answer.Summary.{Summary}
use Rattle.promises.specs.Calls.{Run, read}
use Rattle.promises.proofs.Demand1.{read_is}
use Rattle.promises.specs.Grades.{Graded, read_grades}
use Rattle.std.specs.Prelude.{Ok}

-- ---- of the calls themselves

pub read_grades_runs : (c : Run read) (t : Summary) → c.result ≡ Ok t
    → Graded (polynomial_in c.args.0.now) (record_count c.args.0.now) (conjugate_in c.args.0.now 0) t.complexity (grade_number t.grade)
read_grades_runs c t e = read_grades c.args.0.now t (sym (read_is c) ∙ e)
