-- `elements::deciding::decide_by_basis` meets its contract: the basis says whether y is normal, and gives its complexity.
-- Assumes nothing.
use Rattle.normal.specs.Built.{built-ok, built-err}
use Rattle.normal.specs.Normal.{table_rows, complexity}
use Rattle.elements.specs.Ones.{within_exact}
use Rattle.elements.specs.Built.{built_complexity}
use Rattle.elements.proofs.deciding.decide_by_basis.Goals as goal

pub returns-in-Err : goal.returns-in-Err
returns-in-Err c = λ bound. (built-err c.args.f c.args.n c.args.y c.in-Err.ensures).0

pub returns-in-Ok : goal.returns-in-Ok
returns-in-Ok c =
    λ bound. (
      (built-ok c.args.f c.args.n c.args.y c.in-Ok.ensures).0,
      within_exact bound c.complexity_of.result (complexity (table_rows c.args.f c.args.n c.args.y))
          (built_complexity c.args.f c.args.n c.args.y c.in-Ok.ensures c.complexity_of.result c.complexity_of.ensures),
    )
