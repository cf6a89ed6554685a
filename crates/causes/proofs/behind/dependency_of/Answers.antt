-- `causes::behind::dependency_of` meets its contract: building the basis of an element that is not normal hands the dependency out.
-- Assumes nothing.
use Rattle.std.proofs.Common.{sym, ◌∙◌}
use Rattle.normal.specs.Built.{built-ok}
use Rattle.causes.specs.Cases.{apart, built_dependency}
use Rattle.causes.proofs.behind.dependency_of.Goals as goal

pub returns-in-Ok : goal.returns-in-Ok
returns-in-Ok c = absurd (apart (sym (built-ok c.args.ring.f c.args.ring.n c.args.element c.in-Ok.ensures).0 ∙ c.requires.1))

pub returns-in-Err : goal.returns-in-Err
returns-in-Err c = built_dependency c.args.ring.f c.args.ring.n c.args.element c.requires.1 c.in-Err.ensures
