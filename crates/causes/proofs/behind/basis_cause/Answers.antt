-- `causes::behind::basis_cause` meets its contract: 5, or what lies behind a refusal of the polynomial.
-- Assumes nothing.
use Rattle.refusals.specs.Telling.{same_fault}
use Rattle.refusals.specs.declared.fault.Fault.TheVariants as faults
use Rattle.causes.specs.Cases.{basis_dependency, basis_polynomial}
use Rattle.causes.proofs.behind.basis_cause.Goals as goal

pub dependency_of-requires : goal.dependency_of-requires
dependency_of-requires c = (c.requires.0, c.requires.1 c.in-NotNormal.is)

pub returns-in-NotNormal : goal.returns-in-NotNormal
returns-in-NotNormal c =
    basis_dependency c.args.ring.f c.args.ring.n c.args.refusal c.args.element c.in-NotNormal.is c.dependency_of.ensures

pub returns-in_default : goal.returns-in_default
returns-in_default c =
    basis_polynomial c.args.ring.f c.args.ring.n c.args.refusal c.args.element
    (λ e. c.in_default.not-NotNormal (same_fault c.args.refusal.fault faults.NotNormal e)) c.polynomial_cause.ensures
