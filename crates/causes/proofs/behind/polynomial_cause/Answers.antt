-- `causes::behind::polynomial_cause` meets its contract: the row of the table decides.
-- Assumes nothing.
use Rattle.refusals.specs.Telling.{same_fault}
use Rattle.refusals.specs.declared.fault.Fault.TheVariants as faults
use Rattle.causes.specs.Cases.{polynomial-divisor, polynomial_became, polynomial-alone}
use Rattle.causes.proofs.behind.polynomial_cause.Goals as goal

pub returns-in-Divided : goal.returns-in-Divided
returns-in-Divided c = polynomial-divisor c.args.ring.f c.args.ring.n c.args.refusal c.in-Divided.is c.smallest_divisor.ensures

pub returns-in-Strays : goal.returns-in-Strays
returns-in-Strays c = polynomial_became c.args.ring.f c.args.ring.n c.args.refusal c.in-Strays.is c.x_squared.ensures

pub returns-in_default : goal.returns-in_default
returns-in_default c =
    polynomial-alone c.args.ring.f c.args.ring.n c.args.refusal
    (λ e. c.in_default.not-Divided (same_fault c.args.refusal.fault faults.Divided e))
    (λ e. c.in_default.not-Strays (same_fault c.args.refusal.fault faults.Strays e))
