-- `listing::putting::Lent::cause` meets its contract: the line of each case.
-- Assumes nothing.
use native.Mathlib.Omega.{arith}
use Rattle.listing.specs.Text.{cause_line}
use Rattle.listing.specs.Putting.{put-none}
use Rattle.listing.proofs.putting.Lent.cause.Goals as goal

pub returns-in-Accepted-clause-put : goal.returns-in-Accepted-clause-put
unfolding cause_line
returns-in-Accepted-clause-put c = rw c.in-Accepted.is (put-none _ c.args.self.now.at (omega (arith, c.requires)))

pub returns-in-Refused-clause-put : goal.returns-in-Refused-clause-put
unfolding cause_line
returns-in-Refused-clause-put c = rw c.in-Refused.is (put-none _ c.args.self.now.at (omega (arith, c.requires)))

pub returns-in-Divisor-clause-put : goal.returns-in-Divisor-clause-put
unfolding cause_line
returns-in-Divisor-clause-put c = rw c.in-Divisor.is c.number.ensures.put

pub returns-in-Became-clause-put : goal.returns-in-Became-clause-put
unfolding cause_line
returns-in-Became-clause-put c = rw c.in-Became.is c.number-in-Became.ensures.put

pub returns-in-Dependency-clause-put : goal.returns-in-Dependency-clause-put
unfolding cause_line
returns-in-Dependency-clause-put c = rw c.in-Dependency.is c.number-in-Dependency.ensures.put

pub returns-in-Differs-clause-put : goal.returns-in-Differs-clause-put
unfolding cause_line
returns-in-Differs-clause-put c = rw c.in-Differs.is c.difference.ensures.put
