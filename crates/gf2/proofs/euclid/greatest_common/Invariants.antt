-- `gf2::euclid::greatest_common` meets its contract. The invariant: a and b have the common divisors of u and v, and u is not 0.
-- The measure is v. Assumes nothing.
use Rattle.std.proofs.Common.{◌^◌, ◌<◌}
use Rattle.gf2.specs.Euclid.{SameDivisors}
use Rattle.gf2.proofs.euclid.greatest_common.Given as goal

abbrev pub invariant-loop-v : goal.invariant-loop-v
invariant-loop-v l = (0 < l.u) × (l.u < 2 ^ 64) × (l.v < 2 ^ 64) × SameDivisors l.a l.b l.u l.v

abbrev pub decreases-loop-v : goal.decreases-loop-v
decreases-loop-v l = l.v
