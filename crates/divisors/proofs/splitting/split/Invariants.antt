-- `divisors::splitting::split` meets its contract. The invariant, for the exponent k of turn j, 2 * j + 1: the sums for all elements below
-- 2^k are 0 or 1. So k does not reach m, since not all sums are 0 or 1. Assumes nothing.
use Rattle.std.proofs.Common.{◌+◌, ◌*◌, ◌<◌}
use Rattle.divisors.specs.Splitting.{BitsTo}
use Rattle.divisors.proofs.splitting.split.Given as goal

abbrev pub invariant-loop-j : goal.invariant-loop-j
invariant-loop-j l = (2 * l.j + 1 < l.m) × BitsTo l.part.value l.m l.part.degree (2 * l.j + 1)
