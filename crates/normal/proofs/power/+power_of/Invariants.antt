-- The recursion of `normal::power::power_of` ends. The measure is k: the call of itself is at k / 2, and k is above 1 there.
-- Assumes nothing.
use Rattle.normal.proofs.power.+power_of.Given as goal

abbrev pub decreases-power_of : goal.decreases-power_of
decreases-power_of l = l.k
