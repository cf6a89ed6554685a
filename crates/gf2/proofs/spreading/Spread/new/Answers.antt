-- `gf2::spreading::Spread::new` makes a table with the rule: one test over all entries, which antt computes.
-- Assumes nothing.
use Rattle.std.proofs.Common.{refl}
use Rattle.gf2.specs.Poly.{spread, digits, digits_from}
use Rattle.gf2.specs.SpreadRule.{spreads_from, tested_table}
use Rattle.gf2.proofs.spreading.Spread.new.Goals as goal

pub invariant_of-result : goal.invariant_of-result
unfolding spreads_from spread digits digits_from
invariant_of-result c = record { rule = tested_table _ tt refl }
