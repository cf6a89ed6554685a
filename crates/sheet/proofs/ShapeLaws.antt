-- The laws of `specs/Shape.antt` that a wrong definition breaks, and what rests on them. The head there tells of both files.
-- Assumes nothing.
use Rattle.std.specs.Prelude.{◌≡◌, true, false, List, ℕ, suc, ◌+◌, ◌-◌, ◌<◌}
use Rattle.std.proofs.Common.{ap, arith}
use Rattle.refusals.specs.Verdicts.{refuse, first_of}
use Rattle.sheet.specs.Orders.{misplaced, oversized, record_rules}
use Rattle.refusals.specs.declared.fault.Fault.TheVariants as faults

-- ---- the walk over the records

module _ (sheet : List ℕ) (i n : ℕ) (h : i < n) where
  next_rules : record_rules sheet i (n - i) ≡ record_rules sheet i (suc (n - (i + 1)))
  next_rules = let e : n - i ≡ suc (n - (i + 1)) = omega arith in ap (record_rules sheet i) e

  pub walk-misplaced : misplaced sheet i ≡ true → first_of (record_rules sheet i (n - i)) ≡ refuse faults.Misplaced i
  unfolding record_rules first_of
  walk-misplaced e = rw (next_rules, e)

  pub walk-oversized : misplaced sheet i ≡ false → oversized sheet i ≡ true → first_of (record_rules sheet i (n - i)) ≡ refuse faults.Oversized i
  unfolding record_rules first_of
  walk-oversized e p = rw (next_rules, e, p)

  pub walk-on : misplaced sheet i ≡ false → oversized sheet i ≡ false → first_of (record_rules sheet (i + 1) (n - (i + 1))) ≡ first_of (record_rules sheet i (n - i))
  unfolding record_rules first_of
  walk-on e p = rw (next_rules, e, p)
