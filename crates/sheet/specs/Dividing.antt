-- Laws of the orders of dividing: when 13 is given; a number to invert is judged as if it were divided by itself; what the orders leave of
-- the sheet and of the numbers where no condition applies.
-- What of this a wrong definition breaks, and what rests on that, stands in `proofs/DividingLaws.antt`.
-- Assumes nothing.
use Rattle.std.specs.Prelude.{◌≡◌, [], ◌∷◌, ℕ}
use Rattle.std.proofs.Common.{◌∙◌, eq-eqb, ne_eqb}
use Rattle.refusals.specs.Verdicts.{clear, refuse, first_of}
use Rattle.refusals.specs.Orders.{first-applies, first_passes, first-none}
use Rattle.sheet.specs.Orders.{zero_rule}
use Rattle.refusals.specs.declared.fault.Fault.TheVariants as faults

-- ---- 13

pub zero-applies : (v : ℕ) → v ≡ 0 → first_of (zero_rule v ∷ []) ≡ refuse faults.ZeroDivisor 0
zero-applies v e = first-applies (zero_rule v) [] (eq-eqb v 0 e)

pub zero-passes : (v : ℕ) → (v ≡ 0 → ⊥) → first_of (zero_rule v ∷ []) ≡ clear
zero-passes v e = first_passes (zero_rule v) [] (ne_eqb v 0 e) ∙ first-none
