-- The numbers and the places that the shape of a sheet and reading have for what they refuse, for a sheet of m records (document 01,
-- "Refusal numbers"): a record's number is its place.
--
--   OnShape, OnReading                      these numbers, each with its places
--   shape-listed, basis_listed, differ-listed, read-listed   every rule of the order, or of a part of it, has such a number and place
--
-- What of this a wrong definition breaks, and what rests on that, stands in `proofs/Listed.antt`.
-- Assumes nothing.
use Rattle.std.specs.Prelude.{refl, ◌⊎◌, List, [], ◌∷◌, ℕ, zero, suc, ◌+◌, ◌≤◌}
use Rattle.std.proofs.Common.{inl, arith}
use Rattle.refusals.specs.Told.{AtZero, Below, Every}
use Rattle.refusals.specs.Telling.{listed-at-zero}
use Rattle.sheet.specs.Orders.{differ_rules, basis_order}

-- "7, then records from 0 upward with 8 before 9 in each"
abbrev pub OnShape : (m : ℕ) → ℕ → ℕ → Type 0
OnShape m k p = AtZero (7 ∷ []) k p ⊎ Below (8 ∷ 9 ∷ []) m k p

-- "then 2, 3, 5 .., then 10"
abbrev pub OnReading : (m : ℕ) → ℕ → ℕ → Type 0
OnReading m k p = AtZero (2 ∷ 3 ∷ 5 ∷ []) k p ⊎ (Below (10 ∷ []) m k p ⊎ OnShape m k p)

pub differ-listed : (sheet rebuilt : List ℕ) (m k i : ℕ) → i + k ≤ m → Every (Below (10 ∷ []) m) (differ_rules sheet rebuilt i k)
unfolding differ_rules
differ-listed sheet rebuilt m zero i h = tt
differ-listed sheet rebuilt m (suc k) i h = ((inl refl, omega arith), differ-listed sheet rebuilt m k (i + 1) (omega arith))

pub basis_listed : (f n a : ℕ) → Every (AtZero (2 ∷ 3 ∷ 5 ∷ [])) (basis_order f n a)
basis_listed f n a = listed-at-zero (basis_order f n a) refl
