-- The laws of `specs/Listed.antt` that a wrong definition breaks, and what rests on them. The head there tells of both files.
-- Assumes nothing.
use Rattle.std.specs.Prelude.{refl, List, [], ◌∷◌, ◌++◌, ℕ, zero, suc, ◌+◌, ◌≤◌}
use Rattle.std.proofs.Common.{inl, inr, arith}
use Rattle.refusals.specs.Verdicts.{Rule}
use Rattle.refusals.specs.Told.{AtZero, Below, Every}
use Rattle.refusals.specs.Telling.{every_append, every_also}
use Rattle.sheet.specs.Record.{record_count, conjugate_in, polynomial_in}
use Rattle.sheet.specs.Orders.{record_rules, differ_rules, shape_order, basis_order, rebuilt_from, read_order}
use Rattle.sheet.specs.Listed.{OnReading, OnShape, basis_listed, differ-listed}

records_listed : (sheet : List ℕ) (m k i : ℕ) → i + k ≤ m → Every (Below (8 ∷ 9 ∷ []) m) (record_rules sheet i k)
unfolding record_rules
records_listed sheet m zero i h = tt
records_listed sheet m (suc k) i h = ((inl refl, omega arith), ((inr (inl refl), omega arith), records_listed sheet m k (i + 1) (omega arith)))

pub shape-listed : (sheet : List ℕ) → Every (OnShape (record_count sheet)) (shape_order sheet)
shape-listed sheet =
    let m : ℕ = record_count sheet in (
      inl (inl refl, refl),
      every_also (Below (8 ∷ 9 ∷ []) m) (OnShape m) (λ k p h. inr h) (record_rules sheet 0 m) (records_listed sheet m m 0 (omega arith)),
    )

pub read-listed : (sheet : List ℕ) → Every (OnReading (record_count sheet)) (read_order sheet)
read-listed sheet =
    let m : ℕ = record_count sheet in
    let basis : List Rule = basis_order (polynomial_in sheet) (record_count sheet) (conjugate_in sheet 0) in
    let differ : List Rule = differ_rules sheet (rebuilt_from sheet) 0 m in
    every_append (OnReading m) (shape_order sheet) (basis ++ differ)
    (every_also (OnShape m) (OnReading m) (λ k p h. inr (inr h)) (shape_order sheet) (shape-listed sheet))
    (every_append (OnReading m) basis differ
    (every_also (AtZero (2 ∷ 3 ∷ 5 ∷ [])) (OnReading m) (λ k p h. inl h) basis (basis_listed (polynomial_in sheet) (record_count sheet) (conjugate_in sheet 0)))
    (every_also (Below (10 ∷ []) m) (OnReading m) (λ k p h. inr (inl h)) differ (differ-listed sheet (rebuilt_from sheet) m m 0 (omega arith))))
