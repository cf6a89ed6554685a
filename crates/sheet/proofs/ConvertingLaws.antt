-- The laws of `specs/Converting.antt` that a wrong definition breaks, and what rests on them. The head there tells of both files.
-- Assumes nothing.
use Rattle.std.specs.Prelude.{◌≡◌, false, List, [], ◌∷◌, ℕ, ◌^◌, ◌<◌}
use Rattle.std.proofs.Common.{◌∙◌}
use Rattle.refusals.specs.Verdicts.{clear, first_of}
use Rattle.refusals.specs.Orders.{part-clear, parts-clear}
use Rattle.field.specs.Refusals.{element_order, any_too_large}
use Rattle.field.specs.Orders.{both_small, element-clear}
use Rattle.sheet.specs.Record.{record_count}
use Rattle.sheet.specs.Orders.{shape_order, value_order, Shaped}
use Rattle.sheet.proofs.Clear.{clear-shaped}
use Rattle.sheet.specs.Converting.{value_twice}

module _ (sheet : List ℕ) where
  pub values_judged : (a b : ℕ) → first_of (value_order sheet (a ∷ b ∷ [])) ≡ clear → Shaped sheet × (a < 2 ^ record_count sheet) × (b < 2 ^ record_count sheet)
  values_judged a b e =
      let s = parts-clear (shape_order sheet) (element_order (record_count sheet) (a ∷ b ∷ [])) e in
      let p = both_small (record_count sheet) a b s.1 in
      (clear-shaped sheet s.0, p.0, p.1)

  pub value_judged : (v : ℕ) → first_of (value_order sheet (v ∷ [])) ≡ clear → Shaped sheet × (v < 2 ^ record_count sheet)
  value_judged v e = let s = values_judged v v (value_twice sheet v ∙ e) in (s.0, s.1)

  pub value_passes : first_of (shape_order sheet) ≡ clear → (values : List ℕ) → any_too_large (record_count sheet) values ≡ false → first_of (value_order sheet values) ≡ clear
  value_passes c values e = part-clear (shape_order sheet) _ c ∙ element-clear (record_count sheet) values e
