-- The laws of `specs/Orders.antt` that a wrong definition breaks, and what rests on them. The head there tells of both files.
-- Assumes nothing.
use Rattle.std.specs.Prelude.{◌≡◌, refl, true, false, ◌||◌, [], ◌∷◌, ℕ, ◌≤◌, ◌<◌}
use Rattle.std.proofs.Common.{◌∙◌, lt-ltb, le-ltb, ltb-false}
use Rattle.gf2.specs.Poly.{degree}
use Rattle.gf2.specs.Truth.{or_right}
use Rattle.refusals.specs.Verdicts.{clear, refuse, first_of}
use Rattle.refusals.specs.Orders.{first-applies, first_passes, first-clear, part-refused, part-clear, parts-clear}
use Rattle.field.specs.Accepted.{degree_outside}
use Rattle.field.specs.Refusals.{too_large_lem, degree_rule, operand_order, field_order}
use Rattle.field.specs.Orders.{element_large, none_large}
use Rattle.field.proofs.Orders.{operand-inside, operands_judged}
use Rattle.search.specs.Answers.{range_rule, search_order}
use Rattle.search.specs.Begun.{RangeOf}
use Rattle.search.specs.Orders.{clear-field}
use Rattle.refusals.specs.declared.fault.Fault.TheVariants as faults

-- ---- 12

module _ (f first last : ℕ) where
  pub range_empty : last < first → first_of (range_rule first last ∷ field_order f) ≡ refuse faults.EmptyRange 0
  range_empty l = first-applies (range_rule first last) _ (lt-ltb last first l)

  pub range_past : first ≤ last → first_of (range_rule first last ∷ field_order f) ≡ first_of (field_order f)
  range_past l = first_passes (range_rule first last) _ (le-ltb last first l)

  -- ---- along the order

  pub search-outside : degree_outside f ≡ true → first_of (search_order f first last) ≡ refuse faults.DegreeOutside 0
  search-outside e = first-applies (degree_rule f) _ e

  module _ (inside : degree_outside f ≡ false) where
    pub search-last : too_large_lem (degree f) last ≡ true → first_of (search_order f first last) ≡ refuse faults.TooLarge 0
    search-last e =
        part-refused (operand_order f (first ∷ last ∷ [])) (range_rule first last ∷ field_order f) faults.TooLarge 0
        (operand-inside f (degree f) (first ∷ last ∷ []) refl inside
        ∙ element_large (degree f) (first ∷ last ∷ []) (or_right (too_large_lem (degree f) first) (too_large_lem (degree f) last || false) (rw e)))

    pub search-past : too_large_lem (degree f) first ≡ false → too_large_lem (degree f) last ≡ false → first ≤ last → first_of (search_order f first last) ≡ first_of (field_order f)
    search-past p q l =
        part-clear (operand_order f (first ∷ last ∷ [])) (range_rule first last ∷ field_order f)
        (operand-inside f (degree f) (first ∷ last ∷ []) refl inside ∙ none_large (degree f) first last p q)
        ∙ range_past l

-- ---- what the order leaves where none of its conditions applies

pub clear_range : (f n first last : ℕ) → n ≡ degree f → first_of (search_order f first last) ≡ clear → RangeOf f n first last
clear_range f n first last en e =
    let s = parts-clear (operand_order f (first ∷ last ∷ [])) (range_rule first last ∷ field_order f) e in
    let ends = operands_judged f n first en last s.0 in
    let range = first-clear (range_rule first last) (field_order f) s.1 in
    record {
      of_field = clear-field f n en (first-clear (degree_rule f) _ e).0 range.1;
      ordered = ltb-false last first range.0;
      elements = ends.1.small;
    }
