-- Laws of the orders of converting and multiplying: what they leave of the sheet and of the values where no condition applies.
-- What of this a wrong definition breaks, and what rests on that, stands in `proofs/ConvertingLaws.antt`.
-- Assumes nothing.
use Rattle.std.specs.Prelude.{◌≡◌, List, [], ◌∷◌, ℕ}
use Rattle.std.proofs.Common.{sym, ap, ◌∙◌}
use Rattle.refusals.specs.Verdicts.{first_of, and_then}
use Rattle.refusals.specs.Orders.{first-append}
use Rattle.field.specs.Refusals.{element_order}
use Rattle.field.specs.Orders.{element_twice}
use Rattle.sheet.specs.Record.{record_count}
use Rattle.sheet.specs.Orders.{shape_order, value_order}

-- a number that is given twice is judged as given once
pub value_twice : (sheet : List ℕ) (v : ℕ) → first_of (value_order sheet (v ∷ v ∷ [])) ≡ first_of (value_order sheet (v ∷ []))
value_twice sheet v =
    first-append (shape_order sheet) (element_order (record_count sheet) (v ∷ v ∷ []))
    ∙ ap (and_then (first_of (shape_order sheet))) (element_twice (record_count sheet) v)
    ∙ sym (first-append (shape_order sheet) (element_order (record_count sheet) (v ∷ [])))
