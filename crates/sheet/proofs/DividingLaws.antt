-- The laws of `specs/Dividing.antt` that a wrong definition breaks, and what rests on them. The head there tells of both files.
-- Assumes nothing.
use Rattle.std.specs.Prelude.{◌≡◌, List, [], ◌∷◌, ℕ, ◌^◌, ◌<◌}
use Rattle.std.proofs.Common.{sym, ap, ◌∙◌}
use Rattle.refusals.specs.Verdicts.{Verdict, clear, first_of, and_then}
use Rattle.refusals.specs.Orders.{first-append, parts-clear}
use Rattle.sheet.specs.Record.{record_count}
use Rattle.sheet.specs.Orders.{Shaped, zero_rule, value_order, inverse_order, quotient_order}
use Rattle.sheet.specs.Converting.{value_twice}
use Rattle.sheet.proofs.ConvertingLaws.{values_judged}

-- ---- the orders

module _ (sheet : List ℕ) where
  pub inverse_twice : (a : ℕ) → first_of (quotient_order sheet a a) ≡ first_of (inverse_order sheet a)
  inverse_twice a =
      first-append (value_order sheet (a ∷ a ∷ [])) (zero_rule a ∷ [])
      ∙ ap (λ (v : Verdict). and_then v (first_of (zero_rule a ∷ []))) (value_twice sheet a)
      ∙ sym (first-append (value_order sheet (a ∷ [])) (zero_rule a ∷ []))

  pub division_judged : (b a : ℕ) → first_of (quotient_order sheet b a) ≡ clear → Shaped sheet × (b < 2 ^ record_count sheet) × (a < 2 ^ record_count sheet)
  division_judged b a e = values_judged sheet b a (parts-clear (value_order sheet (b ∷ a ∷ [])) (zero_rule a ∷ []) e).0
