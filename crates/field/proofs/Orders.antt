-- The laws of `specs/Orders.antt` that a wrong definition breaks, and what rests on them. The head there tells of both files.
-- Assumes nothing.
use Rattle.std.specs.Prelude.{◌≡◌, false, List, [], ◌∷◌, ℕ}
use Rattle.std.proofs.Common.{sym, ap, ◌∙◌}
use Rattle.gf2.specs.Poly.{degree}
use Rattle.refusals.specs.Verdicts.{clear, first_of}
use Rattle.refusals.specs.Orders.{first_passes, first-clear}
use Rattle.field.specs.Accepted.{degree_outside, InRange, Operand}
use Rattle.field.specs.Refusals.{degree_rule, element_order, operand_order}
use Rattle.field.specs.Orders.{both_small, in_range, operand_twice}

-- ---- both

-- condition 4, judged with the degree that a call has computed
pub operand-inside : (f n : ℕ) (values : List ℕ) → n ≡ degree f → degree_outside f ≡ false → first_of (operand_order f values) ≡ first_of (element_order n values)
operand-inside f n values en e = first_passes (degree_rule f) _ e ∙ ap (λ (k : ℕ). first_of (element_order k values)) (sym en)

-- what conditions 1 and 4 leave
module _ (f n a : ℕ) (en : n ≡ degree f) where
  pub operands_judged : (b : ℕ) → first_of (operand_order f (a ∷ b ∷ [])) ≡ clear → Operand f n a × Operand f n b
  operands_judged b e =
      let s = first-clear (degree_rule f) (element_order (degree f) (a ∷ b ∷ [])) e in
      let r : InRange f n = in_range f n en s.0 in
      let p = both_small (degree f) a b s.1 in
      (record { in_range = r; small = rw en p.0 }, record { in_range = r; small = rw en p.1 })

  pub operand_judged : first_of (operand_order f (a ∷ [])) ≡ clear → Operand f n a
  operand_judged e = (operands_judged a (operand_twice f a ∙ e)).0
