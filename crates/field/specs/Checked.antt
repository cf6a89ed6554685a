-- What the check answers, and what it means of f: done exactly if f is accepted. An accepted f has a degree from 2 to the limit, is
-- irreducible, and has every element return after n squarings.
-- Assumes nothing.
use Rattle.std.specs.Prelude.{◌≡◌, refl, ◌↔◌, false, [], ◌∷◌, ℕ, ◌^◌, ◌<◌, eqb}
use Rattle.std.proofs.Common.{sym, ◌∙◌}
use borrow.Author.Tests.{eqb-true, not-false}
use Rattle.gf2.specs.Poly.{degree}
use Rattle.field.specs.Field.{squared, Irreducible}
use Rattle.refusals.specs.Verdicts.{clear, first_of}
use Rattle.refusals.specs.Orders.{first_passes, first-clear}
use Rattle.refusals.specs.Answered.{judged_clear, answer-clear}
use Rattle.field.specs.Accepted.{degree_outside, strays, Accepted, InRange}
use Rattle.field.specs.Refusals.{degree_rule, divisor_rule, return_rule, field_order, check_order}
use Rattle.field.specs.Answers.{check_answer}
use Rattle.field.specs.Orders.{in_range, field_passed}
use Rattle.field.specs.Frobenius.{squared_fixes}
use Rattle.field.specs.Divided.{undivided-irreducible}
use Rattle.std.specs.Prelude.{Err}
use Rattle.refusals.specs.Answers.{passed}

-- ---- the order of 2 and 3

-- degree in range: nothing of 2 and 3 applies exactly if f is accepted
pub field_accepts : (f : ℕ) → degree_outside f ≡ false → (first_of (field_order f) ≡ clear) ↔ Accepted f
field_accepts f inside = (
  λ e.
      let two = first-clear (divisor_rule f) (return_rule f ∷ []) e in
      let three = first-clear (return_rule f) [] two.1 in
      record { in_range = inside; undivided = two.0; returns = three.0 },
  λ s. field_passed f (degree f) refl s.undivided s.returns,
)

-- ---- the answer

pub check_accepts : (f : ℕ) → (check_answer f ≡ passed) ↔ Accepted f
unfolding check_answer
check_accepts f = (
  λ e.
      let one = first-clear (degree_rule f) (field_order f) (judged_clear (first_of (check_order f)) refl e) in
      (field_accepts f one.0).0 one.1,
  λ s.
      sym (answer-clear Err passed (first_passes (degree_rule f) (field_order f) s.in_range ∙ (field_accepts f s.in_range).1 s)),
)

-- ---- what an accepted f is

module _ (f : ℕ) (s : Accepted f) where
  pub accepted-degree : InRange f (degree f)
  accepted-degree = in_range f (degree f) refl s.in_range

  pub accepted-irreducible : Irreducible f
  accepted-irreducible = (undivided-irreducible f (degree f) accepted-degree.is_degree).0 s.undivided

  pub accepted-returns : squared f (degree f) (degree f) 2 ≡ 2
  unfolding strays
  accepted-returns =
      eqb-true (squared f (degree f) (degree f) 2) 2 (not-false (eqb (squared f (degree f) (degree f) 2) 2) s.returns)

  -- every element returns
  pub accepted-all_return : (a : ℕ) → a < 2 ^ degree f → squared f (degree f) (degree f) a ≡ a
  accepted-all_return =
      squared_fixes f (degree f) accepted-degree.is_degree accepted-degree.two (degree f) accepted-returns
