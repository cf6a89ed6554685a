-- Laws of the field calls' orders: what a path through conditions 1 to 4 finds, and what they leave where they do not apply. What the
-- check's answer means: `Checked`.
-- What of this a wrong definition breaks, and what rests on that, stands in `proofs/Orders.antt`.
-- Assumes nothing.
use Rattle.std.specs.Prelude.{◌≡◌, refl, Bool, true, false, List, [], ◌∷◌, ℕ, ◌^◌, ◌≤◌, ◌<◌, ltb}
use Rattle.std.proofs.Common.{ap, ◌∙◌, ⊎_elim, arith, ltb-false, leb-false, le-leb}
use Rattle.std.proofs.lemmas.Bool.{lt-leb}
use Rattle.gf2.specs.Poly.{degree}
use Rattle.gf2.specs.Numbers.{order}
use Rattle.gf2.specs.Truth.{or_false}
use Rattle.gf2.specs.Degrees.{degree_is, degree-zero}
use Rattle.gf2.specs.Limit.{limit}
use Rattle.refusals.specs.Verdicts.{Rule, clear, refuse, first_of}
use Rattle.refusals.specs.Orders.{first-applies, first_passes, first-none, first-clear}
use Rattle.field.specs.Accepted.{degree_outside, divided, strays, InRange}
use Rattle.field.specs.Refusals.{too_large_lem, any_too_large, degree_rule, element_rule, divisor_rule, return_rule, element_order, operand_order, field_order}
use Rattle.refusals.specs.declared.fault.Fault.TheVariants as faults

-- ---- condition 1

pub in_range : (f n : ℕ) → n ≡ degree f → degree_outside f ≡ false → InRange f n
unfolding degree_outside
in_range f n en e =
    let s = or_false (ltb (degree f) 2) (ltb limit (degree f)) e in
    let l : 2 ≤ degree f = ltb-false (degree f) 2 s.0 in
    let h : degree f ≤ limit = ltb-false limit (degree f) s.1 in
    let p : 0 < f = ⊎_elim (λ (u : 0 < f). u) (λ (u : f ≤ 0). let z : f ≡ 0 = omega arith in absurd (omega (arith, ap degree z ∙ degree-zero))) (order 0 f) in
    rw en (record { two = l; most = h; is_degree = degree_is f p })

-- what condition 1 leaves, whatever an order asks after it
pub degree_judged : (f n : ℕ) → n ≡ degree f → (rules : List Rule) → first_of (degree_rule f ∷ rules) ≡ clear → InRange f n
degree_judged f n en rules e = in_range f n en (first-clear (degree_rule f) rules e).0

-- ---- condition 4

pub not_too_large : (n a : ℕ) → too_large_lem n a ≡ false → a < 2 ^ n
unfolding too_large_lem
not_too_large n a e = leb-false (2 ^ n) a e

pub small-enough : (n a : ℕ) → a < 2 ^ n → too_large_lem n a ≡ false
unfolding too_large_lem
small-enough n a h = lt-leb (2 ^ n) a h

pub large_enough : (n a : ℕ) → 2 ^ n ≤ a → too_large_lem n a ≡ true
unfolding too_large_lem
large_enough n a h = le-leb (2 ^ n) a h

module _ (n : ℕ) (values : List ℕ) where
  pub element_large : any_too_large n values ≡ true → first_of (element_order n values) ≡ refuse faults.TooLarge 0
  element_large e = first-applies (element_rule n values) [] e

  pub element-clear : any_too_large n values ≡ false → first_of (element_order n values) ≡ clear
  element-clear e = first_passes (element_rule n values) [] e ∙ first-none

  pub element_passed : first_of (element_order n values) ≡ clear → any_too_large n values ≡ false
  element_passed e = (first-clear (element_rule n values) [] e).0

-- a number that is given twice is judged as given once
pub any_twice : (n a : ℕ) → any_too_large n (a ∷ a ∷ []) ≡ any_too_large n (a ∷ [])
any_twice n a = go (too_large_lem n a) refl
  where
    go : (b : Bool) → too_large_lem n a ≡ b → any_too_large n (a ∷ a ∷ []) ≡ any_too_large n (a ∷ [])
    go true e = rw e
    go false e = rw e

pub element_twice : (n a : ℕ) → first_of (element_order n (a ∷ a ∷ [])) ≡ first_of (element_order n (a ∷ []))
unfolding first_of
element_twice n a = rw (any_twice n a)

-- two numbers, tested one after the other
module _ (n a b : ℕ) where
  pub first_large : too_large_lem n a ≡ true → first_of (element_order n (a ∷ b ∷ [])) ≡ refuse faults.TooLarge 0
  first_large e = element_large n (a ∷ b ∷ []) (rw e)

  module _ (p : too_large_lem n a ≡ false) where
    pub second_large : too_large_lem n b ≡ true → first_of (element_order n (a ∷ b ∷ [])) ≡ refuse faults.TooLarge 0
    second_large e = element_large n (a ∷ b ∷ []) (rw (p, e))

    pub none_large : too_large_lem n b ≡ false → first_of (element_order n (a ∷ b ∷ [])) ≡ clear
    none_large e = element-clear n (a ∷ b ∷ []) (rw (p, e))

  -- what the test leaves
  pub both_small : first_of (element_order n (a ∷ b ∷ [])) ≡ clear → (a < 2 ^ n) × (b < 2 ^ n)
  both_small e =
      let p = or_false (too_large_lem n a) (any_too_large n (b ∷ [])) (element_passed n (a ∷ b ∷ []) e) in
      let q = or_false (too_large_lem n b) false p.1 in
      (not_too_large n a p.0, not_too_large n b q.0)

pub one-small : (n a : ℕ) → first_of (element_order n (a ∷ [])) ≡ clear → a < 2 ^ n
one-small n a e = (both_small n a a (element_twice n a ∙ e)).0

-- ---- both

pub operand_twice : (f a : ℕ) → first_of (operand_order f (a ∷ a ∷ [])) ≡ first_of (operand_order f (a ∷ []))
unfolding first_of
operand_twice f a = rw (any_twice (degree f) a)

-- ---- conditions 2 and 3

module _ (f n : ℕ) (en : degree f ≡ n) where
  pub field-divided : divided f n ≡ true → first_of (field_order f) ≡ refuse faults.Divided 0
  field-divided e = first-applies (divisor_rule f) _ (rw en e)

  module _ (e : divided f n ≡ false) where
    pub field-strays : strays f n ≡ true → first_of (field_order f) ≡ refuse faults.Strays 0
    field-strays s = first_passes (divisor_rule f) _ (rw en e) ∙ first-applies (return_rule f) _ (rw en s)

    pub field_passed : strays f n ≡ false → first_of (field_order f) ≡ clear
    field_passed s = first_passes (divisor_rule f) _ (rw en e) ∙ first_passes (return_rule f) _ (rw en s) ∙ first-none
