-- Long division of a by a divisor d, of degree m: each turn finds a coefficient of the quotient, from the highest down.
--
--   Left a d q left            where the division stands: q is the quotient so far, and left is to be divided
--   left_start, left-done      where it starts and ends
--   left-degree                d can be moved up to the highest coefficient of left; `moved-degree`: there it is
--   left_turn, left_less       a turn, and what is left is less
--   quotient_unique            there is one quotient alone
--
-- Assumes nothing.
use Rattle.std.specs.Prelude.{◌≡◌, ℕ, ◌+◌, ◌-◌, ◌*◌, ◌^◌, ◌≤◌, ◌<◌}
use Rattle.std.proofs.Common.{sym, ap, ◌∙◌, ⊎_elim, arith, pow_pos}
use Rattle.gf2.specs.Poly.{◌⊕◌, product, degree, Degree, Divides}
use Rattle.gf2.specs.Numbers.{order, pow-next}
use Rattle.gf2.specs.Sum.{zero-⊕, ⊕-zero, ⊕_comm, ⊕_assoc, ⊕_cancel, ⊕_self, ⊕-eq-zero}
use Rattle.gf2.specs.Product.{product-zero_l, product_comm, product-⊕_l, product-power}
use Rattle.gf2.specs.Degrees.{degree_is, degree_mono, degree_shift, degree-product}
use Rattle.gf2.specs.Remainder.{reduce_large, reduce-lt}
use Rattle.gf2.specs.Divisors.{divides-⊕, divides-le}

-- a is q times d and what is left, which d divides
pub record Left (a d q left : ℕ) : Type 0 where
  pub sum : a ≡ product q d ⊕ left
  pub divides : Divides d left

module _ (a d m : ℕ) (deg : Degree d m) where
  pub left_start : Divides d a → Left a d 0 a
  left_start v = record { sum = sym (rw (product-zero_l, zero-⊕)); divides = v }

  pub left-done : (q left : ℕ) → left ≡ 0 → Left a d q left → product q d ≡ a
  left-done q left e s = sym (s.sum ∙ ap (λ (x : ℕ). product q d ⊕ x) e ∙ ⊕-zero _)

  module _ (q left n : ℕ) (nz : left ≡ 0 → ⊥) (en : n ≡ degree left) (s : Left a d q left) where
    deg-left : Degree left n
    deg-left = rw en (degree_is left (omega arith))

    pub left-degree : m ≤ n
    left-degree = degree_mono d left m n deg deg-left (divides-le d left (omega arith) s.divides)

    module _ (k : ℕ) (ek : k ≡ n - m) where
      pub moved-degree : Degree (d * 2 ^ k) n
      moved-degree =
          let e : m + k ≡ n = omega (arith, left-degree) in
          rw e at (degree_shift d m k deg)

      pub left_turn : (q' left' : ℕ) → q' ≡ q ⊕ 2 ^ k → left' ≡ left ⊕ d * 2 ^ k → Left a d q' left'
      left_turn q' left' eq el =
          let e : product (2 ^ k) d ≡ d * 2 ^ k = product_comm (2 ^ k) d ∙ product-power d k in
          record {
            sum = rw (eq, el, product-⊕_l, e, ⊕_assoc, ⊕_comm left (d * 2 ^ k), ⊕_cancel) s.sum;
            divides = rw el (divides-⊕ d left (d * 2 ^ k) s.divides (2 ^ k, e));
          }

      pub left_less : (left' : ℕ) → left' ≡ left ⊕ d * 2 ^ k → left' < left
      left_less left' el =
          let h : left < 2 ^ n * 2 = rw pow-next at deg-left.high in
          let r : left ⊕ d * 2 ^ k < 2 ^ n =
          rw (reduce_large (d * 2 ^ k) n left deg-left.low) at (reduce-lt (d * 2 ^ k) n moved-degree left h) in
          omega (arith, deg-left.low)

-- there is one quotient alone
pub quotient_unique : (d q r : ℕ) → 0 < d → product q d ≡ product r d → q ≡ r
quotient_unique d q r pos e =
    let s : ℕ = q ⊕ r in
    let z : product s d ≡ 0 = product-⊕_l q r d ∙ ap (λ (x : ℕ). x ⊕ product r d) e ∙ ⊕_self (product r d) in
    ⊎_elim
    (λ (u : s < 1). ⊕-eq-zero q r (omega arith))
    (λ (u : 1 ≤ s).
    let low = (degree-product s d (degree s) (degree d) (degree_is s u) (degree_is d pos)).low in
    absurd (omega (arith, pow_pos (degree s + degree d))))
    (order s 1)
