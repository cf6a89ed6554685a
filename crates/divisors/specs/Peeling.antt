-- Irreducible divisors p are taken off g, one after another, and the smallest is kept.
--
--   smaller a b                 the smaller of two numbers
--   Peeled g best rest          where that stands: the smallest divisor of g is the best so far, or divides the rest
--   peeled_start, peeled_done   where it starts and ends
--   peeled_less, peeled_turn    a turn, and the rest is less
--
-- Assumes nothing.
use Rattle.std.specs.Prelude.{◌≡◌, ◌⊎◌, cond, ℕ, min, ◌≤◌, ◌<◌, ltb}
use Rattle.std.proofs.Common.{sym, ap, ◌∙◌, inl, inr, ⊎_elim, arith, lt-ltb, le-ltb}
use Rattle.gf2.specs.Poly.{product, degree, Degree, Divides}
use Rattle.gf2.specs.Numbers.{order}
use Rattle.gf2.specs.Product.{product-zero_l, product_comm}
use Rattle.gf2.specs.Degrees.{degree_is}
use Rattle.gf2.specs.Divisors.{divides_self, divides_trans, divides-one, factor_lt}
use Rattle.field.specs.Field.{Irreducible}
use Rattle.divisors.specs.Smallest.{smallest_divisor, smallest_is, smallest-irreducible}
use Rattle.divisors.specs.Ideals.{divides_factor, divides-irreducible}

unfoldable pub smaller : (a b : ℕ) → ℕ
smaller a b = cond (ltb b a) b a

pub smaller-left : (a b : ℕ) → a ≤ b → smaller a b ≡ a
unfolding smaller
smaller-left a b h = rw (le-ltb b a h)

pub smaller-right : (a b : ℕ) → b < a → smaller a b ≡ b
unfolding smaller
smaller-right a b h = rw (lt-ltb b a h)

-- the library's word for it
pub min-smaller : (a b : ℕ) → min a b ≡ smaller a b
min-smaller a b =
    ⊎_elim
    (λ (h : b < a). let e : min a b ≡ b = omega arith in e ∙ sym (smaller-right a b h))
    (λ (h : a ≤ b). let e : min a b ≡ a = omega arith in e ∙ sym (smaller-left a b h))
    (order b a)

pub record Peeled (g best rest : ℕ) : Type 0 where
  pub pos : 1 ≤ rest
  pub part : Divides rest g
  pub two : 2 ≤ best
  pub divides : Divides best g
  pub seen : (best ≡ smallest_divisor g) ⊎ Divides (smallest_divisor g) rest

module _ (g : ℕ) (big : 2 ≤ g) where
  pub peeled_start : Peeled g g g
  peeled_start = record {
    pos = omega arith;
    part = divides_self g;
    two = big;
    divides = divides_self g;
    seen = inr (smallest_is g big).divides;
  }

  pub peeled_done : (best rest : ℕ) → rest ≡ 1 → Peeled g best rest → best ≡ smallest_divisor g
  peeled_done best rest e s =
      ⊎_elim
      (λ (u : best ≡ smallest_divisor g). u)
      (λ (u : Divides (smallest_divisor g) rest). absurd (divides-one (smallest_divisor g) (smallest_is g big).two (rw e at u)))
      s.seen

  module _ (best rest p rest' : ℕ) (s : Peeled g best rest) (two : 2 ≤ p) (irr : Irreducible p) (e : product rest' p ≡ rest) where
    not_zero : 1 ≤ rest'
    not_zero =
        ⊎_elim
        (λ (u : rest' < 1).
        let z : rest' ≡ 0 = omega arith in
        let y : 0 ≡ rest = sym (product-zero_l p) ∙ ap (λ (x : ℕ). product x p) (sym z) ∙ e in
        absurd (omega (arith, s.pos)))
        (λ (u : 1 ≤ rest'). u)
        (order rest' 1)

    divisor : Divides p g
    divisor = divides_trans p rest g (rest', e) s.part

    pub peeled_less : (rest ≡ 1 → ⊥) → rest' < rest
    peeled_less off =
        let deg : Degree rest (degree rest) = degree_is rest s.pos in
        ⊎_elim
        (λ (u : rest' < 2). omega (arith, s.pos, off))
        (λ (u : 2 ≤ rest'). omega (arith, factor_lt rest' p rest (degree rest) deg e u two, deg.low))
        (order rest' 2)

    least : smallest_divisor g ≤ p
    least = (smallest_is g big).least p two divisor

    kept : best ≡ smallest_divisor g → smaller best p ≡ smallest_divisor g
    kept u = smaller-left best p (omega (arith, least)) ∙ u

    -- the smallest divisor divides p, and so is p, or the rest
    found : Divides (smallest_divisor g) rest → (smaller best p ≡ smallest_divisor g) ⊎ Divides (smallest_divisor g) rest'
    found v =
        let q : ℕ = smallest_divisor g in
        let t = smallest_is g big in
        ⊎_elim
        (λ (u : Divides q rest'). inr u)
        (λ (u : Divides q p).
        let same : q ≡ p = divides-irreducible p q irr t.two u in
        inl (⊎_elim
        (λ (h : p < best). smaller-right best p h ∙ sym same)
        (λ (h : best ≤ p). smaller-left best p h ∙ omega (arith, t.least best s.two s.divides))
        (order p best)))
        (divides_factor q (degree q) (degree_is q (omega (arith, t.two))) (smallest-irreducible g big) rest' p (rw e v))

    chosen : (2 ≤ smaller best p) × Divides (smaller best p) g
    chosen =
        ⊎_elim
        (λ (h : p < best). rw (smaller-right best p h) (two, divisor))
        (λ (h : best ≤ p). rw (smaller-left best p h) (s.two, s.divides))
        (order p best)

    pub peeled_turn : (best' : ℕ) → best' ≡ smaller best p → Peeled g best' rest'
    peeled_turn best' eb = rw eb (record {
      pos = not_zero;
      part = divides_trans rest' rest g (p, product_comm p rest' ∙ e) s.part;
      two = chosen.0;
      divides = chosen.1;
      seen = ⊎_elim (λ (u : best ≡ smallest_divisor g). inl (kept u)) (λ (u : Divides (smallest_divisor g) rest). found u) s.seen;
    })
