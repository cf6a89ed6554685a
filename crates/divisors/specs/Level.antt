-- Polynomials all of whose irreducible divisors have one degree, i: no divisor but 1 has a lower degree, and x squared i times is x
-- modulo them.
--
--   Level i g           g is such a polynomial; `level_part`: so are its divisors, but 1
--   level_fixes         squaring i times leaves every element modulo g
--   level_irreducible   if the degree of g is i, g is irreducible
--   level_degree        if g is irreducible, its degree is i
--   level_squarefree    no square but 1 divides g
--
-- Assumes nothing.
use Rattle.std.specs.Prelude.{◌≡◌, ℕ, zero, suc, ◌+◌, ◌^◌, ◌≤◌, ◌<◌}
use Rattle.std.proofs.Common.{sym, ap, ◌∙◌, ⊎_elim, arith, pow_mono}
use Rattle.gf2.specs.Poly.{product, degree, rem, mul_mod, Degree, Divides}
use Rattle.gf2.specs.Numbers.{order}
use Rattle.gf2.specs.Degrees.{degree_is, degree-pos, degree-lt, degree-product}
use Rattle.gf2.specs.Remainder.{rem-small, rem_self}
use Rattle.gf2.specs.Divisors.{divides_self, divides_trans}
use Rattle.field.specs.Field.{squared, Irreducible}
use Rattle.field.specs.Ring.{two-lt}
use Rattle.field.specs.Frobenius.{squared-zero, squared_fixes}
use Rattle.field.specs.ConjugateSums.{squared_moves}
use Rattle.field.specs.Divided.{none-irreducible}
use Rattle.field.specs.CommonDivisors.{rem-through, squared-through}

pub record Level (i g : ℕ) : Type 0 where
  pub two : 2 ≤ g
  pub from : 1 ≤ i
  pub least : (d m : ℕ) → 2 ≤ d → Degree d m → Divides d g → i ≤ m
  pub returns : (m : ℕ) → Degree g m → squared g m i (rem g m 2) ≡ rem g m 2

module _ (i g : ℕ) (s : Level i g) where
  pub level_part : (d : ℕ) → 2 ≤ d → Divides d g → Level i d
  level_part d two v =
      let n : ℕ = degree g in
      let deg : Degree g n = degree_is g (omega (arith, s.two)) in
      record {
        two = two;
        from = s.from;
        least = λ c m l dc w. s.least c m l dc (divides_trans c d g w v);
        returns = λ m dd.
            ap (squared d m i) (sym (rem-through g n d m dd v 2)) ∙ sym (squared-through g n d m dd v i (rem g n 2))
            ∙ ap (rem d m) (s.returns n deg) ∙ rem-through g n d m dd v 2;
      }

  module _ (m : ℕ) (deg : Degree g m) where
    pub level_fixes : 2 ≤ m → (a : ℕ) → a < 2 ^ m → squared g m i a ≡ a
    level_fixes big =
        let e : rem g m 2 ≡ 2 = rem-small g m 2 (two-lt m big) in
        squared_fixes g m deg big i (rw e at (s.returns m deg))

    pub level_irreducible : m ≤ i → Irreducible g
    level_irreducible l =
        none-irreducible g m deg
        (λ d v.
        let dd : Degree d (degree d) = degree_is d (omega (arith, v.two)) in
        omega (arith, degree-lt d (degree d) m dd v.below, s.least d (degree d) v.two dd v.divides))

    pub level_degree : Irreducible g → m ≡ i
    level_degree irr =
        let l : i ≤ m = s.least g m s.two deg (divides_self g) in
        ⊎_elim
        (λ (u : i < m). absurd (squared_moves g m deg (omega arith) irr i s.from u (level_fixes (omega (arith, s.from)))))
        (λ (u : m ≤ i). omega arith)
        (order i m)

-- modulo p times p the square of p is 0, and i squarings would have to return p
square_dies : (p j i : ℕ) → 1 ≤ i → Degree (product p p) j → squared (product p p) j i p ≡ 0
unfolding squared mul_mod
square_dies p j zero from deg = absurd (omega arith)
square_dies p j (suc k) from deg = rw (rem_self (product p p) j deg) (squared-zero (product p p) j deg k)

pub level_squarefree : (i g : ℕ) → Level i g → (p : ℕ) → 2 ≤ p → Divides (product p p) g → ⊥
level_squarefree i g s p two v =
    let m : ℕ = degree p in
    let deg : Degree p m = degree_is p (omega arith) in
    let pos : 1 ≤ m = degree-pos p m two deg in
    let dq : Degree (product p p) (m + m) = degree-product p p m m deg deg in
    let h : m + 1 ≤ m + m = omega arith in
    let big : 2 ≤ m + m = omega arith in
    let lp : Level i (product p p) = level_part i g s (product p p) (omega (arith, dq.low, pow_mono big)) v in
    let z : p ≡ 0 =
    sym (level_fixes i (product p p) lp (m + m) dq big p (omega (arith, deg.high, pow_mono h))) ∙ square_dies p (m + m) i s.from dq in
    omega arith
