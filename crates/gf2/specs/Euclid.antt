-- The greatest common divisor, and the laws of Euclid's steps: a step keeps the common divisors; the last divisor is the
-- greatest; of two polynomials, the first of which is not 0, there is one only.
-- Assumes nothing.
use Rattle.std.specs.Prelude.{◌≡◌, ℕ, ◌<◌, ◌≤◌}
use Rattle.std.proofs.Common.{ap, ◌∙◌, arith}
use Rattle.gf2.specs.Poly.{◌⊕◌, product, rem, Divides}
use Rattle.gf2.specs.Sum.{⊕_cancel}
use Rattle.gf2.specs.Remainder.{rem-quotient}
use Rattle.gf2.specs.Divisors.{divides_self, divides-zero, divides-⊕, divides-product, divides-pos, divides-le}

-- g divides a and b, and what divides both divides g
pub record GreatestCommon (a b g : ℕ) : Type 0 where
  pub left : Divides g a
  pub right : Divides g b
  pub greatest : (h : ℕ) → Divides h a → Divides h b → Divides h g

-- a and b have the common divisors of u and v
pub record SameDivisors (a b u v : ℕ) : Type 0 where
  pub down : (h : ℕ) → Divides h a → Divides h b → Divides h u × Divides h v
  pub up : (h : ℕ) → Divides h u → Divides h v → Divides h a × Divides h b

pub same_refl : (a b : ℕ) → SameDivisors a b a b
same_refl a b = record { down = λ h p q. (p, q); up = λ h p q. (p, q) }

-- u is a multiple of v and the remainder
pub same_step : (a b u v m : ℕ) → SameDivisors a b u v → SameDivisors a b v (rem v m u)
same_step a b u v m s =
    let q = rem-quotient v m u in
    let w : ℕ = product q.0 v in
    let e : w ⊕ u ≡ rem v m u = ap (λ (x : ℕ). w ⊕ x) q.1 ∙ ⊕_cancel w (rem v m u) in
    record {
      down = λ h x y.
          let p = s.down h x y in
          (p.1, rw e at (divides-⊕ h w u (divides-product h v q.0 p.1) p.0));
      up = λ h x y. s.up h (rw q.1 (divides-⊕ h w (rem v m u) (divides-product h v q.0 x) y)) x;
    }

pub same-done : (a b u v : ℕ) → v ≡ 0 → SameDivisors a b u v → GreatestCommon a b u
same-done a b u v e s =
    let p = s.up u (divides_self u) (rw e (divides-zero u)) in
    record { left = p.0; right = p.1; greatest = λ h x y. (s.down h x y).0 }

-- each divides the other, so neither is larger
pub greatest_unique : (a b g h : ℕ) → 0 < a → GreatestCommon a b g → GreatestCommon a b h → g ≡ h
greatest_unique a b g h pos s t =
    let below : g ≤ h = divides-le g h (divides-pos h a pos t.left) (t.greatest g s.left s.right) in
    let above : h ≤ g = divides-le h g (divides-pos g a pos s.left) (s.greatest h t.left t.right) in
    omega arith
