-- The cause of refusal 2 (document 02, §5): "the smallest divisor of degree at least 1 as a number". "Prove the cause true, and smallest
-- where promised so."
--
--   divisor_test f d                d is a divisor of degree at least 1
--   smallest_divisor f              the smallest of these, for an f of degree at least 1
--   Least f s                      s is that, said for every d
--   smallest_is, smallest_unique   it is, and nothing else is
--   smallest_of_degree             no divisor of a degree m, at least 1, is smaller
--   smallest-whole                 if f is irreducible, it is f
--   smallest-irreducible           it is irreducible
--   smallest_of_part               a divisor of f that it divides has the same
--   smallest-proper                if refusal 2 applies, its degree is from 1 to n - 1
--
-- Assumes nothing.
use Rattle.std.specs.Prelude.{◌≡◌, ◌⊎◌, Bool, ◌&&◌, ℕ, ◌+◌, ◌^◌, ◌≤◌, ◌<◌, leb}
use Rattle.std.proofs.Common.{inl, inr, arith, pow_mono, le-leb}
use Rattle.std.proofs.Math.Logic.{⊎_elim}
use Rattle.std.proofs.Math.Bool.{true}
use Rattle.gf2.specs.Poly.{degree, Degree, Divides, divides}
use Rattle.gf2.specs.Numbers.{order}
use Rattle.gf2.specs.Bounded.{first, Found}
use Rattle.gf2.specs.Existence.{first_is}
use Rattle.gf2.specs.Degrees.{degree_is, degree-pos, degree-lt}
use Rattle.gf2.specs.Divisors.{divides_self, divides_trans, divides-means}
use Rattle.field.specs.Field.{Irreducible}
use Rattle.field.specs.Accepted.{divided}
use Rattle.field.specs.Divided.{Divisor, divided-proper, proper_test, none-irreducible}
use Rattle.divisors.specs.Ideals.{divides-irreducible}

-- the polynomials "of degree at least 1" are the numbers from 2 upward
abbrev pub divisor_test : (f d : ℕ) → Bool
divisor_test f d = leb 2 d && divides d f

-- "the smallest divisor of degree at least 1 as a number": f divides itself, so the numbers up to f are enough
unfoldable pub smallest_divisor : (f : ℕ) → ℕ
smallest_divisor f = first (f + 1) (divisor_test f)

pub record Least (f s : ℕ) : Type 0 where
  pub two : 2 ≤ s
  pub divides : Divides s f
  pub least : (d : ℕ) → 2 ≤ d → Divides d f → s ≤ d

-- ---- what it means

passes : (f d : ℕ) → 2 ≤ d → Divides d f → divisor_test f d ≡ true
passes f d l v = rw (le-leb 2 d l) ((divides-means d f (omega arith)).1 v)

module _ (f : ℕ) (big : 2 ≤ f) where
  pub smallest_is : Least f (smallest_divisor f)
  unfolding smallest_divisor
  smallest_is = go (first_is (f + 1) (divisor_test f))
    where
      go : Found (f + 1) (divisor_test f) (first (f + 1) (divisor_test f))
          ⊎ ((first (f + 1) (divisor_test f) ≡ f + 1) × ((d : ℕ) → d < f + 1 → divisor_test f d ≡ true → ⊥))
          → Least f (first (f + 1) (divisor_test f))
      go (inl u) =
          let p = proper_test f (first (f + 1) (divisor_test f)) u.passes in
          record {
            two = p.0;
            divides = p.1;
            least = λ d l v. ⊎_elim
                (λ (h : d < first (f + 1) (divisor_test f)). absurd (u.least d h (passes f d l v)))
                (λ (h : first (f + 1) (divisor_test f) ≤ d). h)
                (order d (first (f + 1) (divisor_test f)));
          }
      go (inr u) = absurd (u.1 f (omega arith) (passes f f big (divides_self f)))

  pub smallest_unique : (s : ℕ) → Least f s → smallest_divisor f ≡ s
  smallest_unique s l =
      let t = smallest_is in
      omega (arith, t.least s l.two l.divides, l.least (smallest_divisor f) t.two t.divides)

  pub smallest_of_degree : (d m : ℕ) → Degree d m → 1 ≤ m → Divides d f → smallest_divisor f ≤ d
  smallest_of_degree d m deg pos v = smallest_is.least d (omega (arith, deg.low, pow_mono pos)) v

  pub smallest-whole : Irreducible f → smallest_divisor f ≡ f
  smallest-whole irr = divides-irreducible f (smallest_divisor f) irr smallest_is.two smallest_is.divides

  pub smallest-irreducible : Irreducible (smallest_divisor f)
  smallest-irreducible =
      let s : ℕ = smallest_divisor f in
      let t = smallest_is in
      let deg : Degree s (degree s) = degree_is s (omega (arith, t.two)) in
      none-irreducible s (degree s) deg
      (λ d v. omega (arith, deg.low, v.below, t.least d v.two (divides_trans d s f v.divides t.divides)))

-- ---- of a part of f, and of a divided f

pub smallest_of_part : (f g : ℕ) → 2 ≤ f → 2 ≤ g → Divides g f → Divides (smallest_divisor f) g → smallest_divisor g ≡ smallest_divisor f
smallest_of_part f g big two v w =
    let t = smallest_is f big in
    smallest_unique g two (smallest_divisor f) (record { two = t.two; divides = w; least = λ d l u. t.least d l (divides_trans d g f u v) })

pub smallest-proper : (f n : ℕ) → Degree f n → divided f n ≡ true → Divisor f n (smallest_divisor f)
smallest-proper f n deg e =
    let p = (divided-proper f n).0 e in
    let big : 2 ≤ f = omega (arith, deg.low, p.1.two, p.1.below) in
    let t = smallest_is f big in
    let s : ℕ = smallest_divisor f in
    let ds : Degree s (degree s) = degree_is s (omega (arith, t.two)) in
    let below : s < 2 ^ n = omega (arith, t.least p.0 p.1.two p.1.divides, p.1.below) in
    record { m = degree s; is_degree = ds; from = degree-pos s (degree s) t.two ds; to = degree-lt s (degree s) n ds below; divides = t.divides }
