-- The part of f that its divisors of the lowest degree make up: the first i for which f and x ^ (2 ^ i) + x have a common divisor other
-- than 1 is that degree, and their greatest common divisor g is that part.
--
--   lowest_found   g has level i, and the smallest divisor of f
--   lowest_none    if no i up to n / 2 is found, f is irreducible, and has level n
--
-- Assumes nothing.
use Rattle.std.specs.Prelude.{◌≡◌, ℕ, ◌+◌, ◌*◌, ◌/◌, ◌^◌, ◌≤◌, ◌<◌}
use Rattle.std.proofs.Common.{sym, ◌∙◌, ⊎_elim, arith, pow_pos, pow_mono}
use Rattle.gf2.specs.Poly.{◌⊕◌, degree, rem, Degree, Divides}
use Rattle.gf2.specs.Numbers.{order}
use Rattle.gf2.specs.Sum.{⊕_self, ⊕-eq-zero}
use Rattle.gf2.specs.Degrees.{degree_is, degree-pos, degree_mono, degree_unique}
use Rattle.gf2.specs.Remainder.{rem_lt, rem-⊕}
use Rattle.gf2.specs.Divisors.{divides_self, divides_trans, divides-rem, rem-divides, divides-pos}
use Rattle.gf2.specs.Euclid.{GreatestCommon}
use Rattle.field.specs.Field.{squared, Irreducible}
use Rattle.field.specs.Fermat.{all_return}
use Rattle.field.specs.Divided.{none-irreducible, undivided-irreducible}
use Rattle.field.specs.CommonDivisors.{NoneTo, squared-through, divided-none}
use Rattle.divisors.specs.Smallest.{smallest_divisor, smallest_is, smallest-irreducible, smallest_of_part}
use Rattle.divisors.specs.Ideals.{divides-irreducible}
use Rattle.divisors.specs.Level.{Level, level_part, level_degree}

module _ (f n : ℕ) where
  -- an irreducible divisor of f, of degree m, divides x ^ (2 ^ m) + x (Fermat)
  irreducible-common : (p m : ℕ) → Degree p m → 1 ≤ m → Irreducible p → Divides p f → Divides p (squared f n m 2 ⊕ 2)
  irreducible-common p m deg pos irr v =
      let a : ℕ = rem p m 2 in
      let back : squared p m m a ≡ a = all_return p m deg pos irr a (rem_lt p m deg 2) in
      rem-divides p m (squared f n m 2 ⊕ 2)
      (rem-⊕ p m deg (squared f n m 2) 2 ∙ rw (squared-through f n p m deg v m 2, back) (⊕_self a))

  -- modulo a divisor of x ^ (2 ^ i) + x, x squared i times is x
  returns_modulo : (g i m : ℕ) → Degree g m → Divides g f → Divides g (squared f n i 2 ⊕ 2) → squared g m i (rem g m 2) ≡ rem g m 2
  returns_modulo g i m deg v w =
      let z : rem g m (squared f n i 2) ⊕ rem g m 2 ≡ 0 = sym (rem-⊕ g m deg (squared f n i 2) 2) ∙ divides-rem g m (squared f n i 2 ⊕ 2) deg w in
      sym (squared-through f n g m deg v i 2) ∙ ⊕-eq-zero (rem g m (squared f n i 2)) (rem g m 2) z

module _ (f n : ℕ) (deg : Degree f n) (k : ℕ) (none : NoneTo f n k) where
  -- no divisor of f has a degree from 1 to k: its smallest divisor would be a common one
  least-after : (k + 1) * 2 ≤ n → (d m : ℕ) → 2 ≤ d → Degree d m → Divides d f → k + 1 ≤ m
  least-after to d m two dd v =
      let p : ℕ = smallest_divisor d in
      let t = smallest_is d two in
      let j : ℕ = degree p in
      let dp : Degree p j = degree_is p (omega (arith, t.two)) in
      let vp : Divides p f = divides_trans p d f t.divides v in
      let pos : 1 ≤ j = degree-pos p j t.two dp in
      let le : j ≤ m = degree_mono p d j m dp dd (t.least d two (divides_self d)) in
      ⊎_elim
      (λ (u : j < k + 1).
      absurd (none j p (omega arith)
      (record { from = pos; to = omega arith; two = t.two; divides = vp; divides-x = irreducible-common f n p j dp pos (smallest-irreducible d two) vp })))
      (λ (u : k + 1 ≤ j). omega arith)
      (order j (k + 1))

  module _ (to : (k + 1) * 2 ≤ n) (g : ℕ) (c : GreatestCommon f (squared f n (k + 1) 2 ⊕ 2) g) (off : g ≡ 1 → ⊥) where
    pos-f : 0 < f
    pos-f = omega (arith, deg.low, pow_pos n)

    two_g : 2 ≤ g
    two_g = omega (arith, divides-pos g f pos-f c.left, off)

    found_level : Level (k + 1) g
    found_level = record {
      two = two_g;
      from = omega arith;
      least = λ d m l dd v. least-after to d m l dd (divides_trans d g f v c.left);
      returns = λ m dg. returns_modulo f n g (k + 1) m dg c.left c.right;
    }

    -- the smallest divisor of f is no larger than that of g, so its degree is k + 1 too, and it is a common divisor
    found-smallest : 2 ≤ f → Divides (smallest_divisor f) g
    found-smallest big =
        let s : ℕ = smallest_divisor f in
        let t = smallest_is f big in
        let p : ℕ = smallest_divisor g in
        let w = smallest_is g two_g in
        let ds : Degree s (degree s) = degree_is s (omega (arith, t.two)) in
        let dp : Degree p (degree p) = degree_is p (omega (arith, w.two)) in
        let ep : degree p ≡ k + 1 =
        level_degree (k + 1) p (level_part (k + 1) g found_level p w.two w.divides) (degree p) dp (smallest-irreducible g two_g) in
        let le : s ≤ p = t.least p w.two (divides_trans p g f w.divides c.left) in
        let es : degree s ≡ k + 1 =
        omega (arith, degree_mono s p (degree s) (degree p) ds dp le, least-after to s (degree s) t.two ds t.divides) in
        c.greatest s t.divides
        (rw es at (irreducible-common f n s (degree s) ds (omega arith) (smallest-irreducible f big) t.divides))

    pub lowest_found : Level (k + 1) g × (smallest_divisor g ≡ smallest_divisor f)
    lowest_found =
        let pos : 1 ≤ n = omega arith in
        let big : 2 ≤ f = omega (arith, deg.low, pow_mono pos) in
        (found_level, smallest_of_part f g big two_g c.left (found-smallest big))

level_of_irreducible : (f n : ℕ) → Degree f n → 1 ≤ n → Irreducible f → Level n f
level_of_irreducible f n deg pos irr =
    let two : 2 ≤ f = omega (arith, deg.low, pow_mono pos) in
    record {
      two = two;
      from = pos;
      least = λ d m l dd v.
          let e : d ≡ f = divides-irreducible f d irr l v in
          let same : m ≡ n = degree_unique f m n (rw e at dd) deg in
          omega arith;
      returns = λ m dm.
          let same : m ≡ n = degree_unique f m n dm deg in
          rw same (all_return f n deg pos irr (rem f n 2) (rem_lt f n deg 2));
    }

pub lowest_none : (f n k : ℕ) → Degree f n → 1 ≤ n → n / 2 ≤ k → NoneTo f n k → Level n f
lowest_none f n k deg pos l none =
    level_of_irreducible f n deg pos
    (⊎_elim
    (λ (u : n < 2).
    let e : n ≡ 1 = omega arith in
    none-irreducible f n deg (λ d v. let h : d < 2 ^ 1 = rw e at v.below in omega (arith, v.two)))
    (λ (u : 2 ≤ n). (undivided-irreducible f n deg).0 (divided-none f n deg u k l none))
    (order n 2))
