-- The test behind refusal 2: f, of degree n, has a divisor of a degree from 1 to n - 1 exactly if, for some i from 1 to n / 2,
-- f and x ^ (2 ^ i) + x have a common divisor other than 1. The smallest divisor is one, at its own degree, by Fermat's theorem
-- in its field; and where f has none, squaring fewer than n times moves x.
-- Assumes nothing.
use Rattle.std.specs.Prelude.{◌≡◌, ◌↔◌, true, false}
use Rattle.std.proofs.Math.Path.{refl, sym, ap}
use Rattle.std.proofs.Common.{◌∙◌, ⊎_elim, arith, pow_pos}
use Prim.Native.Nat.{ℕ, zero, suc, ◌+◌, ◌*◌, ◌/◌, ◌^◌, ◌≤◌, ◌<◌}
use Rattle.gf2.specs.Poly.{◌⊕◌, product, degree, rem, mul_mod, Degree, Divides}
use Rattle.gf2.specs.Numbers.{order, zero-one-more}
use Rattle.gf2.specs.Truth.{bool_cases}
use Rattle.gf2.specs.Sum.{zero-⊕, ⊕_self, ⊕-lt, ⊕-eq-zero}
use Rattle.gf2.specs.Product.{product-one_l}
use Rattle.gf2.specs.Degrees.{degree_is}
use Rattle.gf2.specs.Remainder.{rem_lt, rem-small, rem-⊕, rem-product_l, rem-product_r, rem-quotient}
use Rattle.gf2.specs.Divisors.{divides-product, divides-rem, rem-divides, divides-one, divides-pos}
use Rattle.gf2.specs.Euclid.{GreatestCommon}
use Rattle.field.specs.Field.{squared, Irreducible}
use Rattle.field.specs.Accepted.{divided}
use Rattle.field.specs.Ring.{two-lt}
use Rattle.field.specs.Frobenius.{squared-lt, squared_fixes}
use Rattle.field.specs.ConjugateSums.{squared_moves}
use Rattle.field.specs.Fermat.{all_return}
use Rattle.field.specs.Divided.{Proper, divided-proper, undivided-irreducible, Smallest, smallest-divisor, smallest-irreducible, smallest_half}

-- h is other than 1 and divides both f and x ^ (2 ^ i) + x
pub record Common (f n i h : ℕ) : Type 0 where
  pub from : 1 ≤ i
  pub to : i * 2 ≤ n
  pub two : 2 ≤ h
  pub divides : Divides h f
  pub divides-x : Divides h (squared f n i 2 ⊕ 2)

-- ---- modulo f, and then modulo a divisor p of f

module _ (f n p m : ℕ) (deg : Degree p m) (v : Divides p f) where
  pub rem-through : (c : ℕ) → rem p m (rem f n c) ≡ rem p m c
  rem-through c =
      let q = rem-quotient f n c in
      sym (ap (rem p m) q.1 ∙ rem-⊕ p m deg (product q.0 f) (rem f n c)
      ∙ rw (divides-rem p m (product q.0 f) deg (divides-product p f q.0 v)) (zero-⊕ _))

  mul_mod-through : (a b : ℕ) → rem p m (mul_mod f n a b) ≡ mul_mod p m (rem p m a) (rem p m b)
  unfolding mul_mod
  mul_mod-through a b = rem-through (product a b) ∙ sym (rem-product_l p m deg a (rem p m b) ∙ rem-product_r p m deg a b)

  pub squared-through : (k a : ℕ) → rem p m (squared f n k a) ≡ squared p m k (rem p m a)
  unfolding squared
  squared-through zero a = refl
  squared-through (suc k) a = squared-through k (mul_mod f n a a) ∙ ap (squared p m k) (mul_mod-through a a)

-- ---- both ways

module _ (f n : ℕ) (deg : Degree f n) where
  smallest-common : (p : ℕ) → Smallest f n p → (i : ℕ) × (h : ℕ) × Common f n i h
  smallest-common p s =
      let m : ℕ = degree p in
      let dp : Degree p m = degree_is p (omega (arith, s.proper.two)) in
      let v : Divides p f = s.proper.divides in
      let half = smallest_half f n p m deg dp s in
      let a : ℕ = rem p m 2 in
      let back : squared p m m a ≡ a = all_return p m dp half.0 (smallest-irreducible f n p m deg dp s) a (rem_lt p m dp 2) in
      let z : rem p m (squared f n m 2 ⊕ 2) ≡ 0 =
      rem-⊕ p m dp (squared f n m 2) 2 ∙ rw (squared-through f n p m dp v m 2, back) (⊕_self a) in
      (m, p, record { from = half.0; to = half.1; two = s.proper.two; divides = v; divides-x = rem-divides p m (squared f n m 2 ⊕ 2) z })

  irreducible_no_common : 2 ≤ n → Irreducible f → (i h : ℕ) → Common f n i h → ⊥
  irreducible_no_common big irr i h c =
      ⊎_elim
      (λ (u : c.divides.0 ≡ 1).
      let e : h ≡ f = sym (product-one_l h) ∙ ap (λ (x : ℕ). product x h) (sym u) ∙ c.divides.1 in
      let v : Divides f (squared f n i 2 ⊕ 2) = rw e at c.divides-x in
      let two : 2 < 2 ^ n = two-lt n big in
      let small : squared f n i 2 ⊕ 2 < 2 ^ n = ⊕-lt n (squared f n i 2) 2 (squared-lt f n deg i 2 two) two in
      let z : squared f n i 2 ⊕ 2 ≡ 0 = sym (rem-small f n (squared f n i 2 ⊕ 2) small) ∙ divides-rem f n (squared f n i 2 ⊕ 2) deg v in
      squared_moves f n deg (omega arith) irr i c.from (omega (arith, c.from, c.to)) (squared_fixes f n deg big i (⊕-eq-zero (squared f n i 2) 2 z)))
      (λ (u : h ≡ 1). omega (arith, c.two))
      (irr.only c.divides.0 h c.divides.1)

  pub divided-common : 2 ≤ n → (divided f n ≡ true) ↔ ((i : ℕ) × (h : ℕ) × Common f n i h)
  divided-common big = (
    λ e.
        let d = (divided-proper f n).0 e in
        ⊎_elim
        (λ (s : (p : ℕ) × Smallest f n p). smallest-common s.0 s.1)
        (λ (none : (d : ℕ) → Proper f n d → ⊥). absurd (none d.0 d.1))
        (smallest-divisor f n),
    λ c.
        ⊎_elim
        (λ (e : divided f n ≡ true). e)
        (λ (e : divided f n ≡ false). absurd (irreducible_no_common big ((undivided-irreducible f n deg).0 e) c.0 c.1 c.2))
        (bool_cases (divided f n)),
  )

-- ---- the test by greatest common divisors, for i from 1 upward

-- no common divisor for any i up to k
abbrev pub NoneTo : (f n k : ℕ) → Type 0
NoneTo f n k = (i h : ℕ) → i ≤ k → Common f n i h → ⊥

module _ (f n : ℕ) (deg : Degree f n) where
  pub none-to-zero : NoneTo f n 0
  none-to-zero i h l c = omega (arith, c.from)

  module _ (i g : ℕ) (to : i * 2 ≤ n) (from : 1 ≤ i) (s : GreatestCommon f (squared f n i 2 ⊕ 2) g) where
    pub common-found : (g ≡ 1 → ⊥) → (h : ℕ) × Common f n i h
    common-found e =
        ⊎_elim
        (λ (u : g ≡ 0). absurd (omega (arith, divides-pos g f (omega (arith, deg.low, pow_pos n)) s.left)))
        (⊎_elim
        (λ (u : g ≡ 1). absurd (e u))
        (λ (u : 2 ≤ g). (g, record { from = from; to = to; two = u; divides = s.left; divides-x = s.right })))
        (zero-one-more g)

    pub common-none : g ≡ 1 → (h : ℕ) → Common f n i h → ⊥
    common-none e h c = divides-one h c.two (rw e at (s.greatest h c.divides c.divides-x))

  pub none-to-next : (k g : ℕ) → (k + 1) * 2 ≤ n → NoneTo f n k → GreatestCommon f (squared f n (k + 1) 2 ⊕ 2) g → g ≡ 1 → NoneTo f n (k + 1)
  none-to-next k g to none s e i h l c =
      ⊎_elim
      (λ (u : i < k + 1). none i h (omega arith) c)
      (λ (u : k + 1 ≤ i).
      let t : i ≡ k + 1 = omega arith in
      common-none (k + 1) g to (omega arith) s e h (rw t at c))
      (order i (k + 1))

  pub divided-found : 2 ≤ n → (i g : ℕ) → i * 2 ≤ n → 1 ≤ i → GreatestCommon f (squared f n i 2 ⊕ 2) g → (g ≡ 1 → ⊥) → divided f n ≡ true
  divided-found big i g to from s e =
      let c = common-found i g to from s e in
      (divided-common f n deg big).1 (i, c.0, c.1)

  pub divided-none : 2 ≤ n → (k : ℕ) → n / 2 ≤ k → NoneTo f n k → divided f n ≡ false
  divided-none big k l none =
      ⊎_elim
      (λ (e : divided f n ≡ true).
      let c = (divided-common f n deg big).0 e in
      absurd (none c.0 c.1 (omega (arith, c.2.to)) c.2))
      (λ (e : divided f n ≡ false). e)
      (bool_cases (divided f n))
