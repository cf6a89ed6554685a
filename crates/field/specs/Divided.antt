-- What refusal 2 says: `divided f n` holds exactly if some polynomial of a degree from 1 to n - 1 divides f, and fails exactly
-- if f is irreducible. The smallest such divisor is irreducible, and its degree is at most half of n.
-- Assumes nothing.
use Rattle.std.specs.Prelude.{◌≡◌, ◌⊎◌, ◌↔◌, Bool, true, false, ◌&&◌, ℕ, ◌+◌, ◌*◌, ◌^◌, ◌≤◌, ◌<◌, leb}
use Rattle.std.proofs.Common.{sym, ap, ◌∙◌, inl, inr, ⊎_elim, arith, pow_pos, pow_mono, leb-true, le-leb}
use Rattle.gf2.specs.Poly.{product, degree, Degree, Divides, divides}
use Rattle.gf2.specs.Numbers.{order, zero-one-more}
use Rattle.gf2.specs.Truth.{not_both, not_true_false, and_parts}
use Rattle.gf2.specs.Bounded.{first, Found}
use Rattle.gf2.specs.Existence.{some-means, first_is}
use Rattle.gf2.specs.Product.{product-zero_l, product-zero_r, product-one_l, product_comm}
use Rattle.gf2.specs.Degrees.{degree_is, degree_mono, degree_unique, degree-pos, degree-lt}
use Rattle.gf2.specs.Divisors.{divides_trans, divides-means, Factors, factors, factor_lt}
use Rattle.field.specs.Field.{Irreducible}
use Rattle.field.specs.Accepted.{divided}

-- d divides f, and is a number from 2 to 2 ^ n - 1
pub record Proper (f n d : ℕ) : Type 0 where
  pub two : 2 ≤ d
  pub below : d < 2 ^ n
  pub divides : Divides d f

pub proper_test : (f d : ℕ) → (leb 2 d && divides d f) ≡ true → (2 ≤ d) × Divides d f
proper_test f d e =
    let s = and_parts (leb 2 d) (divides d f) e in
    let two : 2 ≤ d = leb-true 2 d s.0 in
    (two, (divides-means d f (omega arith)).0 s.1)

pub divided-proper : (f n : ℕ) → (divided f n ≡ true) ↔ ((d : ℕ) × Proper f n d)
unfolding divided
divided-proper f n = (
  λ e.
      let s = (some-means (2 ^ n) (λ d. leb 2 d && divides d f)).0 e in
      let p = proper_test f s.0 s.2 in
      (s.0, record { two = p.0; below = s.1; divides = p.1 }),
  λ s.
      let d : ℕ = s.0 in
      (some-means (2 ^ n) (λ d. leb 2 d && divides d f)).1
      (d, s.1.below, rw (le-leb 2 d s.1.two) ((divides-means d f (omega (arith, s.1.two))).1 s.1.divides)),
)

-- d has a degree from 1 to n - 1, and divides f
pub record Divisor (f n d : ℕ) : Type 0 where
  pub m : ℕ
  pub is_degree : Degree d m
  pub from : 1 ≤ m
  pub to : m < n
  pub divides : Divides d f

-- "some polynomial of degree 1 to n-1 divides f", for every d
pub divided-means : (f n : ℕ) → (divided f n ≡ true) ↔ ((d : ℕ) × Divisor f n d)
divided-means f n = (
  λ e.
      let s = (divided-proper f n).0 e in
      let d : ℕ = s.0 in
      let g : Degree d (degree d) = degree_is d (omega (arith, s.1.two)) in
      (d, record { m = degree d; is_degree = g; from = degree-pos d (degree d) s.1.two g; to = degree-lt d (degree d) n g s.1.below; divides = s.1.divides }),
  λ s.
      let d : ℕ = s.0 in
      let g : Degree d s.1.m = s.1.is_degree in
      let u : s.1.m + 1 ≤ n = omega (arith, s.1.to) in
      (divided-proper f n).1
      (d, record { two = omega (arith, g.low, pow_mono s.1.from); below = omega (arith, g.high, pow_mono u); divides = s.1.divides }),
)

-- ---- undivided is irreducible

pub none-irreducible : (f n : ℕ) → Degree f n → ((d : ℕ) → Proper f n d → ⊥) → Irreducible f
none-irreducible f n deg none = record { only = λ a b e. cases a b e (zero-one-more a) (zero-one-more b) }
  where
    pos : 0 < f
    pos = omega (arith, pow_pos n, deg.low)

    cases : (a b : ℕ) → product a b ≡ f → (a ≡ 0) ⊎ ((a ≡ 1) ⊎ (2 ≤ a)) → (b ≡ 0) ⊎ ((b ≡ 1) ⊎ (2 ≤ b)) → (a ≡ 1) ⊎ (b ≡ 1)
    cases a b e (inl u) w = let z : 0 ≡ f = sym (product-zero_l b) ∙ rw (← u) e in absurd (omega (arith, pos))
    cases a b e (inr (inl u)) w = inl u
    cases a b e (inr (inr u)) (inl v) = let z : 0 ≡ f = sym (product-zero_r a) ∙ rw (← v) e in absurd (omega (arith, pos))
    cases a b e (inr (inr u)) (inr (inl v)) = inr v
    cases a b e (inr (inr u)) (inr (inr v)) =
        absurd (none a (record { two = u; below = factor_lt a b f n deg e u v; divides = (b, product_comm b a ∙ e) }))

pub irreducible-none : (f n : ℕ) → Degree f n → Irreducible f → (d : ℕ) → Proper f n d → ⊥
irreducible-none f n deg irr d s =
    ⊎_elim
    (λ (u : s.divides.0 ≡ 1).
    let z : d ≡ f = sym (product-one_l d) ∙ ap (λ (x : ℕ). product x d) (sym u) ∙ s.divides.1 in
    omega (arith, deg.low, s.below))
    (λ (u : d ≡ 1). omega (arith, s.two))
    (irr.only s.divides.0 d s.divides.1)

pub undivided-irreducible : (f n : ℕ) → Degree f n → (divided f n ≡ false) ↔ Irreducible f
undivided-irreducible f n deg = (
  λ e. none-irreducible f n deg (λ d s. not_both (divided f n) ((divided-proper f n).1 (d, s)) e),
  λ irr. not_true_false (divided f n) (λ e. let s = (divided-proper f n).0 e in irreducible-none f n deg irr s.0 s.1),
)

-- ---- the smallest divisor from 2

pub record Smallest (f n p : ℕ) : Type 0 where
  pub proper : Proper f n p
  pub least : (q : ℕ) → 2 ≤ q → q < p → Divides q f → ⊥

pub smallest-divisor : (f n : ℕ) → ((p : ℕ) × Smallest f n p) ⊎ ((d : ℕ) → Proper f n d → ⊥)
smallest-divisor f n =
    let t : ℕ → Bool = λ d. leb 2 d && divides d f in
    let passes : (q : ℕ) → 2 ≤ q → Divides q f → t q ≡ true =
    λ q l v. rw (le-leb 2 q l) ((divides-means q f (omega arith)).1 v) in
    ⊎_elim
    (λ (s : Found (2 ^ n) t (first (2 ^ n) t)).
    let p = proper_test f (first (2 ^ n) t) s.passes in
    inl (first (2 ^ n) t, record { proper = record { two = p.0; below = s.below; divides = p.1 }; least = λ q l h v. s.least q h (passes q l v) }))
    (λ (s : (first (2 ^ n) t ≡ 2 ^ n) × ((q : ℕ) → q < 2 ^ n → t q ≡ true → ⊥)). inr (λ d v. s.1 d v.below (passes d v.two v.divides)))
    (first_is (2 ^ n) t)

module _ (f n p m : ℕ) (deg : Degree f n) (dp : Degree p m) (s : Smallest f n p) where
  pub smallest-irreducible : Irreducible p
  smallest-irreducible =
      none-irreducible p m dp (λ d v. s.least d v.two (omega (arith, dp.low, v.below)) (divides_trans d p f v.divides s.proper.divides))

  -- the cofactor is no smaller
  pub smallest_half : (1 ≤ m) × (m * 2 ≤ n)
  smallest_half =
      let q : ℕ = s.proper.divides.0 in
      let w : product q p ≡ f = s.proper.divides.1 in
      let e : product p q ≡ f = product_comm p q ∙ w in
      let big : 2 ≤ q =
      ⊎_elim
      (λ (u : q ≡ 0). let z : 0 ≡ f = sym (product-zero_l p) ∙ ap (λ (x : ℕ). product x p) (sym u) ∙ w in absurd (omega (arith, pow_pos n, deg.low)))
      (⊎_elim
      (λ (u : q ≡ 1). let z : p ≡ f = sym (product-one_l p) ∙ ap (λ (x : ℕ). product x p) (sym u) ∙ w in absurd (omega (arith, s.proper.below, deg.low)))
      (λ (u : 2 ≤ q). u))
      (zero-one-more q) in
      let c : Factors p q n = factors p q f n deg e s.proper.two big in
      let same : c.i ≡ m = degree_unique p c.i m c.deg-a dp in
      let le : p ≤ q = ⊎_elim (λ (u : q < p). absurd (s.least q big u (p, e))) (λ (u : p ≤ q). u) (order q p) in
      let half : m ≤ c.j = degree_mono p q m c.j dp c.deg-b le in
      (degree-pos p m s.proper.two dp, omega (arith, c.total))
