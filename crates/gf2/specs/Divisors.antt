-- Laws of divisors: what d divides, it divides the sums and multiples of; d divides a exactly if the remainder is 0; the
-- degrees of two factors; no polynomial but 1 divides 1; a divisor of a polynomial other than 0 is neither 0 nor larger.
-- Assumes nothing.
use Rattle.std.specs.Prelude.{◌≡◌, ℕ, ◌+◌, ◌^◌, ◌<◌, ◌≤◌, true, ◌⊎◌, ◌↔◌}
use Rattle.std.proofs.Common.{sym, ap, ap₂, ◌∙◌, inl, inr, ⊎_elim, arith, pow_mono, eq-eqb, eqb-true}
use Rattle.gf2.specs.Poly.{◌⊕◌, product, degree, rem, Degree, Divides, divides}
use Rattle.gf2.specs.Numbers.{order, zero-one-more}
use Rattle.gf2.specs.Sum.{⊕-zero}
use Rattle.gf2.specs.Product.{product-zero_l, product-zero_r, product-one_l, product-⊕_l, product_assoc, product_comm}
use Rattle.gf2.specs.Remainder.{rem-small, rem-quotient, rem_multiple}
use Rattle.gf2.specs.Degrees.{degree_is, degree_unique, degree-pos, degree-product}

-- ---- sums and multiples

pub divides_self : (a : ℕ) → Divides a a
divides_self a = (1, product-one_l a)

pub divides-zero : (a : ℕ) → Divides a 0
divides-zero a = (0, product-zero_l a)

pub divides-⊕ : (d a b : ℕ) → Divides d a → Divides d b → Divides d (a ⊕ b)
divides-⊕ d a b u v = (u.0 ⊕ v.0, product-⊕_l u.0 v.0 d ∙ ap₂ ◌⊕◌ u.1 v.1)

pub divides-product : (d a b : ℕ) → Divides d a → Divides d (product b a)
divides-product d a b u = (product b u.0, product_assoc b u.0 d ∙ ap (product b) u.1)

pub divides_trans : (d a b : ℕ) → Divides d a → Divides a b → Divides d b
divides_trans d a b u v = (product v.0 u.0, product_assoc v.0 u.0 d ∙ ap (product v.0) u.1 ∙ v.1)

-- ---- the remainder is 0

pub divides-rem : (d m a : ℕ) → Degree d m → Divides d a → rem d m a ≡ 0
divides-rem d m a deg u = ap (rem d m) (sym u.1) ∙ rem_multiple d m deg u.0

pub rem-divides : (d m a : ℕ) → rem d m a ≡ 0 → Divides d a
rem-divides d m a e =
    let q = rem-quotient d m a in
    (q.0, sym (q.1 ∙ ap (λ (x : ℕ). product q.0 d ⊕ x) e ∙ ⊕-zero _))

-- what the test says
pub divides-means : (d a : ℕ) → 0 < d → (divides d a ≡ true) ↔ Divides d a
unfolding divides
divides-means d a h = (
  λ e. rem-divides d (degree d) a (eqb-true (rem d (degree d) a) 0 e),
  λ v. eq-eqb (rem d (degree d) a) 0 (divides-rem d (degree d) a (degree_is d h) v),
)

-- ---- the degrees of two factors, neither of which is 1

pub record Factors (a b n : ℕ) : Type 0 where
  pub i : ℕ
  pub j : ℕ
  pub deg-a : Degree a i
  pub deg-b : Degree b j
  pub i-pos : 1 ≤ i
  pub j_pos : 1 ≤ j
  pub total : i + j ≡ n

pub factors : (a b f n : ℕ) → Degree f n → product a b ≡ f → 2 ≤ a → 2 ≤ b → Factors a b n
factors a b f n deg e la lb =
    let da : Degree a (degree a) = degree_is a (omega arith) in
    let db : Degree b (degree b) = degree_is b (omega arith) in
    record {
      i = degree a;
      j = degree b;
      deg-a = da;
      deg-b = db;
      i-pos = degree-pos a (degree a) la da;
      j_pos = degree-pos b (degree b) lb db;
      total = degree_unique f (degree a + degree b) n (rw e at (degree-product a b (degree a) (degree b) da db)) deg;
    }

-- a proper factor is below the power of x of the degree
pub factor_lt : (a b f n : ℕ) → Degree f n → product a b ≡ f → 2 ≤ a → 2 ≤ b → a < 2 ^ n
factor_lt a b f n deg e la lb =
    let s = factors a b f n deg e la lb in
    let t : s.i + 1 ≤ n = omega (arith, s.j_pos, s.total) in
    omega (arith, s.deg-a.high, pow_mono t)

pub divides-one : (h : ℕ) → 2 ≤ h → Divides h 1 → ⊥
divides-one h l v =
    let d : Degree h (degree h) = degree_is h (omega arith) in
    let m : 1 ≤ degree h = degree-pos h (degree h) l d in
    let z : ◌≡◌ {A = ℕ} 1 0 = sym (rem-small h (degree h) 1 (omega (arith, pow_mono m))) ∙ divides-rem h (degree h) 1 d v in
    omega arith

-- ---- a divisor of a polynomial other than 0

pub divides-pos : (d a : ℕ) → 0 < a → Divides d a → 0 < d
divides-pos d a h v =
    ⊎_elim
    (λ (l : d < 1).
    let u : d ≡ 0 = omega arith in
    let z : 0 ≡ a = sym (product-zero_r v.0) ∙ ap (product v.0) (sym u) ∙ v.1 in
    absurd (omega arith))
    (λ (l : 1 ≤ d). l)
    (order d 1)

pub divides-le : (d a : ℕ) → 0 < a → Divides d a → d ≤ a
divides-le d a h v = cases (zero-one-more d) (zero-one-more q)
  where
    q : ℕ
    q = v.0

    deg : Degree a (degree a)
    deg = degree_is a h

    cases : (d ≡ 0) ⊎ ((d ≡ 1) ⊎ (2 ≤ d)) → (q ≡ 0) ⊎ ((q ≡ 1) ⊎ (2 ≤ q)) → d ≤ a
    cases (inl u) w = omega arith
    cases (inr (inl u)) w = omega arith
    cases (inr (inr u)) (inl w) =
        let z : 0 ≡ a = sym (product-zero_l d) ∙ ap (λ (x : ℕ). product x d) (sym w) ∙ v.1 in
        absurd (omega arith)
    cases (inr (inr u)) (inr (inl w)) =
        let z : d ≡ a = sym (product-one_l d) ∙ ap (λ (x : ℕ). product x d) (sym w) ∙ v.1 in
        omega arith
    cases (inr (inr u)) (inr (inr w)) = omega (arith, deg.low, factor_lt d q a (degree a) deg (product_comm d q ∙ v.1) u w)
