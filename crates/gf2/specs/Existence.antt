-- What the tests of `Bounded` say: that some number below a bound passes, that none does, and which is the smallest.
--
--   some-means, none-means    some number passes, or none does
--   first_is, first_unique    the smallest that passes, or none; and there is one smallest only
--
-- Assumes nothing.
use Rattle.std.specs.Prelude.{◌≡◌, ℕ, zero, suc, ◌<◌, ◌≤◌, Bool, true, false, ◌⊎◌, ◌↔◌, ◌≢◌, refl}
use Rattle.std.proofs.Common.{inl, inr, ⊎_elim, not-suc-le-zero, le_refl, arith, lt-ltb, le-ltb}
use Rattle.gf2.specs.Numbers.{order}
use Rattle.gf2.specs.Truth.{or_cases, or_right, bool_cases, not_both, not_true_false}
use Rattle.gf2.specs.Bounded.{some, first, Found}

-- ---- some number

some-found : (k : ℕ) (t : ℕ → Bool) → some k t ≡ true → (d : ℕ) × (d < k) × (t d ≡ true)
unfolding some
some-found zero t e = absurd (not_both false e refl)
some-found (suc k) t e =
    ⊎_elim
    (λ (h : t k ≡ true). (k, le_refl (suc k), h))
    (λ (h : some k t ≡ true). let i = some-found k t h in (i.0, omega (arith, i.1), i.2))
    (or_cases (t k) (some k t) e)

some_at : (k : ℕ) (t : ℕ → Bool) (d : ℕ) → d < k → t d ≡ true → some k t ≡ true
unfolding some
some_at zero t d h e = absurd (not-suc-le-zero h)
some_at (suc k) t d h e =
    ⊎_elim
    (λ (l : d < k). or_right (t k) (some k t) (some_at k t d l e))
    (λ (l : k ≤ d). let s : k ≡ d = omega arith in rw (s, e))
    (order d k)

pub some-means : (k : ℕ) (t : ℕ → Bool) → (some k t ≡ true) ↔ ((d : ℕ) × (d < k) × (t d ≡ true))
some-means k t = (some-found k t, λ s. some_at k t s.0 s.1 s.2)

pub none-means : (k : ℕ) (t : ℕ → Bool) → (some k t ≡ false) ↔ ((d : ℕ) → d < k → t d ≢ true)
none-means k t = (
  λ e d h p. not_both (some k t) (some_at k t d h p) e,
  λ none. not_true_false (some k t) (λ e. let s = some-found k t e in none s.0 s.1 s.2),
)

-- ---- the smallest

pub first_is : (k : ℕ) (t : ℕ → Bool) → Found k t (first k t) ⊎ ((first k t ≡ k) × ((d : ℕ) → d < k → t d ≢ true))
unfolding first
first_is zero t = inr (refl, λ d h e. not-suc-le-zero h)
first_is (suc k) t = go (first_is k t) (bool_cases (t k))
  where
    go : Found k t (first k t) ⊎ ((first k t ≡ k) × ((d : ℕ) → d < k → t d ≢ true)) → (t k ≡ true) ⊎ (t k ≡ false)
        → Found (suc k) t (first (suc k) t) ⊎ ((first (suc k) t ≡ suc k) × ((d : ℕ) → d < suc k → t d ≢ true))
    go (inl s) b =
        inl (rw (lt-ltb (first k t) k s.below) (record { below = omega (arith, s.below); passes = s.passes; least = s.least }))
    go (inr s) (inl e) =
        inl (rw (le-ltb (first k t) k (omega (arith, s.0)), e) (record { below = le_refl (suc k); passes = e; least = s.1 }))
    go (inr s) (inr e) =
        inr (
          rw (le-ltb (first k t) k (omega (arith, s.0)), e),
          λ d h p. ⊎_elim (λ (u : d < k). s.1 d u p) (λ (u : k ≤ d). let q : d ≡ k = omega arith in not_both (t k) (rw q at p) e) (order d k),
        )

pub first_unique : (k : ℕ) (t : ℕ → Bool) (p : ℕ) → Found k t p → first k t ≡ p
first_unique k t p s = go (first_is k t)
  where
    go : Found k t (first k t) ⊎ ((first k t ≡ k) × ((d : ℕ) → d < k → t d ≢ true)) → first k t ≡ p
    go (inl u) =
        ⊎_elim
        (λ (l : first k t < p). absurd (s.least (first k t) l u.passes))
        (λ (l : p ≤ first k t).
        ⊎_elim (λ (m : p < first k t). absurd (u.least p m s.passes)) (λ (m : first k t ≤ p). omega arith) (order p (first k t)))
        (order (first k t) p)
    go (inr u) = absurd (u.1 p s.below s.passes)
