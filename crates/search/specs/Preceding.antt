-- The order in which found records are named: "least complexity, then smallest element". What its test says, by one comparison too; it is
-- transitive both ways, and nothing comes before itself.
--
--   Precedes c e d g   what `precedes` tests
--
-- Assumes nothing.
use Rattle.std.specs.Prelude.{◌≡◌, ◌⊎◌, ◌↔◌, true, false, ◌&&◌, ℕ, ◌≤◌, ◌<◌, ltb, eqb}
use Rattle.std.proofs.Common.{◌∙◌, inl, inr, ⊎_elim, arith, lt-ltb, le-ltb, eq-eqb, ne_eqb, ltb-true, eqb-true}
use Rattle.gf2.specs.Numbers.{order}
use Rattle.gf2.specs.Truth.{not_both, or_cases, or_right, not_true_false, and_both, and_parts}
use Rattle.search.specs.Search.{precedes}

-- fewer ones, or as many and the smaller element
abbrev pub Precedes : (c e d g : ℕ) → Type 0
Precedes c e d g = (c < d) ⊎ ((c ≡ d) × (e < g))

pub precedes-means : (c e d g : ℕ) → (precedes c e d g ≡ true) ↔ Precedes c e d g
unfolding precedes
precedes-means c e d g = (
  λ p. ⊎_elim
      (λ (h : ltb c d ≡ true). inl (ltb-true c d h))
      (λ (h : (eqb c d && ltb e g) ≡ true). let b = and_parts (eqb c d) (ltb e g) h in inr (eqb-true c d b.0, ltb-true e g b.1))
      (or_cases (ltb c d) (eqb c d && ltb e g) p),
  λ p. ⊎_elim
      (λ (h : c < d). rw (lt-ltb c d h))
      (λ (h : (c ≡ d) × (e < g)). or_right (ltb c d) (eqb c d && ltb e g) (and_both (eqb c d) (ltb e g) (eq-eqb c d h.0) (lt-ltb e g h.1)))
      p,
)

-- by one comparison, as a tie or none
pub precedes_tie : (c e d g : ℕ) → c ≡ d → precedes c e d g ≡ ltb e g
unfolding precedes
precedes_tie c e d g p = rw (le-ltb c d (omega arith), eq-eqb c d p)

pub precedes-apart : (c e d g : ℕ) → (c ≡ d → ⊥) → precedes c e d g ≡ ltb c d
unfolding precedes
precedes-apart c e d g p =
    ⊎_elim (λ (h : c < d). rw (lt-ltb c d h)) (λ (h : d ≤ c). rw (le-ltb c d h, ne_eqb c d p)) (order c d)

-- not before: more ones, or as many and no smaller element
pub not_precedes : (c e d g : ℕ) → precedes c e d g ≡ false → (d < c) ⊎ ((d ≡ c) × (g ≤ e))
not_precedes c e d g p = go (order d c) (order c d) (order e g)
  where
    go : (d < c) ⊎ (c ≤ d) → (c < d) ⊎ (d ≤ c) → (e < g) ⊎ (g ≤ e) → (d < c) ⊎ ((d ≡ c) × (g ≤ e))
    go (inl h) v w = inl h
    go (inr h) (inl l) w = absurd (not_both (precedes c e d g) ((precedes-means c e d g).1 (inl l)) p)
    go (inr h) (inr l) (inl m) = absurd (not_both (precedes c e d g) ((precedes-means c e d g).1 (inr (omega arith, m))) p)
    go (inr h) (inr l) (inr m) = inr (omega arith, m)

pub precedes_trans : (c e d g b h : ℕ) → precedes c e d g ≡ true → precedes d g b h ≡ true → precedes c e b h ≡ true
precedes_trans c e d g b h p q =
    (precedes-means c e b h).1 (go ((precedes-means c e d g).0 p) ((precedes-means d g b h).0 q))
  where
    go : Precedes c e d g → Precedes d g b h → Precedes c e b h
    go (inl u) (inl v) = inl (omega arith)
    go (inl u) (inr v) = inl (omega (arith, v.0))
    go (inr u) (inl v) = inl (omega (arith, u.0))
    go (inr u) (inr v) = inr (u.0 ∙ v.0, omega (arith, u.1, v.1))

pub precedes_neither : (c e d g b h : ℕ) → precedes c e d g ≡ false → precedes d g b h ≡ false → precedes c e b h ≡ false
precedes_neither c e d g b h p q =
    not_true_false (precedes c e b h) (λ r. go (not_precedes c e d g p) (not_precedes d g b h q) ((precedes-means c e b h).0 r))
  where
    go : (d < c) ⊎ ((d ≡ c) × (g ≤ e)) → (b < d) ⊎ ((b ≡ d) × (h ≤ g)) → Precedes c e b h → ⊥
    go (inl u) (inl v) (inl w) = omega arith
    go (inl u) (inl v) (inr w) = omega (arith, w.0)
    go (inl u) (inr v) (inl w) = omega (arith, v.0)
    go (inl u) (inr v) (inr w) = omega (arith, v.0, w.0)
    go (inr u) (inl v) (inl w) = omega (arith, u.0)
    go (inr u) (inl v) (inr w) = omega (arith, u.0, w.0)
    go (inr u) (inr v) (inl w) = omega (arith, u.0, v.0)
    go (inr u) (inr v) (inr w) = omega (arith, u.1, v.1, w.1)

pub precedes_self : (c e : ℕ) → precedes c e c e ≡ false
precedes_self c e = not_true_false (precedes c e c e) (λ p. go ((precedes-means c e c e).0 p))
  where
    go : Precedes c e c e → ⊥
    go (inl h) = omega arith
    go (inr h) = omega (arith, h.1)
