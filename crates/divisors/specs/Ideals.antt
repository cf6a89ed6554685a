-- Euclid's steps keep more than the common divisors: a property that sums and multiples of polynomials keep (an ideal), and that two
-- polynomials have, is one of their greatest common divisor too.
--
--   ideal_common          that
--   coprime_divides       g divides a product t u and has no divisor in common with t but 1: it divides u
--   divides-irreducible   the divisors of an irreducible are 1 and itself
--   divides_factor        an irreducible that divides a product divides a factor
--   inverse_modulo        what an irreducible q does not divide has an inverse modulo q
--
-- Assumes nothing.
use Rattle.std.specs.Prelude.{◌≡◌, ◌⊎◌, ℕ, zero, suc, ◌≤◌, ◌<◌}
use Rattle.std.proofs.Common.{sym, ap, ◌∙◌, le_refl, arith}
use Rattle.std.proofs.Math.Logic.{inl, inr, ⊎_elim}
use Rattle.gf2.specs.Poly.{◌⊕◌, product, degree, rem, mul_mod, Degree, Divides}
use Rattle.gf2.specs.Numbers.{order}
use Rattle.gf2.specs.Sum.{⊕_cancel}
use Rattle.gf2.specs.Product.{product-zero_l, product-one_l, product-⊕_l, product_assoc, product_comm}
use Rattle.gf2.specs.Degrees.{degree_is}
use Rattle.gf2.specs.Remainder.{rem-zero, rem_lt, rem-⊕, rem_self, rem-product_l, rem-product_r, rem-quotient}
use Rattle.gf2.specs.Divisors.{divides-⊕, divides-product, divides-rem, rem-divides}
use Rattle.gf2.specs.Euclid.{GreatestCommon, SameDivisors, same_refl, same_step, same-done, greatest_unique}
use Rattle.field.specs.Field.{Irreducible}
use Rattle.field.specs.Division.{no_zero_divisors}

module _ (In : ℕ → Type 0) (sums : (a b : ℕ) → In a → In b → In (a ⊕ b)) (multiples : (c a : ℕ) → In a → In (product c a)) where
  -- by induction on v, which each step makes smaller
  descend : (k a b u v : ℕ) → v ≤ k → SameDivisors a b u v → In u → In v → (h : ℕ) × GreatestCommon a b h × In h
  descend zero a b u v l s p q = (u, same-done a b u v (omega arith) s, p)
  descend (suc k) a b u v l s p q =
      ⊎_elim
      (λ (z : v < 1). (u, same-done a b u v (omega arith) s, p))
      (λ (z : 1 ≤ v).
      let m : ℕ = degree v in
      let deg : Degree v m = degree_is v z in
      let c = rem-quotient v m u in
      let w : ℕ = product c.0 v in
      let e : w ⊕ u ≡ rem v m u = ap (λ (x : ℕ). w ⊕ x) c.1 ∙ ⊕_cancel w (rem v m u) in
      descend k a b v (rem v m u) (omega (arith, rem_lt v m deg u, deg.low)) (same_step a b u v m s) q
      (rw e at (sums w u (multiples c.0 v q) p)))
      (order v 1)

  pub ideal_common : (a b : ℕ) → In a → In b → (h : ℕ) × GreatestCommon a b h × In h
  ideal_common a b p q = descend b a b a b (le_refl b) (same_refl a b) p q

-- ---- no common divisor

-- the ideal: all a for which g divides a times u
pub coprime_divides : (g t u : ℕ) → 0 < g → GreatestCommon g t 1 → Divides g (product t u) → Divides g u
coprime_divides g t u pos s v =
    let i = ideal_common (λ a. Divides g (product a u))
    (λ a b p q. rw product-⊕_l (divides-⊕ g (product a u) (product b u) p q))
    (λ c a p. rw product_assoc (divides-product g (product a u) c p))
    g t (u, product_comm u g) v in
    let e : i.0 ≡ 1 = greatest_unique g t i.0 1 pos i.1 s in
    rw (e, product-one_l) at i.2

-- ---- irreducible polynomials

one-or-whole : (p d : ℕ) → Irreducible p → Divides d p → (d ≡ 1) ⊎ (d ≡ p)
one-or-whole p d irr v =
    ⊎_elim
    (λ (e : v.0 ≡ 1). inr (sym (product-one_l d) ∙ ap (λ (x : ℕ). product x d) (sym e) ∙ v.1))
    (λ (e : d ≡ 1). inl e)
    (irr.only v.0 d v.1)

pub divides-irreducible : (p d : ℕ) → Irreducible p → 2 ≤ d → Divides d p → d ≡ p
divides-irreducible p d irr two v =
    ⊎_elim (λ (e : d ≡ 1). absurd (omega arith)) (λ (e : d ≡ p). e) (one-or-whole p d irr v)

module _ (q m : ℕ) (deg : Degree q m) (irr : Irreducible q) where
  pub divides_factor : (a b : ℕ) → Divides q (product a b) → Divides q a ⊎ Divides q b
  unfolding mul_mod
  divides_factor a b v =
      let z : mul_mod q m (rem q m a) (rem q m b) ≡ 0 =
      rem-product_l q m deg a (rem q m b) ∙ rem-product_r q m deg a b ∙ divides-rem q m (product a b) deg v in
      ⊎_elim
      (λ (e : rem q m a ≡ 0). inl (rem-divides q m a e))
      (λ (e : rem q m b ≡ 0). inr (rem-divides q m b e))
      (no_zero_divisors q m deg irr (rem q m b) (rem_lt q m deg b) (rem q m a) (rem_lt q m deg a) z)

  common-one : (p h : ℕ) → GreatestCommon q p h → (Divides q p → ⊥) → h ≡ 1
  common-one p h s off =
      ⊎_elim (λ (e : h ≡ 1). e) (λ (e : h ≡ q). absurd (off (rw e at s.right))) (one-or-whole q h irr s.left)

  -- the ideal: all a that are multiples of p modulo q
  pub inverse_modulo : (p : ℕ) → (Divides q p → ⊥) → (u : ℕ) × (rem q m (product u p) ≡ rem q m 1)
  inverse_modulo p off =
      let i = ideal_common (λ a. (u : ℕ) × (rem q m (product u p) ≡ rem q m a))
      (λ a b x y. (x.0 ⊕ y.0, rw (product-⊕_l, rem-⊕ q m deg (product x.0 p), x.1, y.1) (sym (rem-⊕ q m deg a b))))
      (λ c a x. (product c x.0, rw (product_assoc, ← rem-product_r q m deg c (product x.0 p), x.1) (rem-product_r q m deg c a)))
      q p (0, rw (product-zero_l, rem_self q m deg) (rem-zero q m)) (1, rw product-one_l) in
      rw (common-one p i.0 i.1 off) at i.2
