-- The laws of `specs/Inverses.antt` that a wrong definition breaks, and what rests on them. The head there tells of both files.
-- Assumes nothing.
use Rattle.std.specs.Prelude.{◌≡◌, refl, ◌↔◌, true, false, List, ℕ, ◌^◌, ◌≤◌, ◌<◌, length, get_or, Result, Ok, Err, is_ok}
use Rattle.std.proofs.Common.{sym, ap, ◌∙◌, ⊎_elim, arith, ext_get_or}
use Rattle.gf2.specs.Numbers.{order}
use Rattle.gf2.specs.Truth.{not_both}
use Rattle.rows.specs.Rows.{comb, Independent, Inverse, Dependency, Inverts}
use Rattle.rows.specs.Sums.{comb-zero, comb-power}
use Rattle.rows.specs.Inverses.{dependency_dependent, undoes}

-- ---- the inverse undoes the sums

module _ (rows : List ℕ) (n : ℕ) (inv : List ℕ) (inverse : Inverse rows n inv) where
  pub inverse-right : (v : ℕ) → v < 2 ^ n → comb rows (comb inv v) ≡ v
  inverse-right = undoes rows inv n inverse.right

  pub inverse_left : (v : ℕ) → v < 2 ^ n → comb inv (comb rows v) ≡ v
  inverse_left = undoes inv rows n inverse.left

  pub inverse-independent : Independent rows n
  inverse-independent v p h e = let z : v ≡ 0 = sym (inverse_left v h) ∙ ap (comb inv) e ∙ comb-zero inv in omega arith

  pub inverse_unique_at : (other : List ℕ) → Inverse rows n other → (i : ℕ) → get_or inv i 0 ≡ get_or other i 0
  inverse_unique_at other o i =
      ⊎_elim
      (λ (l : i < n). sym (comb-power inv i) ∙ ap (comb inv) (sym (o.right i l)) ∙ inverse_left (get_or other i 0) (o.shape.row_lt i))
      (λ (l : n ≤ i). inverse.shape.rest i l ∙ sym (o.shape.rest i l))
      (order i n)

  pub inverse_unique : (other : List ℕ) → Inverse rows n other → length inv ≡ length other → inv ≡ other
  inverse_unique other o e = ext_get_or 0 inv other e (λ i l. inverse_unique_at other o i)

-- ---- dependencies

pub dependency-least : (rows : List ℕ) (n v : ℕ) → Dependency rows n v → (w : ℕ) → 0 < w → comb rows w ≡ 0 → v ≤ w
dependency-least rows n v d w p e = ⊎_elim (λ (l : w < v). absurd (d.smallest w p l e)) (λ (l : v ≤ w). l) (order w v)

pub dependency_unique : (rows : List ℕ) (n v w : ℕ) → Dependency rows n v → Dependency rows n w → v ≡ w
dependency_unique rows n v w d e =
    omega (arith, dependency-least rows n v d w e.positive e.vanishes, dependency-least rows n w e v d.positive d.vanishes)

pub inverse_no_dependency : (rows : List ℕ) (n : ℕ) (inv : List ℕ) (v : ℕ) → Inverse rows n inv → Dependency rows n v → ⊥
inverse_no_dependency rows n inv v i d = dependency_dependent rows n v d (inverse-independent rows n inv i)

-- ---- the answer of inversion

-- any two answers that the promise of inversion permits are equal
pub inverted_unique : (rows : List ℕ) (n : ℕ) (r s : Result (List ℕ) ℕ) → Inverts rows n r → Inverts rows n s → r ≡ s
inverted_unique rows n (Ok inv) (Ok other) a b = ap Ok (inverse_unique rows n inv a.0 other b.0 (a.1 ∙ sym b.1))
inverted_unique rows n (Ok inv) (Err w) a b = absurd (inverse_no_dependency rows n inv w a.0 b)
inverted_unique rows n (Err v) (Ok other) a b = absurd (inverse_no_dependency rows n other v b.0 a)
inverted_unique rows n (Err v) (Err w) a b = ap Err (dependency_unique rows n v w a b)

-- it gives the inverse rows exactly where the rows are independent
pub inverted-independent : (rows : List ℕ) (n : ℕ) (r : Result (List ℕ) ℕ) → Inverts rows n r → (is_ok r ≡ true) ↔ Independent rows n
inverted-independent rows n (Ok inv) a = (λ e. inverse-independent rows n inv a.0, λ free. refl)
inverted-independent rows n (Err v) a = (
  λ e. absurd (not_both false e refl),
  λ free. absurd (dependency_dependent rows n v a free),
)
