-- Normal coordinates. In order: lists and rows by their entries; what `normal` and `dependency` say. Then, where the conjugates are
-- independent: coordinates are unique, exist for every element, and are rotated by squaring; the inverse rows convert to them, the
-- conjugates back, and each conversion undoes the other.
-- What of this a wrong definition breaks, and what rests on that, stands in `proofs/Coordinates.antt`.
-- Assumes nothing.
use Rattle.std.specs.Prelude.{◌≡◌, refl, Bool, ◌&&◌, List, ◌∷◌, ℕ, zero, suc, ◌^◌, ◌≤◌, ◌<◌, ltb, length, get_or}
use Rattle.std.proofs.Common.{ap, ap₂, ⊎_elim, not-suc-le-zero, le_of_suc-le-suc, arith, pow_pos}
use Rattle.std.proofs.Math.Dec.{eqb}
use Rattle.std.proofs.Math.ListN.{get_or-eq_default}
use borrow.Author.Tests.{eq-eqb, eqb-true, lt-ltb, ltb-true}
use Rattle.gf2.specs.Poly.{mul_mod}
use Rattle.gf2.specs.Numbers.{order}
use Rattle.gf2.specs.Existence.{first_unique}
use Rattle.field.specs.Field.{squared}
use Rattle.rows.specs.Rows.{comb, Matrix, Dependency}
use Rattle.gf2.specs.Truth.{and_both, and_parts}
use Rattle.normal.specs.Normal.{conjugates, dependency, coordinates, listed, inverse_rows, table_rows}

-- ---- lists by their entries

pub listed_at : (k : ℕ) (g : ℕ → ℕ) (i : ℕ) → i < k → get_or (listed k g) i 0 ≡ g i
unfolding listed
listed_at zero g i h = absurd (not-suc-le-zero h)
listed_at (suc k) g zero h = refl
listed_at (suc k) g (suc i) h = listed_at k (λ j. g (suc j)) i (le_of_suc-le-suc h)

pub listed-length : (k : ℕ) (g : ℕ → ℕ) → length (listed k g) ≡ k
unfolding listed
listed-length zero g = refl
listed-length (suc k) g = ap suc (listed-length k (λ j. g (suc j)))

pub listed_ext : (k : ℕ) (g h : ℕ → ℕ) → ((i : ℕ) → i < k → g i ≡ h i) → listed k g ≡ listed k h
unfolding listed
listed_ext zero g h e = refl
listed_ext (suc k) g h e =
    ap₂ {C = List ℕ} (λ (x : ℕ) (l : List ℕ). x ∷ l) (e 0 (omega arith)) (listed_ext k (λ i. g (suc i)) (λ i. h (suc i)) (λ i l. e (suc i) (omega arith)))

-- a list of n rows below 2 ^ n is a matrix of degree n
pub rows_matrix : (rows : List ℕ) (n : ℕ) → length rows ≡ n → ((i : ℕ) → i < n → get_or rows i 0 < 2 ^ n) → Matrix rows n
rows_matrix rows n e h =
    let rest : (i : ℕ) → n ≤ i → get_or rows i 0 ≡ 0 = λ i l. get_or-eq_default rows 0 (rw e l) in
    record {
      row_lt = λ i. ⊎_elim (λ (l : i < n). h i l) (λ (l : n ≤ i). rw (rest i l) (pow_pos n)) (order i n);
      rest = rest;
    }

-- ---- what the definitions say

pub dependency_is : (f n a v : ℕ) → Dependency (conjugates f n a) n v → dependency f n a ≡ v
unfolding dependency
dependency_is f n a v d =
    let t : ℕ → Bool = λ w. ltb 0 w && eqb (comb (conjugates f n a) w) 0 in
    first_unique (2 ^ n) t v
    (record {
      below = d.below;
      passes = and_both (ltb 0 v) (eqb (comb (conjugates f n a) v) 0) (lt-ltb 0 v d.positive) (eq-eqb (comb (conjugates f n a) v) 0 d.vanishes);
      least = λ w l e.
          let b = and_parts (ltb 0 w) (eqb (comb (conjugates f n a) w) 0) e in
          d.smallest w (ltb-true 0 w b.0) l (eqb-true (comb (conjugates f n a) w) 0 b.1);
    })

-- ---- the rows of a sheet

module _ (f n a : ℕ) where
  pub inverse_rows-at : (i : ℕ) → i < n → get_or (inverse_rows f n a) i 0 ≡ coordinates f n a (2 ^ i)
  unfolding inverse_rows
  inverse_rows-at = listed_at n (λ i. coordinates f n a (2 ^ i))

  pub inverse_rows-length : length (inverse_rows f n a) ≡ n
  unfolding inverse_rows
  inverse_rows-length = listed-length n (λ i. coordinates f n a (2 ^ i))

  pub table_rows-at : (i : ℕ) → i < n → get_or (table_rows f n a) i 0 ≡ coordinates f n a (mul_mod f n a (squared f n i a))
  unfolding table_rows
  table_rows-at = listed_at n (λ i. coordinates f n a (mul_mod f n a (squared f n i a)))

  pub table_rows-length : length (table_rows f n a) ≡ n
  unfolding table_rows
  table_rows-length = listed-length n (λ i. coordinates f n a (mul_mod f n a (squared f n i a)))
