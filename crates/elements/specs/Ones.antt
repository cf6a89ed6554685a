-- The ones in the table of a normal element y, counted row by row through a reference: row 0, then rows 1 to n/2, each with the row that mirrors it;
-- to the end, or until the count has passed a bound.
--
--   ones_to f n y k       the ones of row 0 of y's table and of rows 1 to k, with those of rows n - 1 to n - k
--   Within bound k c     k is c, or both are above the bound
--
-- Assumes nothing.
use Rattle.std.specs.Prelude.{◌≡◌, ℕ, ◌+◌, ◌-◌, ◌*◌, ◌/◌, ◌^◌, ◌<◌, ◌≤◌, min, cond, List, ◌==◌, count_ones, slice_index, slice_index_or, refl}
use Rattle.std.proofs.Math.Path.{sym, ap}
use Rattle.std.proofs.Common.{◌∙◌}
use Rattle.std.proofs.Math.Nat.{min-eq_left}
use native.Mathlib.Omega.{arith}
use Rattle.gf2.specs.Poly.{mul_mod}
use Rattle.field.specs.Field.{squared}
use Rattle.field.specs.Ring.{mul_mod-lt}
use Rattle.rows.specs.Rows.{Independent}
use Rattle.normal.specs.Normal.{conjugates, table_rows, complexity}
use Rattle.normal.proofs.Coordinates.{normal-means}
use Rattle.normal.specs.Halves.{halves_to, halves_to_turn}
use Rattle.normal.proofs.Halves.{complexity-halved, complexity-least}
use Rattle.elements.specs.Reference.{Reference, through}
use Rattle.elements.specs.Through.{through-normal, through-row}

unfoldable pub ones_to : (f n y k : ℕ) → ℕ
ones_to f n y k = 1 + halves_to (λ i. count_ones (slice_index (table_rows f n y) i)) n k

abbrev pub Within : (bound k c : ℕ) → Type 0
Within bound k c = min (bound + 1) k ≡ min (bound + 1) c

pub within_exact : (bound k c : ℕ) → k ≡ c → Within bound k c
within_exact bound k c e = ap (min (bound + 1)) e

pub ones_none : (f n y : ℕ) → 1 ≡ ones_to f n y 0
unfolding ones_to halves_to
ones_none f n y = refl

module _ (f n : ℕ) (sums : List ℕ) (ref : Reference f n sums) (y : ℕ) (hy : y < 2 ^ n) (r : ℕ) (unit : mul_mod (2 ^ n + 1) n r (through sums y) ≡ 1) where
  -- one more row: c is the conjugate c_(i+1)
  pub ones_turn : (i c row part count : ℕ) → i < n / 2 → c ≡ squared f n (i + 1) y
      → row ≡ mul_mod (2 ^ n + 1) n (through sums (mul_mod f n y c)) r
      → part ≡ cond (2 * (i + 1) == n) (count_ones row) (2 * count_ones row)
      → count ≡ ones_to f n y i → count + part ≡ ones_to f n y (i + 1)
  unfolding ones_to
  ones_turn i c row part count h ec er ep e =
      let g : ℕ → ℕ = λ j. count_ones (slice_index (table_rows f n y) j) in
      let same : row ≡ slice_index_or (table_rows f n y) (i + 1) 0 =
      er
      ∙ sym (through-row f n sums ref y hy r unit (i + 1) (mul_mod f n y c) (omega (arith, ref.of_field.two))
      (mul_mod-lt f n ref.of_field.is_degree y c) (ap (mul_mod f n y) ec)) in
      let s : i + 1 - 1 ≡ i = omega arith in
      let turn : halves_to g n (i + 1) ≡ halves_to g n i + cond (2 * (i + 1) == n) (g (i + 1)) (2 * g (i + 1)) =
      halves_to_turn g n (i + 1) (omega arith) ∙ ap (λ (k : ℕ). halves_to g n k + cond (2 * (i + 1) == n) (g (i + 1)) (2 * g (i + 1))) s in
      let p : part ≡ cond (2 * (i + 1) == n) (g (i + 1)) (2 * g (i + 1)) =
      ep ∙ ap (λ (x : ℕ). cond (2 * (i + 1) == n) (count_ones x) (2 * count_ones x)) same in
      omega (arith, turn, p, e)

  y_free : Independent (conjugates f n y) n
  y_free = (normal-means f n y).0 (through-normal f n sums ref y hy r unit)

  -- all rows are counted
  pub ones-whole : (i bound count : ℕ) → i ≤ n / 2 → n / 2 ≤ i → count ≡ ones_to f n y i → Within bound count (complexity (table_rows f n y))
  unfolding ones_to
  ones-whole i bound count p q e =
      let s : i ≡ n / 2 = omega arith in
      within_exact bound count (complexity (table_rows f n y))
      (e ∙ ap (ones_to f n y) s
      ∙ sym (complexity-halved f n ref.of_field.is_degree ref.of_field.two ref.of_field.returns y hy y_free))

  -- the count is broken off
  pub ones_bounded : (i bound count : ℕ) → i ≤ n / 2 → count ≡ ones_to f n y i → bound < count → Within bound count (complexity (table_rows f n y))
  unfolding ones_to
  ones_bounded i bound count h e l =
      let least : ones_to f n y i ≤ complexity (table_rows f n y) =
      complexity-least f n ref.of_field.is_degree ref.of_field.two ref.of_field.returns y hy y_free i h in
      min-eq_left (omega (arith, l)) ∙ sym (min-eq_left (omega (arith, e, least, l)))
