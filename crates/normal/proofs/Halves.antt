-- The laws of `specs/Halves.antt` that a wrong definition breaks, and what rests on them. The head there tells of both files.
-- Assumes nothing.
use Rattle.std.specs.Prelude.{◌≡◌, get_or}
use Rattle.std.proofs.Math.Path.{refl, ap}
use Rattle.std.proofs.Common.{sym, ap₂, ◌∙◌, ⊎_elim}
use Prim.Native.Nat.{ℕ, zero, suc, ◌+◌, ◌-◌, ◌*◌, ◌/◌, ◌%◌, ◌^◌, ◌≤◌, ◌<◌}
use native.Mathlib.Omega.{arith}
use Rattle.std.specs.Int.Count.{ones, ones_step}
use Rattle.std.proofs.lemmas.Nat.{ones_cat}
use Rattle.gf2.specs.Poly.{mul_mod, Degree}
use Rattle.gf2.specs.Numbers.{double_half, double_even}
use Rattle.field.specs.Field.{squared}
use Rattle.field.specs.Ring.{mul_mod-lt, mul_mod_comm, two-lt}
use Rattle.field.specs.Frobenius.{squared-add, squared-mul_mod, squared_fixes}
use Rattle.rows.specs.Rows.{Independent}
use Rattle.rows.specs.Sums.{comb-power}
use Rattle.normal.specs.Normal.{conjugates, coordinates, table_rows, complexity}
use Rattle.normal.specs.TableProduct.{rotate, rotated_by, total}
use Rattle.normal.proofs.Rotation.{half_power, rotate-cases}
use Rattle.normal.specs.Selected.{conjugates-at}
use Rattle.normal.specs.Coordinates.{table_rows-at, table_rows-length}
use Rattle.normal.proofs.Coordinates.{coordinates_unique, coordinates_are}
use Rattle.normal.proofs.Products.{table_rows-table}
use Rattle.normal.proofs.Turns.{rotated_by-lt}
use Rattle.normal.proofs.Reference.{turned-squared}
use Rattle.normal.specs.Halves.{complexity-total, halved, halves_to, halves_to_mono}

-- ---- rotating keeps the number of ones

ones-one : ones 1 ≡ 1
unfolding ones
ones-one = refl

ones-two : ones 2 ≡ 1
unfolding ones
ones-two = refl

module _ (n : ℕ) (pos : 1 ≤ n) where
  pub ones-rotate : (w : ℕ) → w < 2 ^ n → ones (rotate n w) ≡ ones w
  ones-rotate w h =
      let p : ℕ = 2 ^ (n - 1) in
      ⊎_elim
      (λ (l : (w < p) × (rotate n w ≡ w * 2)). ap ones l.1 ∙ ones_step (w * 2) ∙ rw (double_even, double_half) (omega arith))
      (λ (l : (p ≤ w) × (rotate n w ≡ w * 2 - p * 2 + 1)).
      let x : ℕ = w - p in
      let hx : x < p = omega (arith, half_power n pos, l.0) in
      let s : w * 2 - p * 2 + 1 ≡ x * 2 + 1 = omega (arith, l.0) in
      let half : (x * 2 + 1) / 2 ≡ x = omega arith in
      let odd : (x * 2 + 1) % 2 ≡ 1 = omega arith in
      let t : w ≡ 1 * p + x = omega (arith, l.0) in
      ap ones (l.1 ∙ s) ∙ ones_step (x * 2 + 1) ∙ ap₂ (λ (d y : ℕ). d + ones y) odd half
      ∙ sym (ap ones t ∙ ones_cat (n - 1) 1 x hx ∙ ap (λ (d : ℕ). d + ones x) ones-one))
      (rotate-cases n pos w h)

  pub ones-rotated_by : (i w : ℕ) → w < 2 ^ n → ones (rotated_by n i w) ≡ ones w
  unfolding rotated_by
  ones-rotated_by zero w h = refl
  ones-rotated_by (suc i) w h = ones-rotate (rotated_by n i w) (rotated_by-lt n pos i w h) ∙ ones-rotated_by i w h

-- ---- the table of a normal element

module _ (f n : ℕ) (deg : Degree f n) (big : 2 ≤ n) (returns : squared f n n 2 ≡ 2) (a : ℕ) (ha : a < 2 ^ n) (free : Independent (conjugates f n a) n) where
  fixed : squared f n n a ≡ a
  fixed = squared_fixes f n deg big n returns a ha

  -- squaring i times rotates the coordinates i times
  pub squared-coordinates : (i z : ℕ) → z < 2 ^ n → coordinates f n a (squared f n i z) ≡ rotated_by n i (coordinates f n a z)
  squared-coordinates i z h =
      let c = coordinates_are f n deg a ha free z h in
      let v : ℕ = coordinates f n a z in
      coordinates_unique f n deg a ha free (squared f n i z) (rotated_by n i v) (rotated_by-lt n (omega arith) i v c.0)
      (turned-squared f n deg (omega arith) a fixed i v c.0 ∙ ap (squared f n i) c.1)

  -- c_0 times c_0 is c_1
  pub row_first : get_or (table_rows f n a) 0 0 ≡ 2
  unfolding squared
  row_first =
      table_rows-at f n a 0 (omega arith)
      ∙ coordinates_unique f n deg a ha free (mul_mod f n a a) 2 (two-lt n big) (comb-power (conjugates f n a) 1 ∙ conjugates-at f n 1 a big)

  pub row-first-ones : ones (get_or (table_rows f n a) 0 0) ≡ 1
  row-first-ones = ap ones row_first ∙ ones-two

  -- c_0 times c_(n-i) is c_0 times c_i, squared n - i times
  pub row-turned : (i : ℕ) → 0 < i → i < n → get_or (table_rows f n a) (n - i) 0 ≡ rotated_by n (n - i) (get_or (table_rows f n a) i 0)
  row-turned i p h =
      let j : ℕ = n - i in
      let s : j + i ≡ n = omega arith in
      let z : ℕ = mul_mod f n a (squared f n i a) in
      let e : mul_mod f n a (squared f n j a) ≡ squared f n j z =
      sym (squared-mul_mod f n deg j a (squared f n i a)
      ∙ ap (mul_mod f n (squared f n j a)) (sym (squared-add f n deg j i a) ∙ ap (λ (k : ℕ). squared f n k a) s ∙ fixed)
      ∙ mul_mod_comm f n deg (squared f n j a) a) in
      table_rows-at f n a j (omega arith)
      ∙ ap (coordinates f n a) e
      ∙ squared-coordinates j z (mul_mod-lt f n deg a (squared f n i a))
      ∙ ap (rotated_by n j) (sym (table_rows-at f n a i h))

  row_lt : (i : ℕ) → i < n → get_or (table_rows f n a) i 0 < 2 ^ n
  row_lt = (table_rows-table f n deg a ha free).row_lt

  pub rows_mirrored : (i : ℕ) → 0 < i → i < n → ones (get_or (table_rows f n a) (n - i) 0) ≡ ones (get_or (table_rows f n a) i 0)
  rows_mirrored i p h =
      ap ones (row-turned i p h) ∙ ones-rotated_by n (omega arith) (n - i) (get_or (table_rows f n a) i 0) (row_lt i h)

  -- ---- the complexity

  pub complexity-rest : complexity (table_rows f n a) ≡ 1 + total (n - 1) (λ i. ones (get_or (table_rows f n a) (suc i) 0))
  unfolding total
  complexity-rest =
      let s : n ≡ suc (n - 1) = omega arith in
      let g : ℕ → ℕ = λ i. ones (get_or (table_rows f n a) i 0) in
      complexity-total (table_rows f n a)
      ∙ ap (λ (k : ℕ). total k g) (table_rows-length f n a ∙ s)
      ∙ ap (λ (x : ℕ). x + total (n - 1) (λ i. g (suc i))) row-first-ones

  pub complexity-halved : complexity (table_rows f n a) ≡ 1 + halves_to (λ i. ones (get_or (table_rows f n a) i 0)) n (n / 2)
  complexity-halved =
      complexity-rest
      ∙ ap (λ (x : ℕ). 1 + x) (halved (λ i. ones (get_or (table_rows f n a) i 0)) n rows_mirrored (omega arith))

  -- what is counted after rows 0 to k, with their mirrors, for breaking off
  pub complexity-least : (k : ℕ) → k ≤ n / 2 → 1 + halves_to (λ i. ones (get_or (table_rows f n a) i 0)) n k ≤ complexity (table_rows f n a)
  complexity-least k h =
      omega (arith, complexity-halved, halves_to_mono (λ i. ones (get_or (table_rows f n a) i 0)) n k (n / 2) h)
