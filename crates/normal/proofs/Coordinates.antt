-- The laws of `specs/Coordinates.antt` that a wrong definition breaks, and what rests on them. The head there tells of both files.
-- Assumes nothing.
use Rattle.std.specs.Prelude.{◌≡◌, ◌↔◌, true, ℕ, ◌^◌, ◌≤◌, ◌<◌}
use Rattle.std.proofs.Math.Path.{sym}
use Rattle.std.proofs.Common.{ap, ◌∙◌, arith}
use Rattle.std.proofs.Math.Dec.{eqb}
use Rattle.std.proofs.Math.Pow.{pow-lt}
use borrow.Author.Tests.{eq-eqb, eqb-true}
use Rattle.gf2.specs.Poly.{mul_mod, Degree}
use Rattle.gf2.specs.Existence.{first_unique}
use Rattle.field.specs.Field.{squared}
use Rattle.field.specs.Frobenius.{squared-lt}
use Rattle.rows.specs.Rows.{comb, Matrix, Independent, Inverse}
use Rattle.rows.specs.Sums.{comb-lt}
use Rattle.rows.specs.Inverses.{independent_injective}
use Rattle.rows.proofs.Inverses.{inverse_left, inverse-right}
use Rattle.rows.specs.Decision.{independent-means}
use Rattle.rows.proofs.Decision.{independent_onto, inverse_of_right}
use Rattle.normal.specs.Normal.{conjugates, normal, coordinates, inverse_rows}
use Rattle.normal.specs.TableProduct.{rotate}
use Rattle.normal.proofs.Rotation.{rotate-lt}
use Rattle.normal.specs.Selected.{conjugates-at, conjugates-length}
use Rattle.normal.proofs.Selected.{rotate-square}
use Rattle.normal.specs.Coordinates.{inverse_rows-at, inverse_rows-length, rows_matrix}

-- ---- what the definitions say

-- "no non-empty set of indices has conjugates that sum to zero", for every set
pub normal-means : (f n a : ℕ) → (normal f n a ≡ true) ↔ ((v : ℕ) → 0 < v → v < 2 ^ n → comb (conjugates f n a) v ≡ 0 → ⊥)
unfolding normal
normal-means f n a = independent-means (conjugates f n a) n

-- ---- the rows of a sheet

module _ (f n : ℕ) (deg : Degree f n) (a : ℕ) (ha : a < 2 ^ n) where
  pub conjugates_matrix : Matrix (conjugates f n a) n
  conjugates_matrix =
      rows_matrix (conjugates f n a) n (conjugates-length f n a) (λ i h. rw (conjugates-at f n i a h) (squared-lt f n deg i a ha))

  module _ (free : Independent (conjugates f n a) n) where
    -- ---- coordinates are unique, and exist

    pub selected_unique : (v w : ℕ) → v < 2 ^ n → w < 2 ^ n → comb (conjugates f n a) v ≡ comb (conjugates f n a) w → v ≡ w
    selected_unique = independent_injective (conjugates f n a) n free

    pub coordinates_unique : (y v : ℕ) → v < 2 ^ n → comb (conjugates f n a) v ≡ y → coordinates f n a y ≡ v
    unfolding coordinates
    coordinates_unique y v h e =
        first_unique (2 ^ n) (λ w. eqb (comb (conjugates f n a) w) y) v
        (record {
          below = h;
          passes = eq-eqb (comb (conjugates f n a) v) y e;
          least = λ w l p.
              let s : w ≡ v = selected_unique w v (omega arith) h (eqb-true (comb (conjugates f n a) w) y p ∙ sym e) in
              omega arith;
        })

    pub coordinates_are : (y : ℕ) → y < 2 ^ n → (coordinates f n a y < 2 ^ n) × (comb (conjugates f n a) (coordinates f n a y) ≡ y)
    coordinates_are y h =
        let s = independent_onto (conjugates f n a) n conjugates_matrix free y h in
        let e : coordinates f n a y ≡ s.0 = coordinates_unique y s.0 s.1 s.2 in
        (rw e s.1, ap (comb (conjugates f n a)) e ∙ s.2)

    -- "Squaring turns bit i into bit i+1, and bit n-1 into bit 0."
    pub square-coordinates : 1 ≤ n → squared f n n a ≡ a → (y : ℕ) → y < 2 ^ n → coordinates f n a (mul_mod f n y y) ≡ rotate n (coordinates f n a y)
    square-coordinates pos back y h =
        let c = coordinates_are y h in
        coordinates_unique (mul_mod f n y y) (rotate n (coordinates f n a y)) (rotate-lt n pos (coordinates f n a y) c.0)
        (rotate-square f n deg pos a back (coordinates f n a y) c.0 ∙ ap (λ (x : ℕ). mul_mod f n x x) c.1)

    -- ---- the inverse rows

    pub inverse_rows-inverse : Inverse (conjugates f n a) n (inverse_rows f n a)
    inverse_rows-inverse =
        inverse_of_right (conjugates f n a) n (inverse_rows f n a)
        (rows_matrix (inverse_rows f n a) n (inverse_rows-length f n a) (λ i h. rw (inverse_rows-at f n a i h) (coordinates_are (2 ^ i) (pow-lt h)).0))
        (λ i h. rw (inverse_rows-at f n a i h) (coordinates_are (2 ^ i) (pow-lt h)).1)

    -- "converting to normal coordinates sums the inverse rows picked by the bits"
    pub convert-coordinates : (y : ℕ) → y < 2 ^ n → comb (inverse_rows f n a) y ≡ coordinates f n a y
    convert-coordinates y h =
        sym (coordinates_unique y (comb (inverse_rows f n a) y)
        (comb-lt n (inverse_rows f n a) inverse_rows-inverse.shape.row_lt y)
        (inverse-right (conjugates f n a) n (inverse_rows f n a) inverse_rows-inverse y h))

    -- converting to either notation and back returns the value
    pub there_and_back : (y : ℕ) → y < 2 ^ n → comb (conjugates f n a) (comb (inverse_rows f n a) y) ≡ y
    there_and_back = inverse-right (conjugates f n a) n (inverse_rows f n a) inverse_rows-inverse

    pub back-and-there : (v : ℕ) → v < 2 ^ n → comb (inverse_rows f n a) (comb (conjugates f n a) v) ≡ v
    back-and-there = inverse_left (conjugates f n a) n (inverse_rows f n a) inverse_rows-inverse
