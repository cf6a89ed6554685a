-- A reference: one normal element of a field, by whose basis other elements are seen. Its inverse rows are held as the sums that bytes pick of
-- them. Coordinates in that basis are polynomials in t modulo t ^ n + 1, as in `normal`'s Reference.
--
--   through sums z         what the bytes of z pick: the coordinates of z in the reference's basis
--   Reference f n sums     sums are those of the inverse rows of a normal element, which the record holds and no program has
--
-- Assumes nothing.
use Rattle.std.specs.Prelude.{◌≡◌, ℕ, ◌^◌, ◌<◌, true, List}
use Rattle.rows.specs.ByteSums.{bytes, byte_sums, picked_bytes}
use Rattle.normal.specs.Normal.{normal, inverse_rows, padded}
use Rattle.elements.specs.Fields.{FieldOf}

abbrev pub through : (sums : List ℕ) (z : ℕ) → ℕ
through sums z = picked_bytes bytes sums z

pub record Reference (f n : ℕ) (sums : List ℕ) : Type 0 where
  pub of_field : FieldOf f n
  pub element : ℕ
  pub below : element < 2 ^ n
  pub is_normal : normal f n element ≡ true
  pub held : sums ≡ byte_sums bytes (padded (inverse_rows f n element))
