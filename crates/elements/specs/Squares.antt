-- Squaring by bytes. The square of a sum is the sum of the squares, so the squares of the powers of x, as the rows of a matrix, give the
-- square of every element: the sum of the rows that its bits pick, and so of the table entries that its bytes pick.
--
--   square_rows f n   row i: the square of x ^ i; "entries from n upward are zero"
--
-- Assumes nothing.
use Rattle.std.specs.Prelude.{◌≡◌, ℕ, ◌^◌, ◌<◌, ◌≤◌, List}
use Rattle.std.proofs.Common.{◌∙◌, arith}
use Rattle.std.proofs.Math.Pow.{pow_mono}
use Rattle.gf2.specs.Poly.{mul_mod, Degree}
use Rattle.gf2.specs.Limit.{limit}
use Rattle.field.specs.Ring.{mul_mod-square-⊕}
use Rattle.rows.specs.ByteSums.{bytes, byte_sums, picked_bytes, bytes_pick}
use Rattle.normal.specs.Normal.{listed, padded}
use Rattle.normal.specs.Filling.{padded_linear}

unfoldable pub square_rows : (f n : ℕ) → List ℕ
square_rows f n = padded (listed n (λ i. mul_mod f n (2 ^ i) (2 ^ i)))

module _ (f n : ℕ) (deg : Degree f n) (y : ℕ) (h : y < 2 ^ n) where
  pub squares-picked : n ≤ limit → picked_bytes bytes (byte_sums bytes (square_rows f n)) y ≡ mul_mod f n y y
  unfolding square_rows
  squares-picked small =
      bytes_pick bytes (square_rows f n) y (omega (arith, pow_mono small)) ∙ padded_linear (λ v. mul_mod f n v v) (mul_mod-square-⊕ f n deg) n y h
