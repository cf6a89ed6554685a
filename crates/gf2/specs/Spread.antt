-- The table that squaring spreads bytes through (document 01, "Two notations"). Definitions alone; the spread itself stands in `Poly`, and
-- laws of both in `SpreadRule`.
--
--   SpreadTable t    t has 256 entries, and entry b is the spread of b
--
-- Assumes nothing.
use Rattle.std.specs.Prelude.{◌≡◌, ℕ, ◌<◌, List, length, slice_index}
use Rattle.gf2.specs.Poly.{spread}

-- "a table of 256 spread values, entry b carrying bit i of b at bit 2i"
pub record SpreadTable (t : List ℕ) : Type 0 where
  pub long : length t ≡ 256
  pub rule : (b : ℕ) → b < 256 → slice_index t b ≡ spread b
