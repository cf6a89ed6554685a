-- What is decided of one element y: whether it is normal, and how many ones its table has.
--
--   Decides f n y bound x   x is right of y; its count of ones is exact up to the bound
--
-- Assumes nothing.
use Rattle.std.specs.Prelude.{◌≡◌, ℕ, true, false}
use Rattle.normal.specs.Normal.{normal, table_rows, complexity}
use Rattle.elements.specs.Ones.{Within}
use Rattle.std.specs.declared.option.Option.{Option}
use Rattle.std.specs.declared.option.Option.TheVariants.{None, Some}

abbrev pub Decides : (f n y bound : ℕ) → Option ℕ → Type 0
Decides f n y bound None = normal f n y ≡ false
Decides f n y bound (Some c) = (normal f n y ≡ true) × Within bound c (complexity (table_rows f n y))
