-- What is said of a polynomial v in t modulo t ^ n + 1, which is the number 2 ^ n + 1, where its inverse is looked for. Multiplication is
-- `mul_mod (2 ^ n + 1) n`.
--
--   Witnesses n v x   x shows that v has an inverse, or that it has none; nothing is said of `Unknown`
--
-- Assumes nothing.
use Rattle.std.specs.Prelude.{◌≡◌, ℕ, ◌+◌, ◌^◌, ◌<◌}
use Rattle.gf2.specs.Poly.{mul_mod}
use Rattle.elements.specs.declared.units.Witness.{Witness}
use Rattle.elements.specs.declared.units.Witness.TheVariants.{Unknown, Inverse, Vanishes}

abbrev pub Witnesses : (n v : ℕ) → Witness → Type 0
Witnesses n v Unknown = Unit {0}
Witnesses n v (Inverse r) = (r < 2 ^ n) × (mul_mod (2 ^ n + 1) n r v ≡ 1)
Witnesses n v (Vanishes w) = (0 < w) × (w < 2 ^ n) × (mul_mod (2 ^ n + 1) n w v ≡ 0)
