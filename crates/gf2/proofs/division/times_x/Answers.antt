-- `gf2::division::times_x` meets its contract: one coefficient at most leaves the word, and is taken away with low.
-- Assumes nothing.
use Rattle.std.proofs.Common.{◌≡◌, ℕ, ◌+◌, ◌*◌, ◌/◌, ◌%◌, ◌^◌, ◌<◌, ap, ◌∙◌}
use lib.Bits.{bit_xor}
use Rattle.gf2.specs.Poly.{◌⊕◌, reduce}
use Rattle.gf2.specs.Raised.{times-x-raised}
use Rattle.gf2.proofs.division.times_x.Goals as goal

reduced : (low a p : ℕ) → low < 2 ^ 64 → a < 2 ^ 64 → p ≡ (a / 2 ^ 63) * low → bit_xor (a * 2 % 2 ^ 64) p ≡ reduce (2 ^ 64 + low) 64 (a * 2)
unfolding ◌⊕◌
reduced low a p hl ha e = ap (bit_xor (a * 2 % 2 ^ 64)) e ∙ times-x-raised low a hl ha

pub returns : goal.returns
returns c =
    reduced c.args.low c.args.a c.picked.result c.ranges.low.fits c.ranges.a.fits c.picked.ensures
