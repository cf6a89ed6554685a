-- `gf2::squaring::spread_half` meets its contract. The invariant: sum is the spread of the bytes that were taken. Assumes nothing.
use Rattle.std.proofs.Common.{◌≡◌, ◌-◌, ◌*◌, ◌/◌, ◌^◌}
use Rattle.gf2.specs.Poly.{spread}
use Rattle.gf2.proofs.squaring.spread_half.Given as goal

abbrev pub invariant-loop-byte : goal.invariant-loop-byte
invariant-loop-byte l = l.sum ≡ spread (l.half / 2 ^ (8 * (4 - l.byte-index)))
