-- `gf2::division::raised` meets its contract. The invariant: r is y moved up by _k, reduced. Assumes nothing.
use Rattle.std.proofs.Common.{◌≡◌, ◌+◌, ◌*◌, ◌^◌}
use Rattle.gf2.specs.Poly.{rem}
use Rattle.gf2.proofs.division.raised.Given as goal

abbrev pub invariant-loop-k : goal.invariant-loop-k
invariant-loop-k l = l.r ≡ rem (2 ^ 64 + l.low) 64 (l.y * 2 ^ l._k)
