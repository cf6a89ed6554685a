-- `divisors::splitting::irreducible_divisor` meets its contract. The invariant: p divides g, and is not 1. The measure is p.
-- Assumes nothing.
use Prim.Native.Nat.{◌≤◌}
use Rattle.gf2.specs.Poly.{Divides}
use Rattle.divisors.proofs.splitting.irreducible_divisor.Given as goal

abbrev pub invariant-loop-part : goal.invariant-loop-part
invariant-loop-part l = (2 ≤ l.p) × Divides l.p l.part.value

abbrev pub decreases-loop-part : goal.decreases-loop-part
decreases-loop-part l = l.p
