-- `divisors::quotient::quotient` meets its contract. The invariant: a is q times d, of degree m, and what is left, which d divides.
-- The measure is what is left. Assumes nothing.
use Prim.Native.Nat.{◌^◌, ◌<◌}
use Rattle.gf2.specs.Poly.{Degree}
use Rattle.divisors.specs.Quotient.{Left}
use Rattle.divisors.proofs.quotient.quotient.Given as goal

abbrev pub invariant-loop-left : goal.invariant-loop-left
invariant-loop-left l = Degree l.d l.m × (l.left < 2 ^ 64) × Left l.a l.d l.q l.left

abbrev pub decreases-loop-left : goal.decreases-loop-left
decreases-loop-left l = l.left
