-- `field::powers::element_power` meets its contract. The invariant: the power so far, times the conjugate to the power of what is left of the
-- exponent, is a to the power e. The measure is what is left of the exponent. Assumes nothing.
use mathlib.Core.Path.{◌≡◌}
use Prim.Native.Nat.{◌^◌, ◌<◌}
use Rattle.gf2.specs.Poly.{mul_mod}
use Rattle.field.specs.Field.{pow_mod}
use Rattle.field.proofs.powers.element_power.Given as goal

abbrev pub invariant-loop-rest : goal.invariant-loop-rest
invariant-loop-rest l = (l.power < 2 ^ l.ring.n) × (l.conjugate < 2 ^ l.ring.n) × (mul_mod l.ring.f l.ring.n l.power (pow_mod l.ring.f l.ring.n l.conjugate l.rest) ≡ pow_mod l.ring.f l.ring.n l.a l.e)

abbrev pub decreases-loop-rest : goal.decreases-loop-rest
decreases-loop-rest l = l.rest
