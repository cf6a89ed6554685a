-- `divisors::splitting::irreducible_divisor` meets its contract: the goals that the check leaves. Its loop is told in `Invariants.antt`. Assumes nothing.
use mathlib.Core.Path.{◌≡◌}
use Prim.Native.Nat.{ℕ, ◌≤◌}
use native.Mathlib.Omega.{arith}
use Rattle.gf2.specs.Poly.{degree, Degree, Divides}
use Rattle.gf2.specs.Degrees.{degree_is}
use Rattle.gf2.specs.Divisors.{divides_self, divides_trans}
use Rattle.field.specs.Field.{Irreducible}
use Rattle.divisors.specs.Level.{Level, level_part, level_irreducible}
use Rattle.divisors.proofs.splitting.irreducible_divisor.Goals as goal

module _ (i g : ℕ) (s : Level i g) (p : ℕ) (inv : (2 ≤ p) × Divides p g) (m : ℕ) (em : m ≡ degree p) where
  deg : Degree p m
  deg = rw em (degree_is p (omega (arith, inv.0)))

  level : Level i p
  level = level_part i g s p inv.0 inv.1

  done : m ≤ i → (2 ≤ p) × Irreducible p × Divides p g
  done l = (inv.0, level_irreducible i p level m deg l, inv.1)

pub loop-part-init : goal.loop-part-init
loop-part-init c = (c.args.part.level.two, divides_self c.args.part.value)

pub invariant_of-rest : goal.invariant_of-rest
invariant_of-rest c =
    record { level = level c.args.part.degree c.args.part.value c.args.part.level c.loop-part.p c.loop-part.invariant c.degree_of.result c.degree_of.ensures }

pub split-p-requires : goal.split-p-requires
split-p-requires c = (
  deg c.args.part.degree c.args.part.value c.args.part.level c.loop-part.p c.loop-part.invariant c.degree_of-in-loop-part.result c.degree_of-in-loop-part.ensures,
  omega (arith, c.loop-part-test.true, c.degree_of.ensures, c.degree_of-in-loop-part.ensures),
)

pub loop-part-smaller : goal.loop-part-smaller
loop-part-smaller c = c.split-p.ensures.1

pub loop-part-preserved : goal.loop-part-preserved
loop-part-preserved c =
    (c.split-p.ensures.0, divides_trans c.split-p.result c.loop-part.p c.args.part.value c.split-p.ensures.2 c.loop-part.invariant.1)

pub returns : goal.returns
returns c =
    done c.args.part.degree c.args.part.value c.args.part.level c.loop-part.p c.loop-part.invariant c.degree_of.result c.degree_of.ensures c.loop-part-test.false
