-- `divisors::peeling::smallest_of_level` meets its contract: the goals that the check leaves. Its loop is told in `Invariants.antt`. Assumes nothing.
use Rattle.std.proofs.Common.{◌≤◌, arith}
use Rattle.divisors.specs.Level.{level_part}
use Rattle.divisors.specs.Peeling.{peeled_start, peeled_turn, peeled_less, peeled_done, min-smaller}
use Rattle.divisors.proofs.peeling.smallest_of_level.Goals as goal

pub loop-rest-init : goal.loop-rest-init
loop-rest-init c = peeled_start c.args.part.value c.args.part.level.two

pub invariant_of-irreducible_divisor : goal.invariant_of-irreducible_divisor
invariant_of-irreducible_divisor c =
    let pos = c.loop-rest.invariant.pos in
    let two : 2 ≤ c.loop-rest.rest = omega arith in
    record { level = level_part c.args.part.degree c.args.part.value c.args.part.level c.loop-rest.rest two c.loop-rest.invariant.part }

pub quotient-rest-requires : goal.quotient-rest-requires
quotient-rest-requires c = (c.loop-rest.invariant.pos, c.irreducible_divisor-p.ensures.2)

pub loop-rest-smaller : goal.loop-rest-smaller
loop-rest-smaller c =
    peeled_less c.args.part.value c.args.part.level.two c.loop-rest.best c.loop-rest.rest c.irreducible_divisor-p.result c.quotient-rest.result c.loop-rest.invariant
    c.irreducible_divisor-p.ensures.0 c.irreducible_divisor-p.ensures.1 c.quotient-rest.ensures c.loop-rest-test.true

pub loop-rest-preserved : goal.loop-rest-preserved
loop-rest-preserved c =
    peeled_turn c.args.part.value c.args.part.level.two c.loop-rest.best c.loop-rest.rest c.irreducible_divisor-p.result c.quotient-rest.result c.loop-rest.invariant
    c.irreducible_divisor-p.ensures.0 c.irreducible_divisor-p.ensures.1 c.quotient-rest.ensures _ (omega (arith, min-smaller c.loop-rest.best c.irreducible_divisor-p.result))

pub returns : goal.returns
returns c =
    peeled_done c.args.part.value c.args.part.level.two c.loop-rest.best c.loop-rest.rest c.loop-rest-test.false c.loop-rest.invariant
