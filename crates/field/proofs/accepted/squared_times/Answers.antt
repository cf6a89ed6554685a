-- `field::accepted::squared_times` meets its contract: the goals that the check leaves. Its loop is told in `Invariants.antt`. Assumes nothing.
use Rattle.field.specs.Frobenius.{squared_start, squared_turn, squared-lt}
use Rattle.field.proofs.accepted.squared_times.Goals as goal

pub loop-init : goal.loop-init
loop-init c = squared_start c.args.ring.f c.args.ring.n c.args.a

pub square-y-requires : goal.square-y-requires
square-y-requires c =
    (record { is_degree = c.args.ring.in_range.is_degree; below = rw c.loop.invariant (squared-lt c.args.ring.f c.args.ring.n c.args.ring.in_range.is_degree c.loop.counter c.args.a c.requires) })

pub loop-preserved : goal.loop-preserved
loop-preserved c =
    squared_turn c.args.ring.f c.args.ring.n c.args.ring.in_range.is_degree c.loop.counter c.args.a c.loop.y c.square-y.result c.loop.invariant c.square-y.ensures
