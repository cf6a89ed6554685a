-- `sheet::building::room_verdict` meets its contract: 6, then 2 and 3.
-- Assumes nothing.
use mathlib.Core.Path.{sym, ap, ◌∙◌}
use native.Mathlib.Omega.{arith}
use Rattle.refusals.specs.Answers.{checked_of}
use Rattle.sheet.specs.Building.{room-short, room-enough}
use Rattle.sheet.proofs.building.room_verdict.Goals as goal

pub overflow_mul-ring : goal.overflow_mul-ring
overflow_mul-ring c = omega (arith, c.args.ring.in_range.most)

pub returns-then-room-ring : goal.returns-then-room-ring
returns-then-room-ring c =
    c.refused.ensures ∙ ap checked_of (sym (room-short c.args.ring.f c.args.ring.n c.args.room c.if-room-ring.true))

pub returns : goal.returns
returns c =
    c.field_verdict.ensures ∙ ap checked_of (sym (room-enough c.args.ring.f c.args.ring.n c.args.room c.if-room-ring.false))
