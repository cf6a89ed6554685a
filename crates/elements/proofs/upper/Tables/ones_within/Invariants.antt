-- `elements::upper::Tables::ones_within` meets its contract. The invariant: c is the conjugate c_i, and the ones of rows 0 to i are counted,
-- with those of the rows that mirror them. Assumes nothing.
use Rattle.std.proofs.Common.{◌≡◌, ◌+◌, ◌*◌, ◌≤◌}
use Rattle.field.specs.Field.{squared}
use Rattle.elements.specs.Ones.{ones_to}
use Rattle.elements.proofs.upper.Tables.ones_within.Given as goal

abbrev pub invariant-loop-i : goal.invariant-loop-i
invariant-loop-i l =
    (l.count ≤ 128 * l.i + 1) × (l.c ≡ squared l.m.f l.m.n l.i l.y) × (l.count ≡ ones_to l.m.f l.m.n l.y l.i)
