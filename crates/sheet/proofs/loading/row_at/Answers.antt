-- `sheet::loading::row_at` meets its contract: one number after the other.
-- Assumes nothing.
use mathlib.Core.Path.{◌≡◌}
use Prim.Native.Nat.{ℕ}
use native.Mathlib.Omega.{arith}
use Rattle.sheet.specs.Record.{column_in}
use Rattle.sheet.specs.declared.loading.Row.{Row}
use Rattle.sheet.proofs.loading.row_at.Goals as goal

rows : (c v t x y z : ℕ) → c ≡ x → v ≡ y → t ≡ z → ◌≡◌ {A = Row} (record { conjugate = c; inverse = v; table = t }) (record { conjugate = x; inverse = y; table = z })
rows c v t x y z p q r = rw (p, q, r)

pub overflow_mul-at : goal.overflow_mul-at
overflow_mul-at c = omega (arith, c.requires)

pub overflow_add-at : goal.overflow_add-at
overflow_add-at c = omega (arith, c.requires)

pub number_at-requires : goal.number_at-requires
number_at-requires c = (omega (arith, c.requires), omega arith)

pub overflow_add-at-2 : goal.overflow_add-at-2
overflow_add-at-2 c = omega (arith, c.requires)

pub number_at-requires-2 : goal.number_at-requires-2
number_at-requires-2 c = (omega (arith, c.requires), omega arith)

pub overflow_add-at-3 : goal.overflow_add-at-3
overflow_add-at-3 c = omega (arith, c.requires)

pub number_at-requires-3 : goal.number_at-requires-3
number_at-requires-3 c = (omega (arith, c.requires), omega arith)

pub returns : goal.returns
unfolding column_in
returns c = rows _ _ _ _ _ _ c.number_at.ensures c.number_at-2.ensures c.number_at-3.ensures
