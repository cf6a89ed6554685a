-- `sheet::record::put_sheet` meets its contract. The invariant: the first i records are written.
-- Assumes nothing.
use mathlib.Core.Path.{◌≡◌}
use Prim.Native.Nat.{◌≤◌}
use Rattle.sheet.specs.Record.{records_to}
use Rattle.sheet.specs.Bytes.{pasted}
use Rattle.sheet.proofs.record.put_sheet.Given as goal

abbrev pub invariant-loop-i : goal.invariant-loop-i
invariant-loop-i l = (l.i ≤ l.n) × (l.buffer ≡ pasted l.initial.buffer 0 (records_to l.i l.n l.tail l.basis.conjugates l.basis.inverse l.basis.table))
