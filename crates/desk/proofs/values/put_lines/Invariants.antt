-- `desk::values::put_lines` meets its contract: each line has room. Assumes nothing.
use Rattle.std.proofs.Common.{◌≡◌, ◌*◌, ◌≤◌, length}
use Rattle.desk.proofs.values.put_lines.Given as goal

abbrev pub invariant-loop-value : goal.invariant-loop-value
invariant-loop-value l = (l.at ≤ 21 * l.value-index) × (length l.text ≡ length l.fn.text)
