-- `vectors::degrees::count_degrees` meets its contract. At each degree there are at most 60 words. Assumes nothing.
use Rattle.std.proofs.Common.{◌*◌, ◌≤◌}
use Rattle.vectors.proofs.degrees.count_degrees.Given as goal

abbrev pub invariant-loop-i : goal.invariant-loop-i
invariant-loop-i g l = l.total ≤ 60 * l.i
