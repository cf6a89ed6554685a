-- `rows::by_bytes::sum_by_bytes` meets its contract. The loop's invariant: what is summed, with what the bytes left pick of the tables left, is
-- the whole. Assumes nothing.
use Rattle.std.proofs.Common.{◌≡◌, ◌-◌, ◌*◌, ◌/◌, drop}
use Rattle.gf2.specs.Poly.{◌⊕◌}
use Rattle.rows.specs.ByteSums.{picked_bytes}
use Rattle.rows.proofs.by_bytes.sum_by_bytes.Given as goal

abbrev pub invariant-loop-byte : goal.invariant-loop-byte
invariant-loop-byte g l =
    let m = g.row.SUMS / 256 in
    l.sum ⊕ picked_bytes (m - l.byte) (drop (256 * l.byte) l.sums) l.left ≡ picked_bytes m l.sums l.v
