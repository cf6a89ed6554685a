-- `rows::by_bytes::sum_by_bytes` meets its contract: the goals that the check leaves. Its loop is told in `Invariants.antt`. Assumes nothing.
use Rattle.std.proofs.Common.{◌≡◌, ◌-◌, ◌/◌, arith}
use Rattle.gf2.specs.Poly.{◌⊕◌}
use Rattle.gf2.specs.Sum.{zero-⊕}
use Rattle.rows.specs.ByteSums.{picked_bytes, bytes_turn, bytes-end}
use Rattle.rows.proofs.by_bytes.sum_by_bytes.Goals as goal

pub loop-byte-init : goal.loop-byte-init
loop-byte-init g c =
    let all : g.row.SUMS / 256 - 0 ≡ g.row.SUMS / 256 = omega arith in
    rw all (zero-⊕ _)

pub loop-byte-preserved : goal.loop-byte-preserved
unfolding ◌⊕◌
loop-byte-preserved g c =
    let s = c.args in
    let m = g.row.SUMS / 256 in
    bytes_turn m c.loop-byte.byte s.sums.now c.loop-byte.sum c.loop-byte.left (picked_bytes m s.sums.now s.v) (omega arith) c.loop-byte.invariant

pub returns : goal.returns
returns g c =
    let s = c.args in
    let m = g.row.SUMS / 256 in
    bytes-end m c.loop-byte.byte s.sums.now c.loop-byte.sum c.loop-byte.left (picked_bytes m s.sums.now s.v) (omega arith) c.loop-byte.invariant
