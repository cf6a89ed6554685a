-- `rows::bits::width` meets its contract: the law of the machine's leading zeros (`leading_length`). Assumes nothing.
use mathlib.Core.Path.{◌≡◌}
use Prim.Native.Nat.{◌-◌}
use native.Mathlib.Omega.{arith}
use borrow.Author.Rules.{rules}
use lib.Count.{count_leading_zeros, leading_le, leading_length}
use Rattle.rows.proofs.bits.width.Goals as goal

pub overflow_sub-result : goal.overflow_sub-result
overflow_sub-result c = leading_le 64 _

pub returns : goal.returns
returns c =
    let s = leading_length 64 c.args.x (search rules) in
    let e : 64 - count_leading_zeros 64 c.args.x ≡ s.0 = omega (arith, s.1) in
    rw e (s.2, s.3)
