-- `normal::basis::table_of` meets its contract: the goals that the check leaves. Its loop is told in `Invariants.antt`. Assumes nothing.
use mathlib.Core.Path.{◌≡◌, ap, ◌∙◌}
use mathlib.Core.List.{List}
use Prim.Native.Nat.{ℕ, ◌≤◌}
use native.Mathlib.Omega.{arith}
use lib.ListN.{get_or}
use lib.Pow.{pow_mono}
use Rattle.gf2.specs.Limit.{limit}
use Rattle.field.specs.Ring.{mul_mod-lt}
use Rattle.rows.specs.Rows.{comb}
use Rattle.normal.specs.Normal.{listed, padded}
use Rattle.normal.specs.Filling.{Filled, filled_start, filled_turn, filled_padded}
use Rattle.normal.proofs.basis.table_of.Invariants.{row}
use Rattle.normal.proofs.basis.table_of.Goals as goal

done : (n i : ℕ) (rows : List ℕ) (g : ℕ → ℕ) → i ≡ n → n ≤ limit → Filled rows i g → rows ≡ padded (listed n g)
done n i rows g e small s = filled_padded rows n g small (rw e at s)

pub loop-i-init : goal.loop-i-init
loop-i-init c = filled_start (row c.args.f c.args.n c.args.conjugates c.args.inverse)

pub multiply-requires : goal.multiply-requires
multiply-requires c = record { is_degree = c.requires.1; below = c.requires.2.row_lt _ }

pub sum-requires : goal.sum-requires
sum-requires c =
    rw c.multiply.ensures (omega (arith, mul_mod-lt c.args.f c.args.n c.requires.1 (get_or c.args.conjugates 0 0) (get_or c.args.conjugates c.loop-i.i 0), pow_mono c.requires.0))

pub loop-i-preserved : goal.loop-i-preserved
loop-i-preserved c =
    filled_turn c.loop-i.rows c.loop-i.i c.sum.result (row c.args.f c.args.n c.args.conjugates c.args.inverse) (omega (arith, c.requires.0))
    (c.sum.ensures ∙ ap (comb c.args.inverse) c.multiply.ensures) c.loop-i.invariant

pub returns : goal.returns
returns c =
    done c.args.n c.loop-i.i c.loop-i.rows (row c.args.f c.args.n c.args.conjugates c.args.inverse) (omega arith) c.requires.0 c.loop-i.invariant
