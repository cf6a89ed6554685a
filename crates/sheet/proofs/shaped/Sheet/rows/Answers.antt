-- `sheet::shaped::Sheet::rows` meets its contract: the goals that the check leaves. Its loop is told in `Invariants.antt`. Assumes nothing.
use mathlib.Core.Path.{◌≡◌}
use mathlib.Core.List.{List}
use Prim.Native.Nat.{ℕ, ◌≤◌}
use native.Mathlib.Omega.{arith}
use Rattle.gf2.specs.Limit.{limit}
use Rattle.normal.specs.Normal.{padded}
use Rattle.normal.specs.Filling.{Filled, filled_start, filled_turn, filled_padded}
use Rattle.sheet.specs.Record.{record_count, column_in, rows_in}
use Rattle.sheet.proofs.shaped.Sheet.rows.Invariants.{row}
use Rattle.sheet.proofs.shaped.Sheet.rows.Goals as goal

done : (sheet : List ℕ) (at i : ℕ) (rows : List ℕ) → record_count sheet ≤ limit → record_count sheet ≤ i → (i ≤ record_count sheet) × Filled rows i (row sheet at) → rows ≡ padded (rows_in sheet at)
unfolding rows_in
done sheet at i rows small h inv =
    let e : i ≡ record_count sheet = omega (arith, inv.0) in
    filled_padded rows (record_count sheet) (row sheet at) small (rw e at inv.1)

pub loop-i-init : goal.loop-i-init
loop-i-init c = (omega arith, filled_start (row c.args.self.now.bytes.now c.args.at))

pub overflow_mul-i : goal.overflow_mul-i
overflow_mul-i c = omega (arith, c.degree-n.ensures, c.args.self.now.shaped.size.most)

pub overflow_add-i : goal.overflow_add-i
overflow_add-i c = omega (arith, c.degree-n.ensures, c.args.self.now.shaped.size.most, c.requires)

pub number_at-requires : goal.number_at-requires
number_at-requires c = (omega (arith, c.degree-n.ensures, c.args.self.now.shaped.size.whole, c.requires), omega arith)

pub offset_bounds-rows-i : goal.offset_bounds-rows-i
offset_bounds-rows-i c = omega (arith, c.degree-n.ensures, c.args.self.now.shaped.size.most)

pub bounds-rows-i : goal.bounds-rows-i
bounds-rows-i c = omega (arith, c.degree-n.ensures, c.args.self.now.shaped.size.most)

pub loop-i-preserved : goal.loop-i-preserved
unfolding column_in
loop-i-preserved c =
    (omega arith, filled_turn c.loop-i.rows c.loop-i.i c.number_at.result (row c.args.self.now.bytes.now c.args.at) (omega (arith, c.degree-n.ensures, c.args.self.now.shaped.size.most)) c.number_at.ensures c.loop-i.invariant.1)

pub returns : goal.returns
returns c =
    done c.args.self.now.bytes.now c.args.at c.loop-i.i c.loop-i.rows c.args.self.now.shaped.size.most (omega (arith, c.degree-n.ensures, c.loop-i-test.false)) c.loop-i.invariant
