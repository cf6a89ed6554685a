-- `matrices::line::RowsTwice::put_matrix` meets its contract: the goals that the check leaves. Its loop is told in `Invariants.antt`. Assumes nothing.
use mathlib.Core.Path.{◌≡◌, ◌∙◌}
use Prim.Native.Nat.{◌+◌, ◌-◌, ◌*◌, ◌%◌, ◌≤◌, ◌<◌}
use native.Mathlib.Nat.{mod-lt, mul-le-mul}
use native.Mathlib.Omega.{arith}
use lib.ListN.{length, length-set}
use Rattle.gf2.specs.Limit.{limit}
use Rattle.matrices.specs.Matrices.{line_end}
use Rattle.matrices.specs.Blocks.{lines-size-most, next_place}
use Rattle.matrices.specs.Turned.{turned}
use Rattle.matrices.proofs.Putting.{lines_none, lines-kept, lines_next, matrix_done}
use Rattle.matrices.proofs.line.RowsTwice.put_matrix.Goals.{At-loop-i}
use Rattle.matrices.proofs.line.RowsTwice.put_matrix.Goals as goal

-- the lines before one, and that one, are not more than all
within : (l : At-loop-i) → l.loop-i.i * (l.args.self.now.n + 1) ≤ l.args.self.now.n * (l.args.self.now.n + 1)
within l = mul-le-mul l.loop-i.auto.i-end (omega arith)

beyond : (l : At-loop-i) → l.loop-i.i < l.args.self.now.n → l.loop-i.i * (l.args.self.now.n + 1) + (l.args.self.now.n + 1) ≤ l.args.self.now.n * (l.args.self.now.n + 1)
beyond l h =
    let m : l.loop-i.i + 1 ≤ l.args.self.now.n = omega arith in
    let p : (l.loop-i.i + 1) * (l.args.self.now.n + 1) ≤ l.args.self.now.n * (l.args.self.now.n + 1) = mul-le-mul m (omega arith) in
    omega (arith, p, next_place l.loop-i.i (l.args.self.now.n + 1))

-- the text keeps its length
kept : (l : At-loop-i) → length l.loop-i.text ≡ length l.args.text.now
kept l =
    lines-kept l.args.text.now l.args.at l.args.self.now.n (turned l.args.self.now.n l.args.self.now.rows l.args.k) l.requires.1 l.loop-i.i l.loop-i.text l.loop-i.invariant (within l)

pub loop-i-init : goal.loop-i-init
loop-i-init c =
    lines_none c.args.text.now c.args.at c.args.self.now.n (turned c.args.self.now.n c.args.self.now.rows c.args.k) c.requires.1

pub overflow_mul-i : goal.overflow_mul-i
overflow_mul-i c = omega (arith, lines-size-most limit c.args.self.now.n c.loop-i.i c.args.self.now.in_range c.loop-i.auto.i-end)

pub overflow_add-at : goal.overflow_add-at
overflow_add-at c = omega (arith, within (goal.at.overflow_add-at c).At-loop-i, c.requires.1)

pub put_line-requires : goal.put_line-requires
put_line-requires c =
    let b : (c.args.k + (c.args.self.now.n - c.loop-i.i)) % c.args.self.now.n < c.args.self.now.n = mod-lt (c.args.k + (c.args.self.now.n - c.loop-i.i)) (omega (arith, c.requires.0)) in
    (omega (arith, c.args.self.now.in_range, c.loop-i.auto.i-end), omega (arith, b, c.args.self.now.in_range), omega (arith, kept (goal.at.put_line-requires c).At-loop-i, beyond (goal.at.put_line-requires c).At-loop-i c.loop-i-test.true, c.requires.1))

pub loop-i-preserved : goal.loop-i-preserved
loop-i-preserved c =
    lines_next c.args.text.now c.args.at c.args.self.now.n (turned c.args.self.now.n c.args.self.now.rows c.args.k) c.requires.1 c.loop-i.i c.loop-i.text c.loop-i.invariant (within (goal.at.loop-i-preserved c).At-loop-i) c.put_line.new.text (unfold turned in c.put_line.ensures)

pub overflow_mul-text : goal.overflow_mul-text
overflow_mul-text c = omega (arith, lines-size-most limit c.args.self.now.n c.args.self.now.n c.args.self.now.in_range (omega arith))

pub overflow_add-text-2 : goal.overflow_add-text-2
overflow_add-text-2 c = omega (arith, c.requires.1)

pub bounds-text-at : goal.bounds-text-at
bounds-text-at c = omega (arith, kept (goal.at.bounds-text-at c).At-loop-i, c.requires.1)

pub shape_of-text : goal.shape_of-text
shape_of-text c =
    length-set c.loop-i.text (c.args.at + c.args.self.now.n * (c.args.self.now.n + 1)) line_end ∙ kept (goal.at.shape_of-text c).At-loop-i

pub returns : goal.returns
returns c =
    let e : c.loop-i.i ≡ c.args.self.now.n = omega arith in
    matrix_done c.args.text.now c.args.at c.args.self.now.n (turned c.args.self.now.n c.args.self.now.rows c.args.k) c.requires.1 c.loop-i.text (rw e at c.loop-i.invariant)
