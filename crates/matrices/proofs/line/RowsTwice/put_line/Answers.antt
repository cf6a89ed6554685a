-- `matrices::line::RowsTwice::put_line` meets its contract: the goals that the check leaves. Its loop is told in `Invariants.antt`. Assumes nothing.
use mathlib.Core.Path.{◌≡◌, ◌∙◌}
use Prim.Native.Nat.{◌+◌}
use native.Mathlib.Omega.{arith}
use lib.ListN.{length, length-set}
use Rattle.normal.specs.TableProduct.{entry}
use Rattle.matrices.specs.Matrices.{line_end}
use Rattle.matrices.specs.Putting.{digits-none, digits-length, digits-next, line-done}
use Rattle.matrices.proofs.line.RowsTwice.put_line.Goals.{At-loop-j}
use Rattle.matrices.proofs.line.RowsTwice.put_line.Goals as goal

-- the text keeps its length
kept : (l : At-loop-j) → length l.loop-j.text ≡ length l.args.text.now
kept l =
    digits-length l.args.text.now l.args.at l.args.self.now.n (λ i. entry l.args.self.now.rows (i + l.args.first) l.args.bit) l.requires.2
    l.loop-j.j l.loop-j.text l.loop-j.invariant l.loop-j.auto.j-end

pub loop-j-init : goal.loop-j-init
loop-j-init c =
    digits-none c.args.text.now c.args.at c.args.self.now.n (λ i. entry c.args.self.now.rows (i + c.args.first) c.args.bit) c.requires.2

pub overflow_add-text : goal.overflow_add-text
overflow_add-text c = omega (arith, c.requires.2, c.loop-j-test.true, c.well_formed)

pub bounds-text-at : goal.bounds-text-at
bounds-text-at c = omega (arith, kept (goal.at.bounds-text-at c).At-loop-j, c.requires.2, c.loop-j-test.true)

pub loop-j-preserved : goal.loop-j-preserved
loop-j-preserved c =
    digits-next c.args.text.now c.args.at c.args.self.now.n (λ i. entry c.args.self.now.rows (i + c.args.first) c.args.bit) c.requires.2 c.loop-j.j c.loop-j.text c.loop-j.invariant c.loop-j-test.true c.digit.result c.digit.ensures

pub overflow_add-text-2 : goal.overflow_add-text-2
overflow_add-text-2 c = omega (arith, c.requires.2)

pub bounds-text-at-2 : goal.bounds-text-at-2
bounds-text-at-2 c = omega (arith, kept (goal.at.bounds-text-at-2 c).At-loop-j, c.requires.2)

pub shape_of-text : goal.shape_of-text
shape_of-text c =
    length-set c.loop-j.text (c.args.at + c.args.self.now.n) line_end ∙ kept (goal.at.shape_of-text c).At-loop-j

pub returns : goal.returns
returns c =
    let e : c.loop-j.j ≡ c.args.self.now.n = omega arith in
    line-done c.args.text.now c.args.at c.args.self.now.n (λ i. entry c.args.self.now.rows (i + c.args.first) c.args.bit) c.requires.2 c.loop-j.text (rw e at c.loop-j.invariant)
