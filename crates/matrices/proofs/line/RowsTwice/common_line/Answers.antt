-- `matrices::line::RowsTwice::common_line` meets its contract: the goals that the check leaves. Its loop is told in `Invariants.antt`. Assumes nothing.
use mathlib.Core.Path.{◌≡◌, sym, ◌∙◌}
use Prim.Native.Nat.{◌+◌}
use native.Mathlib.Omega.{arith}
use lib.ListN.{drop}
use Rattle.normal.specs.TableProduct.{entry}
use Rattle.matrices.specs.Matrices.{line_bytes}
use Rattle.matrices.specs.Comparing.{agrees_start}
use Rattle.matrices.proofs.Comparing.{line_missing, line_other, line-next, line-end}
use Rattle.matrices.proofs.line.RowsTwice.common_line.Goals as goal

pub returns-then-text-at : goal.returns-then-text-at
returns-then-text-at c =
    line_missing c.args.text.now c.args.at c.args.self.now.n (λ j. entry c.args.self.now.rows (j + c.args.first) c.args.bit) c.if-text-at.true

pub loop-j-init : goal.loop-j-init
loop-j-init c =
    agrees_start (drop c.args.at c.args.text.now) (line_bytes c.args.self.now.n (λ j. entry c.args.self.now.rows (j + c.args.first) c.args.bit))

pub returns-then-text-at-2 : goal.returns-then-text-at-2
returns-then-text-at-2 c =
    line_other c.args.text.now c.args.at c.args.self.now.n (λ i. entry c.args.self.now.rows (i + c.args.first) c.args.bit) (omega (arith, c.if-text-at.false)) c.loop-j.j c.loop-j-test.true c.loop-j.invariant
    (λ p. c.if-text-at-2.true (p ∙ sym c.digit.ensures))

pub loop-j-preserved : goal.loop-j-preserved
loop-j-preserved c =
    line-next c.args.text.now c.args.at c.args.self.now.n (λ i. entry c.args.self.now.rows (i + c.args.first) c.args.bit) (omega (arith, c.if-text-at.false)) c.loop-j.j c.loop-j-test.true c.loop-j.invariant (c.if-text-at-2.false ∙ c.digit.ensures)

pub returns : goal.returns
returns c =
    let e : c.loop-j.j ≡ c.args.self.now.n = omega arith in
    c.common_end.ensures ∙ sym (line-end c.args.text.now c.args.at c.args.self.now.n (λ i. entry c.args.self.now.rows (i + c.args.first) c.args.bit) (rw e at c.loop-j.invariant))
