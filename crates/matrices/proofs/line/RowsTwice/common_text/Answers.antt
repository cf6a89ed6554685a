-- `matrices::line::RowsTwice::common_text` meets its contract: the goals that the check leaves. Its loop is told in `Invariants.antt`. Assumes nothing.
use mathlib.Core.Path.{◌≡◌, ap, ◌∙◌}
use Prim.Native.Nat.{ℕ, ◌+◌, ◌*◌, ◌≤◌}
use native.Mathlib.Omega.{arith}
use lib.ListN.{drop}
use Rattle.gf2.specs.Limit.{limit}
use Rattle.matrices.specs.Matrices.{matrix_bytes, matrix_size}
use Rattle.matrices.specs.Orders.{common_lines}
use Rattle.matrices.specs.Blocks.{lines-size-most, text_size-most}
use Rattle.matrices.specs.Turned.{turned}
use Rattle.matrices.proofs.Comparing.{text_start, text_stop, text_next, text_end}
use Rattle.matrices.proofs.line.RowsTwice.common_text.Goals.{After-common_matrix-lines, At-loop-k}
use Rattle.matrices.proofs.line.RowsTwice.common_text.Goals as goal

-- the place of a matrix
place : (l : At-loop-k) → l.loop-k.k * l.matrix_size-size.result ≡ l.loop-k.k * matrix_size l.args.self.now.n
place l = ap (λ (x : ℕ). l.loop-k.k * x) l.matrix_size-size.ensures

-- which is low
low : (l : At-loop-k) → l.loop-k.k * l.matrix_size-size.result ≤ limit * (limit * (limit + 1) + 1)
low l =
    omega (arith, place l, text_size-most limit l.args.self.now.n l.loop-k.k l.args.self.now.in_range l.loop-k.auto.k-end)

-- what the comparison of a matrix found, at its place
found : (c : After-common_matrix-lines)
    → c.common_matrix-lines.result ≡ common_lines (drop (c.loop-k.k * matrix_size c.args.self.now.n) c.args.text.now) (matrix_bytes c.args.self.now.n (turned c.args.self.now.n c.args.self.now.rows c.loop-k.k))
found c =
    c.common_matrix-lines.ensures ∙ ap (λ (p : ℕ). common_lines (drop p c.args.text.now) (matrix_bytes c.args.self.now.n (turned c.args.self.now.n c.args.self.now.rows c.loop-k.k))) (ap (λ (x : ℕ). c.loop-k.k * x) c.matrix_size-size.ensures)

pub loop-k-init : goal.loop-k-init
loop-k-init c = text_start c.args.text.now c.args.self.now.n (turned c.args.self.now.n c.args.self.now.rows)

pub overflow_mul-k : goal.overflow_mul-k
overflow_mul-k c = omega (arith, low (goal.at.overflow_mul-k c).At-loop-k)

pub common_matrix-lines-requires : goal.common_matrix-lines-requires
common_matrix-lines-requires c =
    (c.loop-k-test.true, omega (arith, low (goal.at.common_matrix-lines-requires c).At-loop-k))

pub overflow_mul-result : goal.overflow_mul-result
overflow_mul-result c = omega (arith, lines-size-most limit c.args.self.now.n c.loop-k.k c.args.self.now.in_range c.loop-k.auto.k-end)

pub overflow_add-result-then-lines-n : goal.overflow_add-result-then-lines-n
overflow_add-result-then-lines-n c =
    omega (arith, lines-size-most limit c.args.self.now.n c.loop-k.k c.args.self.now.in_range c.loop-k.auto.k-end, c.if-lines-n.true, c.args.self.now.in_range)

pub returns-then-lines-n : goal.returns-then-lines-n
returns-then-lines-n c =
    text_stop c.args.text.now c.args.self.now.n (turned c.args.self.now.n c.args.self.now.rows) c.loop-k.k c.loop-k-test.true c.loop-k.invariant c.common_matrix-lines.result (found (goal.at.returns-then-lines-n c).After-common_matrix-lines) c.if-lines-n.true

pub loop-k-preserved : goal.loop-k-preserved
loop-k-preserved c =
    text_next c.args.text.now c.args.self.now.n (turned c.args.self.now.n c.args.self.now.rows) c.loop-k.k c.loop-k-test.true c.loop-k.invariant c.common_matrix-lines.result (found (goal.at.loop-k-preserved c).After-common_matrix-lines) (omega (arith, c.if-lines-n.false))

pub overflow_mul-result-2 : goal.overflow_mul-result-2
overflow_mul-result-2 c = omega (arith, lines-size-most limit c.args.self.now.n c.args.self.now.n c.args.self.now.in_range (omega arith))

pub returns : goal.returns
returns c =
    let e : c.loop-k.k ≡ c.args.self.now.n = omega arith in
    text_end c.args.text.now c.args.self.now.n (turned c.args.self.now.n c.args.self.now.rows) (rw e at c.loop-k.invariant)
