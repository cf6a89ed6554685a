-- `matrices::line::RowsTwice::common_matrix` meets its contract: the goals that the check leaves. Its loop is told in `Invariants.antt`. Assumes nothing.
use mathlib.Core.Path.{◌≡◌, ap, ◌∙◌}
use Rattle.std.specs.Prelude.{Bool, true, false, cond}
use mir.Val.{bool_byte}
use Prim.Native.Nat.{ℕ, ◌+◌, ◌-◌, ◌*◌, ◌%◌, ◌≤◌, ◌<◌}
use native.Mathlib.Nat.{mod-lt}
use native.Mathlib.Omega.{arith}
use Rattle.gf2.specs.Limit.{limit}
use Rattle.matrices.specs.Blocks.{lines-size-most}
use Rattle.matrices.specs.Turned.{turned}
use Rattle.matrices.proofs.Comparing.{matrix_start, matrix_stop, matrix_next, matrix_end, matrix_most}
use Rattle.matrices.proofs.line.RowsTwice.common_matrix.Goals.{At-loop-i}
use Rattle.matrices.proofs.line.RowsTwice.common_matrix.Goals as goal

-- a line that stands counts one
abbrev lines-of : Bool → ℕ
lines-of b = cond b 1 0

counted : (b : Bool) → {lines : ℕ} → lines ≡ bool_byte b → lines ≡ lines-of b
counted true e = e
counted false e = e

-- the bytes before a line are few
few : (l : At-loop-i) → l.loop-i.i * (l.args.self.now.n + 1) ≤ limit * (limit + 1)
few l = lines-size-most limit l.args.self.now.n l.loop-i.i l.args.self.now.in_range l.loop-i.auto.i-end

pub loop-i-init : goal.loop-i-init
loop-i-init c =
    matrix_start c.args.text.now c.args.at c.args.self.now.n (turned c.args.self.now.n c.args.self.now.rows c.args.k)

pub overflow_mul-i : goal.overflow_mul-i
overflow_mul-i c = omega (arith, few (goal.at.overflow_mul-i c).At-loop-i)

pub overflow_add-at : goal.overflow_add-at
overflow_add-at c = omega (arith, few (goal.at.overflow_add-at c).At-loop-i, c.requires.1)

pub common_line-requires : goal.common_line-requires
common_line-requires c =
    let b : (c.args.k + (c.args.self.now.n - c.loop-i.i)) % c.args.self.now.n < c.args.self.now.n = mod-lt (c.args.k + (c.args.self.now.n - c.loop-i.i)) (omega (arith, c.requires.0)) in
    (omega (arith, c.args.self.now.in_range, c.loop-i.auto.i-end), omega (arith, b, c.args.self.now.in_range), omega (arith, few (goal.at.common_line-requires c).At-loop-i, c.args.self.now.in_range, c.requires.1))

pub returns-then-not-common_line : goal.returns-then-not-common_line
returns-then-not-common_line c =
    matrix_stop c.args.text.now c.args.at c.args.self.now.n (turned c.args.self.now.n c.args.self.now.rows c.args.k) c.loop-i.i c.loop-i-test.true c.loop-i.invariant (lines-of c.common_line.result) (unfold turned in c.common_line.ensures)
    (ap lines-of c.if-not-common_line.true)

pub loop-i-preserved : goal.loop-i-preserved
loop-i-preserved c =
    let one : lines-of c.common_line.result ≡ 1 = ap lines-of c.if-not-common_line.false in
    matrix_next c.args.text.now c.args.at c.args.self.now.n (turned c.args.self.now.n c.args.self.now.rows c.args.k) c.loop-i.i c.loop-i-test.true c.loop-i.invariant (lines-of c.common_line.result) (unfold turned in c.common_line.ensures)
    (λ z. omega (arith, one, z))

pub overflow_mul-n : goal.overflow_mul-n
overflow_mul-n c = omega (arith, lines-size-most limit c.args.self.now.n c.args.self.now.n c.args.self.now.in_range (omega arith))

pub overflow_add-at-2 : goal.overflow_add-at-2
overflow_add-at-2 c =
    omega (arith, lines-size-most limit c.args.self.now.n c.args.self.now.n c.args.self.now.in_range (omega arith), c.requires.1)

pub overflow_add-result : goal.overflow_add-result
overflow_add-result c =
    let e : c.loop-i.i ≡ c.args.self.now.n = omega arith in
    omega (arith, matrix_end c.args.text.now c.args.at c.args.self.now.n (turned c.args.self.now.n c.args.self.now.rows c.args.k) (rw e at c.loop-i.invariant) c.from.result (counted c.common_end.result c.from.ensures ∙ c.common_end.ensures), matrix_most c.args.text.now c.args.at c.args.self.now.n (turned c.args.self.now.n c.args.self.now.rows c.args.k), c.args.self.now.in_range)

pub returns : goal.returns
returns c =
    let e : c.loop-i.i ≡ c.args.self.now.n = omega arith in
    matrix_end c.args.text.now c.args.at c.args.self.now.n (turned c.args.self.now.n c.args.self.now.rows c.args.k) (rw e at c.loop-i.invariant) c.from.result (counted c.common_end.result c.from.ensures ∙ c.common_end.ensures)
