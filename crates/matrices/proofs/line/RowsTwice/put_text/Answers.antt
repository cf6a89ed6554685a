-- `matrices::line::RowsTwice::put_text` meets its contract: the goals that the check leaves. Its loop is told in `Invariants.antt`. Assumes nothing.
use mathlib.Core.Path.{◌≡◌, ap, ◌∙◌}
use Prim.Native.Nat.{ℕ, ◌+◌, ◌*◌, ◌≤◌, ◌<◌}
use native.Mathlib.Nat.{mul-le-mul}
use native.Mathlib.Omega.{arith}
use lib.ListN.{length}
use Rattle.gf2.specs.Limit.{limit}
use Rattle.sheet.specs.Bytes.{pasted}
use Rattle.matrices.specs.Matrices.{matrix_bytes, text_bytes, matrix_size, text_size}
use Rattle.matrices.specs.Blocks.{text_size-most, next_place}
use Rattle.matrices.specs.Turned.{turned}
use Rattle.matrices.proofs.Putting.{matrices-none, matrices-kept, matrices-next}
use Rattle.matrices.proofs.line.RowsTwice.put_text.Goals.{At-loop-k, Start}
use Rattle.matrices.proofs.line.RowsTwice.put_text.Goals as goal

room : (s : Start) → s.args.self.now.n * matrix_size s.args.self.now.n ≤ length s.args.text.now
unfolding text_size
room s = s.requires

room_in_loop : (l : At-loop-k) → l.args.self.now.n * matrix_size l.args.self.now.n ≤ length l.args.text.now
unfolding text_size
room_in_loop l = l.requires

-- the place of a matrix
place : (l : At-loop-k) → l.loop-k.k * l.matrix_size-size.result ≡ l.loop-k.k * matrix_size l.args.self.now.n
place l = ap (λ (x : ℕ). l.loop-k.k * x) l.matrix_size-size.ensures

-- the matrices before one, and that one, are not more than all
within : (l : At-loop-k) → l.loop-k.k * matrix_size l.args.self.now.n ≤ l.args.self.now.n * matrix_size l.args.self.now.n
within l = mul-le-mul l.loop-k.auto.k-end (omega arith)

beyond : (l : At-loop-k) → l.loop-k.k < l.args.self.now.n → l.loop-k.k * matrix_size l.args.self.now.n + matrix_size l.args.self.now.n ≤ l.args.self.now.n * matrix_size l.args.self.now.n
beyond l h =
    let m : l.loop-k.k + 1 ≤ l.args.self.now.n = omega arith in
    let p : (l.loop-k.k + 1) * matrix_size l.args.self.now.n ≤ l.args.self.now.n * matrix_size l.args.self.now.n = mul-le-mul m (omega arith) in
    omega (arith, p, next_place l.loop-k.k (matrix_size l.args.self.now.n))

-- the text keeps its length
kept : (l : At-loop-k) → length l.loop-k.text ≡ length l.args.text.now
kept l =
    matrices-kept l.args.text.now l.args.self.now.n (turned l.args.self.now.n l.args.self.now.rows) (room_in_loop l) l.loop-k.k l.loop-k.text l.loop-k.invariant (within l)

pub loop-k-init : goal.loop-k-init
loop-k-init c =
    matrices-none c.args.text.now c.args.self.now.n (turned c.args.self.now.n c.args.self.now.rows) (room (goal.at.loop-k-init c).Start)

pub overflow_mul-k : goal.overflow_mul-k
overflow_mul-k c =
    omega (arith, place (goal.at.overflow_mul-k c).At-loop-k, text_size-most limit c.args.self.now.n c.loop-k.k c.args.self.now.in_range c.loop-k.auto.k-end)

pub put_matrix-requires : goal.put_matrix-requires
put_matrix-requires c =
    (c.loop-k-test.true, omega (arith, place (goal.at.put_matrix-requires c).At-loop-k, kept (goal.at.put_matrix-requires c).At-loop-k, beyond (goal.at.put_matrix-requires c).At-loop-k c.loop-k-test.true, room (goal.at.put_matrix-requires c).Start))

pub loop-k-preserved : goal.loop-k-preserved
loop-k-preserved c =
    matrices-next c.args.text.now c.args.self.now.n (turned c.args.self.now.n c.args.self.now.rows) (room (goal.at.loop-k-preserved c).Start) c.loop-k.k c.loop-k.text c.loop-k.invariant (within (goal.at.loop-k-preserved c).At-loop-k) c.put_matrix.new.text
    (c.put_matrix.ensures ∙ ap (λ (x : ℕ). pasted c.loop-k.text x (matrix_bytes c.args.self.now.n (turned c.args.self.now.n c.args.self.now.rows c.loop-k.k))) (place (goal.at.loop-k-preserved c).At-loop-k))

pub shape_of-text : goal.shape_of-text
shape_of-text c = kept (goal.at.shape_of-text c).At-loop-k

pub returns : goal.returns
unfolding text_bytes
returns c =
    let e : c.loop-k.k ≡ c.args.self.now.n = omega arith in
    rw e at c.loop-k.invariant
