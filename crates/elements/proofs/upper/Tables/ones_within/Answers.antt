-- `elements::upper::Tables::ones_within` meets its contract: the goals that the check leaves. Its loop is told in `Invariants.antt`. Assumes nothing.
use Rattle.std.proofs.Common.{◌≡◌, ℕ, ap₂, ◌+◌, ◌^◌, ◌<◌, ◌∙◌, arith, w64, Fits, rules}
use lib.Count.{ones-le}
use Rattle.gf2.specs.Poly.{mul_mod}
use Rattle.field.specs.Frobenius.{squared_start, squared-lt, squared_turn}
use Rattle.field.specs.Ring.{mul_mod-lt}
use Rattle.normal.proofs.Reference.{turn_degree}
use Rattle.elements.specs.Reference.{through}
use Rattle.elements.specs.Held.{reference_of}
use Rattle.elements.specs.Ones.{ones_none, ones_turn, ones-whole, ones_bounded}
use Rattle.elements.proofs.upper.Tables.ones_within.Goals.{After-row_through-row, After-square-c, At-loop-i}
use Rattle.elements.proofs.upper.Tables.ones_within.Goals as goal

pub new-ys-requires : goal.new-ys-requires
new-ys-requires c =
    let s = c.args.self.now.modulus.of_field in
    (omega (arith, s.most), s.is_degree, c.requires.0)

pub invariant_of-turns : goal.invariant_of-turns
invariant_of-turns c = omega (arith, c.args.self.now.modulus.of_field.most)

pub new-rs-requires : goal.new-rs-requires
new-rs-requires c =
    let s = c.args.self.now.modulus.of_field in
    (omega (arith, s.most), rw c.modulus.ensures (turn_degree _ (omega (arith, s.two))), c.requires.1.0)

pub loop-i-init : goal.loop-i-init
loop-i-init c =
    let t = c.args.self.now in
    (omega arith, squared_start t.modulus.f t.modulus.n c.args.y, ones_none t.modulus.f t.modulus.n c.args.y)

pub returns-then-bound-count : goal.returns-then-bound-count
returns-then-bound-count c =
    let t = c.args.self.now in
    ones_bounded t.modulus.f t.modulus.n t.reference.now.sums (reference_of t) c.args.y c.requires.0 c.args.r c.requires.1.1
    c.loop-i.i c.args.bound c.loop-i.count c.loop-i.auto.i-end c.loop-i.invariant.2 c.if-bound-count.true

conjugate-lt : (l : At-loop-i) → l.loop-i.c < 2 ^ l.args.self.now.modulus.n
conjugate-lt l =
    let t = l.args.self.now in
    rw l.loop-i.invariant.1 (squared-lt t.modulus.f t.modulus.n t.modulus.of_field.is_degree l.loop-i.i l.args.y l.requires.0)

pub square-c-requires : goal.square-c-requires
square-c-requires c = rw c.args.self.now.of_squares.1 (conjugate-lt (goal.at.square-c-requires c).At-loop-i)

-- the squares are modulo the same f
square_is : (t : After-square-c) → t.square-c.result ≡ mul_mod t.args.self.now.modulus.f t.args.self.now.modulus.n t.loop-i.c t.loop-i.c
square_is t =
    let same = t.args.self.now.of_squares in
    t.square-c.ensures ∙ ap₂ (λ (f n : ℕ). mul_mod f n t.loop-i.c t.loop-i.c) same.0 same.1

pub overflow_add-i : goal.overflow_add-i
overflow_add-i c = omega (arith, c.loop-i-test.true, c.args.self.now.modulus.of_field.most)

pub row_through-row-requires : goal.row_through-row-requires
row_through-row-requires c =
    let t = c.args.self.now in
    record {
      ys_are = (c.new-ys.ensures.0, c.new-ys.ensures.1);
      rs_are = (c.new-rs.ensures.0 ∙ c.modulus.ensures, c.new-rs.ensures.1);
      element = rw (square_is (goal.at.row_through-row-requires c).After-square-c) (mul_mod-lt t.modulus.f t.modulus.n t.modulus.of_field.is_degree c.loop-i.c c.loop-i.c);
    }

-- the row that is made
row_is : (t : After-row_through-row) → t.row_through-row.result ≡ mul_mod (2 ^ t.args.self.now.modulus.n + 1) t.args.self.now.modulus.n (through t.args.self.now.reference.now.sums (mul_mod t.args.self.now.modulus.f t.args.self.now.modulus.n t.args.y t.square-c.result)) t.args.r
row_is t = rw (t.new-ys.ensures.2, t.new-rs.ensures.2) at t.row_through-row.ensures

pub both-count-requires : goal.both-count-requires
both-count-requires c =
    let h : Fits w64 c.row_through-row.result = search rules in
    (omega (arith, c.loop-i-test.true, c.args.self.now.modulus.of_field.most), ones-le 64 c.row_through-row.result h.fits)

pub overflow_add-count : goal.overflow_add-count
overflow_add-count c =
    omega (arith, c.loop-i-test.true, c.args.self.now.modulus.of_field.most, c.loop-i.invariant.0, c.both-count.ensures.1)

pub loop-i-preserved : goal.loop-i-preserved
loop-i-preserved c =
    let t = c.args.self.now in
    let f = t.modulus.f in
    let n = t.modulus.n in
    let e = squared_turn f n t.modulus.of_field.is_degree c.loop-i.i c.args.y c.loop-i.c c.square-c.result c.loop-i.invariant.1 (square_is (goal.at.loop-i-preserved c).After-square-c) in (
      omega (arith, c.loop-i.invariant.0, c.both-count.ensures.1),
      e,
      ones_turn f n t.reference.now.sums (reference_of t) c.args.y c.requires.0 c.args.r c.requires.1.1
          c.loop-i.i c.square-c.result c.row_through-row.result c.both-count.result c.loop-i.count
          c.loop-i-test.true e (row_is (goal.at.loop-i-preserved c).After-row_through-row) c.both-count.ensures.0 c.loop-i.invariant.2,
    )

pub returns : goal.returns
returns c =
    let t = c.args.self.now in
    ones-whole t.modulus.f t.modulus.n t.reference.now.sums (reference_of t) c.args.y c.requires.0 c.args.r c.requires.1.1
    c.loop-i.i c.args.bound c.loop-i.count c.loop-i.auto.i-end c.loop-i-test.false c.loop-i.invariant.2
