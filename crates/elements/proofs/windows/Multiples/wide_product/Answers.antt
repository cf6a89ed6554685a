-- `elements::windows::Multiples::wide_product` meets its contract: the goals that the check leaves. Its loop is told in `Invariants.antt`. Assumes nothing.
use Rattle.std.proofs.Common.{◌≡◌, ◌+◌, ◌*◌, ◌≤◌, arith, pow_pos}
use Rattle.elements.specs.Windows.{wide-first, wide_step, wide-last}
use Rattle.elements.proofs.windows.Multiples.wide_product.Goals as goal

pub power-mask-requires : goal.power-mask-requires
power-mask-requires c = omega (arith, c.requires)

pub overflow_sub-mask : goal.overflow_sub-mask
overflow_sub-mask c = omega (arith, c.power-mask.ensures, pow_pos c.args.self.now.n)

pub loop-j-init : goal.loop-j-init
loop-j-init c = let m = c.args.self.now in λ h. wide-first m.f m.n m.is_degree c.requires m.a c.args.b

pub loop-j-preserved : goal.loop-j-preserved
loop-j-preserved c =
    let m = c.args.self.now in
    let next : 16 * c.loop-j.j + 16 ≡ 16 * (c.loop-j.j + 1) = omega arith in
    λ h.
    let more =
    wide_step m.f m.n m.is_degree c.requires m.a m.products m.held c.args.b (16 * c.loop-j.j) c.power-mask.result c.loop-j.low c.loop-j.high
    c.four_windows-part.result h c.if-n-k.false c.power-mask.ensures c.four_windows-part.ensures (c.loop-j.invariant h) in
    rw next at more

pub returns-then-n-k : goal.returns-then-n-k
returns-then-n-k c =
    let m = c.args.self.now in
    λ h. wide-last m.f m.n m.is_degree c.requires m.a c.args.b (16 * c.loop-j.j) c.loop-j.low c.loop-j.high h c.if-n-k.true (c.loop-j.invariant h)

pub returns-after-loop-j : goal.returns-after-loop-j
returns-after-loop-j c =
    let m = c.args.self.now in
    let all : m.n ≤ 16 * c.loop-j.j = omega (arith, c.requires, c.loop-j-test.false) in
    λ h. wide-last m.f m.n m.is_degree c.requires m.a c.args.b (16 * c.loop-j.j) c.loop-j.low c.loop-j.high h all (c.loop-j.invariant h)
