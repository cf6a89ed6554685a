-- `gf2::division::remainder` meets its contract: modulo 1 nothing is left, a short polynomial is its own remainder, and any other is
-- moved up and down again.
-- Assumes nothing.
use Rattle.std.proofs.Common.{◌-◌, ◌≤◌, sym, arith, pow_mono}
use Rattle.gf2.specs.Remainder.{rem-small, rem_constant}
use Rattle.gf2.specs.Raised.{rem_lowered}
use Rattle.gf2.proofs.division.remainder.Goals as goal

pub returns-then-n-eq0 : goal.returns-then-n-eq0
returns-then-n-eq0 c = sym (rem_constant c.args.f c.args.n c.requires.1 c.if-n-eq0.true c.args.y)

pub returns-then-width-n : goal.returns-then-width-n
returns-then-width-n c =
    let h : c.args.width ≤ c.args.n = c.if-width-n.true in
    sym (rem-small c.args.f c.args.n c.args.y (omega (arith, pow_mono h, c.requires.2)))

pub returns : goal.returns
returns c =
    rem_lowered c.args.f c.args.n (64 - c.args.n) c.args.y c.raised.result c.requires.1 (omega arith) c.raised.ensures
