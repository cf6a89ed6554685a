-- `gf2::division::raised` meets its contract: the goals that the check leaves. Its loop is told in `Invariants.antt`. Assumes nothing.
use Rattle.std.proofs.Common.{◌≡◌, ℕ, ◌+◌, ◌*◌, ◌^◌, ap, ◌∙◌, arith}
use Rattle.gf2.specs.Poly.{rem}
use Rattle.gf2.specs.Steps.{rem_turn}
use Rattle.gf2.specs.Raised.{raised-degree, rem_fits}
use Rattle.gf2.proofs.division.raised.Goals as goal

pub loop-k-init : goal.loop-k-init
loop-k-init c = rem_fits _ c.args.y c.args.width _ c.requires.3 (omega arith)

pub loop-k-preserved : goal.loop-k-preserved
loop-k-preserved c =
    rem_turn _ 64 (raised-degree c.args.low c.ranges.low.fits) c.args.y c.loop-k._k c.loop-k.r c.times_x-r.result c.loop-k.invariant c.times_x-r.ensures

pub returns : goal.returns
returns c =
    let all : c.loop-k._k ≡ c.args.up = omega arith in
    c.loop-k.invariant ∙ ap (λ (k : ℕ). rem (2 ^ 64 + c.args.low) 64 (c.args.y * 2 ^ k)) all
