-- `normal::grade::complexity_of` meets its contract: the goals that the check leaves. Its loop is told in `Invariants.antt`. Assumes nothing.
use Rattle.std.proofs.Common.{rules, ◌<◌, take, ℕ, ◌+◌, length, refl, sym, ap, ◌∙◌, get_or, Fits, w64}
use native.Mathlib.Omega.{arith}
use lib.Count.{ones, ones-le}
use Rattle.normal.specs.Normal.{complexity}
use Rattle.normal.specs.Turns.{complexity_turn}
use Rattle.normal.proofs.grade.complexity_of.Goals as goal

pub loop-row-init : goal.loop-row-init
unfolding complexity
loop-row-init c = (omega arith, refl)

pub loop-row-preserved : goal.loop-row-preserved
loop-row-preserved c =
    let rows = take c.args.n c.args.rows in
    let i = c.loop-row.row-index in
    let word : Fits w64 (get_or rows i 0) = search rules in
    let h : i < length rows = search rules in
    (omega (arith, ones-le 64 (get_or rows i 0) word.fits), ap (λ (k : ℕ). k + ones (get_or rows i 0)) c.loop-row.invariant.1 ∙ sym (complexity_turn rows i h))
