-- `normal::power::rotated_by` meets its contract: the goals that the check leaves. Its loop is told in `Invariants.antt`. Assumes nothing.
use mathlib.Core.Path.{◌≡◌, refl, ap, ◌∙◌}
use Prim.Native.Nat.{ℕ, ◌+◌}
use native.Mathlib.Numerals.{add-one}
use native.Mathlib.Omega.{arith}
use Rattle.normal.specs.TableProduct.{rotate, rotated_by}
use Rattle.normal.proofs.Turns.{rotated_by-lt}
use Rattle.normal.proofs.power.rotated_by.Goals as goal

start : (n v : ℕ) → v ≡ rotated_by n 0 v
unfolding rotated_by
start n v = refl

turn : (n i v turned next : ℕ) → turned ≡ rotated_by n i v → next ≡ rotate n turned → next ≡ rotated_by n (i + 1) v
unfolding rotated_by
turn n i v turned next e en = en ∙ rw (e, add-one)

pub loop-init : goal.loop-init
loop-init c = start c.args.n c.args.v

pub rotated-turned-requires : goal.rotated-turned-requires
rotated-turned-requires c = (c.requires.1, rw c.loop.invariant (rotated_by-lt c.args.n c.requires.0 c.loop.counter c.args.v c.requires.2))

pub loop-preserved : goal.loop-preserved
loop-preserved c = turn c.args.n c.loop.counter c.args.v c.loop.turned c.rotated-turned.result c.loop.invariant c.rotated-turned.ensures

pub returns : goal.returns
returns c =
    let e : c.loop.counter ≡ c.args.h = omega arith in
    c.loop.invariant ∙ ap (λ (k : ℕ). rotated_by c.args.n k c.args.v) e
