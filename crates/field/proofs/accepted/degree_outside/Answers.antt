-- `field::accepted::degree_outside` meets its contract: its two tests are the definition's.
-- Assumes nothing.
use mathlib.Core.Path.{◌≡◌}
use Prim.Native.Nat.{ℕ, ◌≤◌, ◌<◌}
use borrow.Author.Tests.{lt-ltb, le-ltb}
use lib.Dec.{ltb}
use Rattle.gf2.specs.Poly.{degree}
use Rattle.gf2.specs.Limit.{limit}
use Rattle.field.specs.Accepted.{degree_outside}
use Rattle.field.proofs.accepted.degree_outside.Goals as goal

below : (f n : ℕ) → n ≡ degree f → n < 2 → ltb n 2 ≡ degree_outside f
unfolding degree_outside
below f n e h = rw (← e, lt-ltb n 2 h)

above : (f n : ℕ) → n ≡ degree f → 2 ≤ n → ltb limit n ≡ degree_outside f
unfolding degree_outside
above f n e h = rw (← e, le-ltb n 2 h)

pub returns-then-n-lt2 : goal.returns-then-n-lt2
returns-then-n-lt2 c = below c.args.f c.degree_of-n.result c.degree_of-n.ensures c.if-n-lt2.true

pub returns-else-n-lt2 : goal.returns-else-n-lt2
returns-else-n-lt2 c = above c.args.f c.degree_of-n.result c.degree_of-n.ensures c.if-n-lt2.false
