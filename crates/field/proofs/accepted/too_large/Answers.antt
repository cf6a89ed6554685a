-- `field::accepted::too_large` meets its contract: the shift is the power of two.
-- Assumes nothing.
use mathlib.Core.Path.{◌≡◌, ap, ◌∙◌}
use Prim.Native.Nat.{ℕ, ◌*◌, ◌%◌, ◌^◌, ◌<◌}
use native.Mathlib.Nat.{one-mul}
use native.Mathlib.Omega.{arith}
use lib.Dec.{leb}
use lib.Pow.{shl_exact}
use Rattle.field.specs.Refusals.{too_large_lem}
use Rattle.field.proofs.accepted.too_large.Goals as goal

power : (n : ℕ) → n < 64 → 1 * 2 ^ n % 2 ^ 64 ≡ 2 ^ n
power n h = shl_exact 1 n 64 (omega arith) (omega arith) ∙ one-mul (2 ^ n)

pub returns : goal.returns
unfolding too_large_lem
returns c = ap (λ (x : ℕ). leb x c.args.a) (power c.args.n c.requires)
