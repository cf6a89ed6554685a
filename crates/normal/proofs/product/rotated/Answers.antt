-- `normal::product::rotated` meets its contract: nothing is shifted out of the word.
-- Assumes nothing.
use mathlib.Core.Path.{◌≡◌, ◌∙◌}
use Prim.Native.Nat.{ℕ, ◌+◌, ◌*◌, ◌/◌, ◌%◌, ◌^◌, ◌≤◌, ◌<◌}
use native.Mathlib.Nat.{one-mul, mod-lt, div-lt_iff_lt-mul}
use native.Mathlib.Omega.{arith}
use lib.Pow.{pow_pos, pow_mono, shl_exact}
use Rattle.normal.specs.TableProduct.{rotate}
use Rattle.normal.proofs.product.rotated.Goals as goal

module _ (n v : ℕ) (small : n < 64) (h : v < 2 ^ n) where
  doubled : v * 2 % 2 ^ 64 ≡ v * 2
  doubled = shl_exact n 1 64 h (omega arith)

  power : 1 * 2 ^ n % 2 ^ 64 ≡ 2 ^ n
  power = shl_exact 1 n 64 (omega arith) (omega arith) ∙ one-mul (2 ^ n)

  turned : v * 2 % 2 ^ 64 % (1 * 2 ^ n % 2 ^ 64) + v * 2 % 2 ^ 64 / 2 ^ n ≡ rotate n v
  unfolding rotate
  turned = rw (doubled, power)

  small-sum : v * 2 % 2 ^ 64 % (1 * 2 ^ n % 2 ^ 64) + v * 2 % 2 ^ 64 / 2 ^ n < 2 ^ 64
  small-sum =
      let m : v * 2 % 2 ^ n < 2 ^ n = mod-lt (v * 2) (pow_pos n) in
      let d : v * 2 / 2 ^ n < 2 = (div-lt_iff_lt-mul (pow_pos n)).1 (omega arith) in
      let top : n ≤ 63 = omega arith in
      rw (doubled, power) (omega (arith, pow_mono top))

pub nonzero_rem-result : goal.nonzero_rem-result
nonzero_rem-result c = rw (power c.args.n c.args.v c.requires.0 c.requires.1) (pow_pos c.args.n)

pub overflow_add-result : goal.overflow_add-result
overflow_add-result c = record { fits = small-sum c.args.n c.args.v c.requires.0 c.requires.1 }

pub returns : goal.returns
returns c = turned c.args.n c.args.v c.requires.0 c.requires.1
