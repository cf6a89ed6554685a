-- `elements::units::Turns::modulus` meets its contract: one bit, moved up by less than a word, is not cut off.
-- Assumes nothing.
use Rattle.std.proofs.Common.{◌≡◌, ℕ, ◌+◌, ◌*◌, ◌%◌, ◌^◌, ◌<◌, ◌≤◌, ap, mod-eq_of_lt, one-mul, arith, pow_mono}
use lib.Pow.{pow-lt}
use Rattle.elements.proofs.units.Turns.modulus.Goals as goal

shifted : (n : ℕ) → n < 64 → (1 * 2 ^ n) % 2 ^ 64 ≡ 2 ^ n
shifted n h = rw one-mul (mod-eq_of_lt (pow-lt {j = 64} h))

pub overflow_add-result : goal.overflow_add-result
overflow_add-result c =
    let h : c.args.self.n ≤ 63 = omega (arith, c.args.self.fits) in
    omega (arith, shifted c.args.self.n c.args.self.fits, pow_mono {j = 63} h)

pub returns : goal.returns
returns c = ap (λ (x : ℕ). x + 1) (shifted c.args.self.n c.args.self.fits)
