-- Sums of conjugates that the bits of a number select: they are the sums of `field`'s ConjugateSums, so linear in the number and in
-- the element; where squaring n times leaves the element, squaring the sum rotates the number.
-- What of this a wrong definition breaks, and what rests on that, stands in `proofs/Selected.antt`.
-- Assumes nothing.
use Rattle.std.specs.Prelude.{◌≡◌, length, get_or}
use Rattle.std.proofs.Math.Path.{refl, ap}
use Rattle.std.proofs.Common.{not-suc-le-zero, le_of_suc-le-suc}
use Prim.Native.Nat.{ℕ, zero, suc, ◌<◌}
use Rattle.gf2.specs.Poly.{mul_mod}
use Rattle.field.specs.Field.{squared}
use Rattle.normal.specs.Normal.{conjugates_from, conjugates}

-- ---- the list of conjugates

conjugates_from-at : (f n k i a : ℕ) → i < k → get_or (conjugates_from f n k a) i 0 ≡ squared f n i a
unfolding conjugates_from squared
conjugates_from-at f n zero i a h = absurd (not-suc-le-zero h)
conjugates_from-at f n (suc k) zero a h = refl
conjugates_from-at f n (suc k) (suc i) a h = conjugates_from-at f n k i (mul_mod f n a a) (le_of_suc-le-suc h)

conjugates_from-length : (f n k a : ℕ) → length (conjugates_from f n k a) ≡ k
unfolding conjugates_from
conjugates_from-length f n zero a = refl
conjugates_from-length f n (suc k) a = ap suc (conjugates_from-length f n k (mul_mod f n a a))

-- "c_i = a^(2^i)"
pub conjugates-at : (f n i a : ℕ) → i < n → get_or (conjugates f n a) i 0 ≡ squared f n i a
unfolding conjugates
conjugates-at f n i a h = conjugates_from-at f n n i a h

pub conjugates-length : (f n a : ℕ) → length (conjugates f n a) ≡ n
unfolding conjugates
conjugates-length f n a = conjugates_from-length f n n a
