-- Laws of the rotation of n bits, and of the rotation back. In order: what rotating comes to; each undoes the other; bit k of the
-- number rotated is bit k-1 of the number, indices modulo n.
--
--   rotate_back n v   bit i goes to i-1, and bit 0 to n-1
--
-- What of this a wrong definition breaks, and what rests on that, stands in `proofs/Rotation.antt`.
-- Assumes nothing.
use Prim.Native.Nat.{ℕ, ◌+◌, ◌-◌, ◌*◌, ◌/◌, ◌%◌, ◌^◌}

unfoldable pub rotate_back : (n v : ℕ) → ℕ
rotate_back n v = v / 2 + v % 2 * 2 ^ (n - 1)
