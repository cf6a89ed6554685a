-- `gf2::multiplication::multiply` meets its contract. The invariant, at the top of the word: the sum is the product of a and the
-- coefficients of b that were taken; the next of them stands at the top of the rest, and what it adds is made. Assumes nothing.
use Rattle.std.proofs.Common.{◌≡◌, ◌+◌, ◌-◌, ◌*◌, ◌/◌, ◌%◌, ◌^◌}
use Rattle.gf2.specs.Poly.{rem, mul_mod}
use Rattle.gf2.proofs.multiplication.multiply.Given as goal

abbrev pub invariant-loop-taken : goal.invariant-loop-taken
invariant-loop-taken l =
    (l.rest ≡ rem l.f l.n l.b * 2 ^ (64 - (l.n - l._taken)) % 2 ^ 64)
    × (l.added ≡ l.rest / 2 ^ 63 * l.high)
    × (l.sum ≡ mul_mod (2 ^ 64 + l.low) 64 l.high (rem l.f l.n l.b / 2 ^ (l.n - l._taken)))
