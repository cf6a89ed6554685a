-- The polynomials modulo f, of degree n: conjugates and the trace (document 01, "Two notations"), and two notions that their laws need,
-- powers and irreducible polynomials.
-- Definitions alone; the laws stand in the files beside this one.
--
--   squared f n k a   a squared k times in a row: the conjugate c_k of a, where a is below 2 ^ n
--   pow_mod f n a e    the power of a with exponent e; c_k is the one with exponent 2 ^ k, where a is below 2 ^ n (`pow_mod-squared`)
--   trace_to f n k a   the sum of the first k conjugates, where a is below 2 ^ n
--   trace f n a       the sum of all n conjugates, where a is below 2 ^ n
--   Irreducible f     f is no product of two polynomials other than 1
--
-- Assumes nothing.
use Rattle.std.specs.Prelude.{◌≡◌, ◌⊎◌, ℕ, zero, suc}
use Rattle.gf2.specs.Poly.{◌⊕◌, product, mul_mod}

-- "The conjugates of a are c_i = a^(2^i) for i from 0 to n-1", each the square of the one before. c_0 is a as it stands, so a has
-- to be an element, below 2 ^ n.
unfoldable pub squared : (f n k a : ℕ) → ℕ
squared f n zero a = a
squared f n (suc k) a = squared f n k (mul_mod f n a a)

unfoldable pub pow_mod : (f n a e : ℕ) → ℕ
pow_mod f n a zero = 1
pow_mod f n a (suc e) = mul_mod f n a (pow_mod f n a e)

-- the sum of the first k conjugates
unfoldable pub trace_to : (f n k a : ℕ) → ℕ
trace_to f n zero a = 0
trace_to f n (suc k) a = trace_to f n k a ⊕ squared f n k a

-- "The trace is the sum of all n conjugates."
unfoldable pub trace : (f n a : ℕ) → ℕ
trace f n a = trace_to f n n a

-- one of any two factors is 1. It holds of the polynomial 1 too; laws that must leave it out ask for a degree from 1 upward.
pub record Irreducible (f : ℕ) : Type 0 where
  pub only : (a b : ℕ) → product a b ≡ f → (a ≡ 1) ⊎ (b ≡ 1)
