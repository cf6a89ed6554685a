-- When f is accepted (document 01, "Two notations"): "its degree n is 2 to 46, no polynomial of degree 1 to n-1 divides it,
-- and x squared n times in a row leaves x modulo f." Each of the three has a test that says where it fails, which is a refusal's condition.
-- Definitions alone.
--
--   degree_outside f   refusal 1
--   divided f n       refusal 2; `divided-means` (in `Divided`) says it for every d
--   strays f n        refusal 3
--   Accepted f        none of them; `check_accepts` (in `Checked`): the check is done exactly for these
--   InRange f n       the degree of f is n, 2 to 46 (`limit`): what is left if refusal 1 is not given
--   Operand f n a     the same, and a is an element: what is left if refusal 4 is not given either
--
-- Assumes nothing.
use Rattle.std.specs.Prelude.{◌≡◌, Bool, false, not, ◌&&◌, ◌||◌, ℕ, ◌^◌, ◌≤◌, ◌<◌, ltb, leb, eqb}
use Rattle.gf2.specs.Poly.{degree, Degree, divides}
use Rattle.gf2.specs.Bounded.{some}
use Rattle.gf2.specs.Limit.{limit}
use Rattle.field.specs.Field.{squared}

-- "degree of f below 2 or above 46, zero polynomial included": the zero polynomial, which has none, counts as degree 0
unfoldable pub degree_outside : (f : ℕ) → Bool
degree_outside f = ltb (degree f) 2 || ltb limit (degree f)

-- "some polynomial of degree 1 to n-1 divides f": these are the numbers from 2 to 2 ^ n - 1
unfoldable pub divided : (f n : ℕ) → Bool
divided f n = some (2 ^ n) (λ d. leb 2 d && divides d f)

-- "repeated squaring n times does not return x": x is the number 2
unfoldable pub strays : (f n : ℕ) → Bool
strays f n = not (eqb (squared f n n 2) 2)

pub record Accepted (f : ℕ) : Type 0 where
  pub in_range : degree_outside f ≡ false
  pub undivided : divided f (degree f) ≡ false
  pub returns : strays f (degree f) ≡ false

pub record InRange (f n : ℕ) : Type 0 where
  pub two : 2 ≤ n
  pub most : n ≤ limit
  pub is_degree : Degree f n

-- "An element of the field of degree n is a number below 2^n."
pub record Operand (f n a : ℕ) : Type 0 where
  pub in_range : InRange f n
  pub small : a < 2 ^ n
