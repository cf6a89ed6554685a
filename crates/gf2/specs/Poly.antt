-- Polynomials over the two-element field, as numbers: bit i of a number is the coefficient of x ^ i
-- (document 01, "Two notations"). Definitions alone; their laws stand in the files beside this one.
--
--   a ⊕ b             the sum
--   product a b       the product
--   Degree a n        the degree of a is n; `degree a` computes it
--   Element f n a     f has degree n, and a is an element: what functions ask of a modulus and an operand
--   rem f n a         the remainder of a modulo f, of degree n
--   mul_mod f n a b    the product modulo f
--   spread a          each coefficient of a moved from place i to place 2 * i
--   Divides d a       a is a multiple of d; `divides d a` tests it
--
-- n is the degree of f throughout, handed on beside f so that no law has to compute it.
-- Assumes nothing.
use Rattle.std.specs.Prelude.{◌≡◌, ℕ, zero, suc, ◌+◌, ◌-◌, ◌*◌, ◌/◌, ◌%◌, ◌^◌, ◌<◌, ◌≤◌, Bool, cond, ◌==◌, bit_xor, nat_lt}

infixl 63 ◌⊕◌
-- "Addition is exclusive or."
unfoldable pub ◌⊕◌ : ℕ → ℕ → ℕ
a ⊕ b = bit_xor a b

-- One recursion over the binary digits of a number serves all that follows: `digits z s 0` is z, and at any other a it is
-- `s (a % 2) (digits z s (a / 2))`. `digits_from` counts the digits still to go, for which a itself is enough.
unfoldable pub digits_from : (z : ℕ) (s : ℕ → ℕ → ℕ) → ℕ → ℕ → ℕ
digits_from z s zero a = z
digits_from z s (suc k) zero = z
digits_from z s (suc k) (suc a) = s (suc a % 2) (digits_from z s k (suc a / 2))

unfoldable pub digits : (z : ℕ) (s : ℕ → ℕ → ℕ) → ℕ → ℕ
digits z s a = digits_from z s a a

-- "Multiplication is that of polynomials over the two-element field": the low coefficient of a times b, and x times the
-- product of the rest of a and b.
unfoldable pub product : (a b : ℕ) → ℕ
product a b = digits 0 (λ d r. d * b ⊕ r * 2) a

-- the degree of a is n: its highest coefficient is that of x ^ n
pub record Degree (a n : ℕ) : Type 0 where
  pub low : 2 ^ n ≤ a
  pub high : a < 2 ^ (n + 1)

-- "An element of the field of degree n is a number below 2^n": modulo any f of degree n
pub record Element (f n a : ℕ) : Type 0 where
  pub is_degree : Degree f n
  pub below : a < 2 ^ n

-- one less than the number of binary digits of a; 0 at the zero polynomial, which has no degree
unfoldable pub degree : ℕ → ℕ
degree a = digits 0 (λ d r. r + 1) a - 1

-- "reduced modulo f", where no coefficient of y stands above that of x ^ n: that one, if it is there, is taken away with f
unfoldable pub reduce : (f n y : ℕ) → ℕ
reduce f n y = cond (nat_lt y (2 ^ n)) y (y ⊕ f)

-- "reduced modulo f" in general: long division, which brings down the coefficients of a from the highest
unfoldable pub rem : (f n a : ℕ) → ℕ
rem f n a = digits 0 (λ d r. reduce f n (r * 2 + d)) a

-- multiplication modulo f, which may be reducible: the product, "reduced modulo f"
unfoldable pub mul_mod : (f n a b : ℕ) → ℕ
mul_mod f n a b = rem f n (product a b)

-- "entry b carrying bit i of b at bit 2i"
unfoldable pub spread : ℕ → ℕ
spread a = digits 0 (λ d r. r * 4 + d) a

-- d divides a: a is some q times d
abbrev pub Divides : (d a : ℕ) → Type 0
Divides d a = (q : ℕ) × (product q d ≡ a)

-- the same as a test, for a d other than 0: the remainder is 0
unfoldable pub divides : (d a : ℕ) → Bool
divides d a = rem d (degree d) a == 0
