-- The refusal table of document 01: the rows that speak of a polynomial and of elements, and the orders of the field calls. "4 leaves the
-- orders of the three field calls" that have operands (document 02, §6); the check of f never had it.
-- Definitions alone.
--
--   .._rule        the rows 1 to 4
--   .._order       the orders of the calls, and three parts of orders:
--   element_order   4 alone
--   operand_order   1, then 4: what every call on a polynomial and candidates or range ends begins with; operands of the field calls
--                  have no 4
--   field_order     2, then 3: what every call that needs an accepted f tests
--
-- Assumes nothing.
use Rattle.std.specs.Prelude.{Bool, false, ◌||◌, List, [], ◌∷◌, ℕ, ◌^◌, leb}
use Rattle.gf2.specs.Poly.{degree}
use Rattle.refusals.specs.declared.fault.Fault.TheVariants as faults
use Rattle.refusals.specs.Verdicts.{Rule}
use Rattle.field.specs.Accepted.{degree_outside, divided, strays}

-- ---- the rows

-- "degree of f below 2 or above 46, zero polynomial included"
abbrev pub degree_rule : (f : ℕ) → Rule
degree_rule f = record { fault = faults.DegreeOutside; place = 0; applies = degree_outside f }

-- "some polynomial of degree 1 to n-1 divides f"
abbrev pub divisor_rule : (f : ℕ) → Rule
divisor_rule f = record { fault = faults.Divided; place = 0; applies = divided f (degree f) }

-- "repeated squaring n times does not return x"
abbrev pub return_rule : (f : ℕ) → Rule
return_rule f = record { fault = faults.Strays; place = 0; applies = strays f (degree f) }

unfoldable pub too_large_lem : (n a : ℕ) → Bool
too_large_lem n a = leb (2 ^ n) a

abbrev pub any_too_large : (n : ℕ) → List ℕ → Bool
any_too_large n [] = false
any_too_large n (a ∷ values) = too_large_lem n a || any_too_large n values

-- "an element, coordinate number or range end is 2^n or more", where the values are no list of the caller's: place 0. Since §6 an element
-- here is a candidate for a basis: "Normal coordinates, candidates and range ends must still be below 2^n."
abbrev pub element_rule : (n : ℕ) → List ℕ → Rule
element_rule n values = record { fault = faults.TooLarge; place = 0; applies = any_too_large n values }

-- ---- the orders

abbrev pub element_order : (n : ℕ) → List ℕ → List Rule
element_order n values = element_rule n values ∷ []

abbrev pub operand_order : (f : ℕ) → List ℕ → List Rule
operand_order f values = degree_rule f ∷ element_order (degree f) values

abbrev pub field_order : (f : ℕ) → List Rule
field_order f = divisor_rule f ∷ return_rule f ∷ []

-- "Multiply, square: 1, 4." without 4
abbrev pub multiply_order : (f : ℕ) → List Rule
multiply_order f = degree_rule f ∷ []

abbrev pub square_order : (f : ℕ) → List Rule
square_order f = degree_rule f ∷ []

-- "Trace: 1, 4, 2, 3." without 4
abbrev pub trace_order : (f : ℕ) → List Rule
trace_order f = degree_rule f ∷ field_order f

-- "Check of f: 1, 2, 3."
abbrev pub check_order : (f : ℕ) → List Rule
check_order f = degree_rule f ∷ field_order f
