-- What is wrong with the readings that lead astray (document 01, "Readings that lead astray"), one after another.
--
--   even_exponents-refused      a polynomial whose exponents are all even is a square, and gets refusal 2: pairs of two different even
--                               numbers in table 6 of source document 003 are such
--   square_of_nineteen          "x^8+x^2+1 is (x^4+x+1)^2"
--   trace_needed                a normal element has trace 1
--   trace_not_enough            for f = 11 the element 1 has trace 1 and is not normal
--   bound_passed                at n = 2 the complexity 3 is above n^2 - n
--   direction_unseen, -seen     at n = 2 a rotation's direction can't be seen; n = 4 shows it
--   leaders_below               for f = 19 neither 10 nor 11 is a leader, and the search of 10 to 15 finds nothing
--
-- Assumes nothing.
use Rattle.std.specs.Prelude.{◌≡◌, refl, true, false, ℕ, ◌+◌, ◌-◌, ◌*◌, ◌^◌, ◌≤◌, ◌<◌}
use Rattle.std.proofs.Math.Path.{ap}
use Rattle.std.proofs.Common.{◌∙◌, arith}
use borrow.Author.Tests.{le-ltb}
use Rattle.std.specs.Int.Count.{ones, ones_in}
use Rattle.gf2.specs.Bounded.{some, first}
use Rattle.gf2.specs.Degrees.{degree-eq, degree-product}
use Rattle.gf2.specs.Limit.{limit}
use Rattle.gf2.specs.Poly.{◌⊕◌, digits_from, digits, product, spread, degree, reduce, rem, mul_mod, divides, Degree}
use Rattle.gf2.specs.Product.{product-square}
use Rattle.field.specs.Accepted.{degree_outside, divided, strays}
use Rattle.refusals.specs.Answers.{refusal_at, answer_of, checked_of}
use Rattle.refusals.specs.Orders.{first-applies, first_passes}
use Rattle.refusals.specs.Verdicts.{first_of}
use Rattle.field.specs.Answers.{check_answer}
use Rattle.field.specs.Checked.{accepted-irreducible}
use Rattle.field.specs.Divided.{divided-means}
use Rattle.field.specs.Field.{squared, trace, trace_to}
use Rattle.field.specs.Refusals.{too_large_lem, degree_rule, divisor_rule}
use Rattle.rows.specs.Rows.{comb, independent}
use Rattle.normal.proofs.Conjugated.{normal-trace}
use Rattle.normal.specs.Normal.{conjugates_from, conjugates, normal, coordinates, listed, table_rows, complexity}
use Rattle.normal.specs.Rotation.{rotate_back}
use Rattle.normal.specs.TableProduct.{rotate}
use Rattle.search.specs.Answers.{search_answer}
use Rattle.search.specs.Search.{leader, normal_leader, candidate_of, walked, ranged, joined}
use Rattle.search.specs.declared.answer.Search.TheVariants.{Nothing}
use Rattle.sheet.proofs.Issuing.{based-degree, based-two, based-returns, based-free}
use Rattle.sheet.specs.Sheets.{Based}
use Rattle.std.specs.Prelude.{Err}
use Rattle.refusals.specs.declared.fault.Fault.TheVariants as faults

-- ---- "Trusting 003's table 6."

module _ (g i : ℕ) (deg : Degree g i) (pos : 1 ≤ i) where
  square-degree : degree (spread g) ≡ i + i
  square-degree = rw (product-square g) at (degree-eq (product g g) (i + i) (degree-product g g i i deg deg))

  square-divided : divided (spread g) (degree (spread g)) ≡ true
  square-divided =
      (divided-means (spread g) (degree (spread g))).1
      (g, record { m = i; is_degree = deg; from = pos; to = rw square-degree (omega arith); divides = (g, product-square g) })

  pub even_exponents-refused : i + i ≤ limit → check_answer (spread g) ≡ Err (refusal_at faults.Divided 0)
  unfolding check_answer answer_of degree_outside
  even_exponents-refused h =
      ap checked_of
      (first_passes (degree_rule (spread g)) _ (rw (square-degree, le-ltb (i + i) 2 (omega arith), le-ltb limit (i + i) h))
      ∙ first-applies (divisor_rule (spread g)) _ square-divided)

pub square_of_nineteen : (product 19 19 ≡ 2 ^ 8 + 2 ^ 2 + 1) × (spread 19 ≡ 2 ^ 8 + 2 ^ 2 + 1)
unfolding product spread digits digits_from ◌⊕◌
square_of_nineteen = (refl, refl)

-- ---- "Taking trace 1 as enough. It is needed; independence decides."

pub trace_needed : (f n a : ℕ) → Based f n a → trace f n a ≡ 1
trace_needed f n a b =
    normal-trace f n (based-degree f n a b) (based-two f n a b) (based-returns f n a b) a b.below (accepted-irreducible f b.accepted) (based-free f n a b)

pub trace_not_enough : (trace 11 3 1 ≡ 1) × (normal 11 3 1 ≡ false)
unfolding trace trace_to normal independent some conjugates conjugates_from comb mul_mod rem reduce product digits digits_from ◌⊕◌ squared
trace_not_enough = (refl, refl)

-- ---- "Using the upper bound n^2-n of 001's proposition 1: at n = 2 the complexity is 3."

pub bound_passed : 2 * 2 - 2 < complexity (table_rows 7 2 2)
unfolding complexity ones ones_in table_rows listed coordinates first conjugates conjugates_from squared comb mul_mod rem reduce product digits digits_from ◌⊕◌
bound_passed = omega arith

-- ---- "rotating the wrong way"

pub direction_unseen : (rotate 2 1 ≡ rotate_back 2 1) × (rotate 2 2 ≡ rotate_back 2 2)
unfolding rotate rotate_back
direction_unseen = (refl, refl)

pub direction_seen : (rotate 4 1 ≡ 2) × (rotate_back 4 1 ≡ 8)
unfolding rotate rotate_back
direction_seen = (refl, refl)

-- ---- "Taking an element as a leader because no conjugate was met earlier in the range"

pub leaders_below : (leader 19 4 8 ≡ true) × (leader 19 4 9 ≡ true) × (leader 19 4 10 ≡ false) × (leader 19 4 11 ≡ false) × (search_answer 19 10 15 ≡ Nothing)
unfolding search_answer answer_of first_of degree_outside too_large_lem divided strays divides degree leader ranged walked joined candidate_of normal_leader normal independent some squared conjugates conjugates_from comb mul_mod rem reduce product digits digits_from ◌⊕◌
leaders_below = (refl, refl, refl, refl, refl)
