-- Elements that arrive unreduced (document 02, §6), through the answers of the public calls, for every input. The return trip from the
-- polynomial side stands in `Demand2` (`there_and_back`, `lists_there-and-back`); that elements get what they got before, in `Kept`.
--
--   multiply_remainders, square-remainder, trace-remainder   "take any 64-bit operand and answer for its remainder modulo f"
--   normal-remainder, list_remainders                        "conversion from polynomial notation, single or list, does likewise"
--   .._runs                                                  the same of every two runs of a call
--
-- What of this a wrong definition breaks, and what rests on that, stands in `proofs/Unreduced.antt`.
-- Assumes nothing.
use Rattle.std.specs.Prelude.{◌≡◌, ◌⊎◌, true, false, ℕ, length, get_or}
use Rattle.std.proofs.Math.Path.{refl, sym, ap, ap₂}
use Rattle.std.proofs.Common.{◌∙◌, inl, inr}
use Rattle.std.proofs.Math.Logic.{⊎_elim}
use mathlib.Core.List.{List, [], ◌∷◌, map, map-map}
use Rattle.gf2.specs.Poly.{degree, mul_mod, Degree}
use Rattle.gf2.specs.Remainder.{rem-rem}
use Rattle.gf2.specs.Truth.{bool_cases}
use Rattle.refusals.specs.Answers.{answer_of, left, value_of}
use Rattle.refusals.specs.Orders.{first-applies, part-refused}
use Rattle.refusals.specs.Verdicts.{Rule, Verdict, clear, refuse, first_of}
use Rattle.field.specs.Accepted.{degree_outside}
use Rattle.field.specs.Answers.{element, multiply_answer, square_answer, trace_answer}
use Rattle.field.specs.Field.{trace}
use Rattle.field.specs.Orders.{in_range}
use Rattle.field.specs.Refusals.{degree_rule, field_order}
use Rattle.rows.specs.Rows.{comb}
use Rattle.sheet.specs.Record.{record_count, polynomial_in, inverse_rows_in}
use Rattle.sheet.specs.Orders.{shape_order, list_order}
use Rattle.sheet.specs.Answers.{element_in, to_normal, normal_answer, normal_list_answer, normal_list}
use Rattle.sheet.specs.Clear.{polynomial-degree}
use Rattle.sheet.proofs.Clear.{clear-shaped}
use Rattle.sheet.specs.Lists.{map-length, map-agree}
use Rattle.promises.specs.Calls.{Run, multiply, square, list-to-normal}
use Rattle.promises.specs.Calls as calls
use Rattle.promises.specs.Demand1.{multiply_is, square_is, trace_is, list-to-normal_is}
use Rattle.refusals.specs.declared.fault.Fault.{Fault}
use Rattle.refusals.specs.declared.fault.Fault.TheVariants as faults

-- a refusal carries no value
pub refused-same : (k : Fault) (p x y : ℕ) → value_of (refuse k p) x ≡ value_of (refuse k p) y
unfolding answer_of
refused-same k p x y = refl

pub verdict_cases : (v : Verdict) → (v ≡ clear) ⊎ ((k : Fault) × ((p : ℕ) × (v ≡ refuse k p)))
verdict_cases clear = inl refl
verdict_cases (refuse k p) = inr (k, (p, refl))

-- ---- the three field calls

-- what is answered has a modulus, so the value may be rewritten by the laws of remainders
by_degree : (f : ℕ) (rest : List Rule) (x y : ℕ) → (Degree f (degree f) → x ≡ y)
    → value_of (first_of (degree_rule f ∷ rest)) x ≡ value_of (first_of (degree_rule f ∷ rest)) y
by_degree f rest x y e =
    ⊎_elim
    (λ (o : degree_outside f ≡ true). rw (first-applies (degree_rule f) rest o) (refused-same faults.DegreeOutside 0 x y))
    (λ (o : degree_outside f ≡ false). ap (value_of (first_of (degree_rule f ∷ rest))) (e (in_range f (degree f) refl o).is_degree))
    (bool_cases (degree_outside f))

module _ (f a : ℕ) where
  -- a product of unreduced operands is the product of their remainders
  pub multiply_remainders : (b : ℕ) → multiply_answer f a b ≡ multiply_answer f (element f a) (element f b)
  unfolding multiply_answer
  multiply_remainders b =
      by_degree f [] _ _ (λ deg. ap₂ (mul_mod f (degree f)) (sym (rem-rem f (degree f) deg a)) (sym (rem-rem f (degree f) deg b)))

  pub square-remainder : square_answer f a ≡ square_answer f (element f a)
  unfolding square_answer
  square-remainder = by_degree f [] _ _ (λ deg. ap (λ (x : ℕ). mul_mod f (degree f) x x) (sym (rem-rem f (degree f) deg a)))

  pub trace-remainder : trace_answer f a ≡ trace_answer f (element f a)
  unfolding trace_answer
  trace-remainder = by_degree f (field_order f) _ _ (λ deg. ap (trace f (degree f)) (sym (rem-rem f (degree f) deg a)))

-- ---- converting from polynomial notation, on every sheet, whatever polynomial it names

module _ (sheet : List ℕ) (shape : first_of (shape_order sheet) ≡ clear) where
  named-degree : Degree (polynomial_in sheet) (record_count sheet)
  named-degree = polynomial-degree sheet (clear-shaped sheet shape)

  same-coordinates : (word : ℕ) → to_normal sheet word ≡ to_normal sheet (element_in sheet word)
  unfolding to_normal element_in
  same-coordinates word = ap (comb (inverse_rows_in sheet)) (sym (rem-rem (polynomial_in sheet) (record_count sheet) named-degree word))

module _ (sheet : List ℕ) where
  pub normal-remainder : (word : ℕ) → normal_answer sheet word ≡ normal_answer sheet (element_in sheet word)
  unfolding normal_answer
  normal-remainder word =
      ⊎_elim
      (λ (e : first_of (shape_order sheet) ≡ clear). ap (value_of (first_of (shape_order sheet))) (same-coordinates sheet e word))
      (λ (r : (k : Fault) × ((p : ℕ) × (first_of (shape_order sheet) ≡ refuse k p))). rw r.1.1 (refused-same r.0 r.1.0 _ _))
      (verdict_cases (first_of (shape_order sheet)))

  -- a list of words, and what is then written
  pub list_remainders : (from into : List ℕ)
      → (normal_list_answer sheet from (length into) ≡ normal_list_answer sheet (map (element_in sheet) from) (length into))
      × (normal_list sheet from into ≡ normal_list sheet (map (element_in sheet) from) into)
  list_remainders from into = (
    unfold normal_list_answer in rw (map-length (element_in sheet) from) refl,
    unfold normal_list in
        rw (map-length (element_in sheet) from)
        (⊎_elim
        (λ (e : first_of (shape_order sheet) ≡ clear).
        ap (λ (l : List ℕ). left (first_of (list_order sheet (length from) (length into))) l into)
        (map-agree (to_normal sheet) (λ w. to_normal sheet (element_in sheet w)) from (λ i h. same-coordinates sheet e (get_or from i 0))
        ∙ sym (map-map (to_normal sheet) (element_in sheet) from)))
        (λ (r : (k : Fault) × ((p : ℕ) × (first_of (shape_order sheet) ≡ refuse k p))).
        rw (part-refused (shape_order sheet) _ r.0 r.1.0 r.1.1) (unfold left in refl))
        (verdict_cases (first_of (shape_order sheet)))),
  )

-- ---- of every two runs: one that is given words, and one that is given their remainders

pub multiply_runs : (c d : Run multiply) → d.args.0 ≡ c.args.0 → d.args.1.0 ≡ element c.args.0 c.args.1.0
    → d.args.1.1.0 ≡ element c.args.0 c.args.1.1.0 → c.result ≡ d.result
multiply_runs c d ef ea eb =
    multiply_is c ∙ multiply_remainders c.args.0 c.args.1.0 c.args.1.1.0 ∙ sym (multiply_is d ∙ rw (ef, ea, eb))

pub square_runs : (c d : Run square) → d.args.0 ≡ c.args.0 → d.args.1.0 ≡ element c.args.0 c.args.1.0 → c.result ≡ d.result
square_runs c d ef ea = square_is c ∙ square-remainder c.args.0 c.args.1.0 ∙ sym (square_is d ∙ rw (ef, ea))

pub trace_runs : (c d : Run calls.trace) → d.args.0 ≡ c.args.0 → d.args.1.0 ≡ element c.args.0 c.args.1.0 → c.result ≡ d.result
trace_runs c d ef ea = trace_is c ∙ trace-remainder c.args.0 c.args.1.0 ∙ sym (trace_is d ∙ rw (ef, ea))

pub list-to-normal_runs : (c d : Run list-to-normal) → d.args.0.now ≡ c.args.0.now
    → d.args.1.0.now ≡ map (element_in c.args.0.now) c.args.1.0.now → d.args.1.1.0.now ≡ c.args.1.1.0.now
    → (c.result ≡ d.result) × (c.exit.1.1.0.now ≡ d.exit.1.1.0.now)
list-to-normal_runs c d es ew ei =
    let r = list_remainders c.args.0.now c.args.1.0.now c.args.1.1.0.now in (
      (list-to-normal_is c).0 ∙ r.0 ∙ sym ((list-to-normal_is d).0 ∙ rw (es, ew, ei)),
      (list-to-normal_is c).1 ∙ r.1 ∙ sym ((list-to-normal_is d).1 ∙ rw (es, ew, ei)),
    )
