-- What §6 of document 02 left as it was: a word that is an element gets the answer that it got before, and so does every other, but where
-- it was refused with 4. The answers of before stand here as definitions of their own, so that a reader can compare.
--
--   .._before   what a call answered when 4 stood in its order
--   ..-kept     an operand that is an element gets what it got before
--   .._changed  whatever is answered otherwise was refused with 4
--
-- Assumes nothing.
use Rattle.std.specs.Prelude.{◌≡◌, ◌⊎◌, true, false, ℕ, ◌^◌, ◌≤◌, ◌<◌, length, get_or}
use Rattle.std.proofs.Math.Path.{refl, sym, ap, ap₂}
use Rattle.std.proofs.Common.{◌∙◌, inl, inr, ⊎_elim, arith}
use mathlib.Core.List.{List, [], ◌∷◌, ◌++◌, map, append_assoc}
use Rattle.gf2.specs.Poly.{degree, mul_mod}
use Rattle.gf2.specs.Numbers.{order}
use Rattle.gf2.specs.Remainder.{rem-small}
use Rattle.gf2.specs.Truth.{bool_cases, or_false}
use Rattle.refusals.specs.Answers.{refusal_at, answer_of, left, value_of, checked_of}
use Rattle.refusals.specs.Orders.{first-applies, first_passes, part-refused, part-clear}
use Rattle.refusals.specs.Verdicts.{Rule, Verdict, clear, refuse, first_of}
use Rattle.field.specs.Accepted.{degree_outside}
use Rattle.field.specs.Answers.{element, multiply_answer, square_answer, trace_answer}
use Rattle.field.specs.Field.{trace}
use Rattle.field.specs.Orders.{not_too_large, large_enough, element_large, element-clear}
use Rattle.field.specs.Refusals.{too_large_lem, any_too_large, degree_rule, element_rule, element_order, operand_order, field_order}
use Rattle.rows.specs.Rows.{comb}
use Rattle.sheet.specs.Record.{record_count, polynomial_in, inverse_rows_in}
use Rattle.sheet.specs.Orders.{Small, list_rule, shape_order, value_rules, value_order, list_order, polynomial_list_order}
use Rattle.sheet.specs.Answers.{element_in, to_normal, normal_answer, normal_list_answer, normal_list}
use Rattle.sheet.specs.Lists.{first_large_lem, large_verdict, small_verdict, coordinates-small, map-agree}
use Rattle.sheet.specs.Through.{value-small, values-small, all_small}
use Rattle.promises.specs.Unreduced.{refused-same, verdict_cases}
use Rattle.std.specs.Prelude.{Result, Err}
use Rattle.refusals.specs.declared.fault.Fault.TheVariants as faults
use Rattle.refusals.specs.Answers.{Checked}
use Rattle.refusals.specs.declared.answer.Refusal.{Refusal}
use Rattle.refusals.specs.declared.fault.Fault.{Fault}

-- ---- what the calls answered before §6: "Multiply, square: 1, 4. Trace: 1, 4, 2, 3.", and converting "then 4"

unfoldable pub multiply_before : (f a b : ℕ) → Result ℕ Refusal
multiply_before f a b = value_of (first_of (operand_order f (a ∷ b ∷ []))) (mul_mod f (degree f) a b)

unfoldable pub square_before : (f a : ℕ) → Result ℕ Refusal
square_before f a = value_of (first_of (operand_order f (a ∷ []))) (mul_mod f (degree f) a a)

unfoldable pub trace_before : (f a : ℕ) → Result ℕ Refusal
trace_before f a = value_of (first_of (operand_order f (a ∷ []) ++ field_order f)) (trace f (degree f) a)

unfoldable pub normal_before : (sheet : List ℕ) (y : ℕ) → Result ℕ Refusal
normal_before sheet y = value_of (first_of (value_order sheet (y ∷ []))) (comb (inverse_rows_in sheet) y)

-- "the same, with 11 before 4", in both directions
abbrev pub list_order_before : (sheet from : List ℕ) (room : ℕ) → List Rule
list_order_before sheet from room = shape_order sheet ++ (list_rule (length from) room ∷ value_rules (record_count sheet) 0 from)

unfoldable pub normal_list_answer_before : (sheet from : List ℕ) (room : ℕ) → Checked
normal_list_answer_before sheet from room = checked_of (first_of (list_order_before sheet from room))

unfoldable pub normal_list_before : (sheet from into : List ℕ) → List ℕ
normal_list_before sheet from into = left (first_of (list_order_before sheet from (length into))) (map (comb (inverse_rows_in sheet)) from) into

-- converting from coordinates has that order still
pub coordinates_order : (sheet from : List ℕ) (room : ℕ) → polynomial_list_order sheet from room ≡ list_order_before sheet from room
coordinates_order sheet from room = append_assoc (shape_order sheet) (list_rule (length from) room ∷ []) (value_rules (record_count sheet) 0 from)

-- ---- the same as before, but for 4

-- an order that gave 4 refused, whatever the value
four : (y : ℕ) {v : Verdict} → v ≡ refuse faults.TooLarge 0 → value_of v y ≡ Err (refusal_at faults.TooLarge 0)
unfolding answer_of
four y e = rw e refl

-- 4 stood after 1; whatever stands after it is judged as before where it does not apply
module _ (f : ℕ) (values : List ℕ) (rest : List Rule) (x y : ℕ) where
  operand-kept : any_too_large (degree f) values ≡ false → x ≡ y → value_of (first_of (degree_rule f ∷ rest)) x ≡ value_of (first_of (operand_order f values ++ rest)) y
  operand-kept e same =
      ⊎_elim
      (λ (o : degree_outside f ≡ true). rw (first-applies (degree_rule f) rest o, first-applies (degree_rule f) (element_rule (degree f) values ∷ rest) o) (refused-same faults.DegreeOutside 0 x y))
      (λ (o : degree_outside f ≡ false).
      ap₂ value_of
      (first_passes (degree_rule f) rest o
      ∙ sym (first_passes (degree_rule f) (element_rule (degree f) values ∷ rest) o ∙ first_passes (element_rule (degree f) values) rest e))
      same)
      (bool_cases (degree_outside f))

  operand_changed : (any_too_large (degree f) values ≡ false → x ≡ y)
      → (value_of (first_of (degree_rule f ∷ rest)) x ≡ value_of (first_of (operand_order f values ++ rest)) y) ⊎ (value_of (first_of (operand_order f values ++ rest)) y ≡ Err (refusal_at faults.TooLarge 0))
  operand_changed same =
      ⊎_elim
      (λ (e : any_too_large (degree f) values ≡ true).
      ⊎_elim
      (λ (o : degree_outside f ≡ true).
      inl (rw (first-applies (degree_rule f) rest o, first-applies (degree_rule f) (element_rule (degree f) values ∷ rest) o) (refused-same faults.DegreeOutside 0 x y)))
      (λ (o : degree_outside f ≡ false). inr (four y (first_passes (degree_rule f) (element_rule (degree f) values ∷ rest) o ∙ first-applies (element_rule (degree f) values) rest e)))
      (bool_cases (degree_outside f)))
      (λ (e : any_too_large (degree f) values ≡ false). inl (operand-kept e (same e)))
      (bool_cases (any_too_large (degree f) values))

-- what is not too large is its own remainder
one-element : (f a : ℕ) → any_too_large (degree f) (a ∷ []) ≡ false → element f a ≡ a
one-element f a e = rem-small f (degree f) a (not_too_large (degree f) a (or_false (too_large_lem (degree f) a) false e).0)

two-elements : (f a b : ℕ) → any_too_large (degree f) (a ∷ b ∷ []) ≡ false → mul_mod f (degree f) (element f a) (element f b) ≡ mul_mod f (degree f) a b
two-elements f a b e =
    let p = or_false (too_large_lem (degree f) a) (any_too_large (degree f) (b ∷ [])) e in
    ap₂ (mul_mod f (degree f)) (rem-small f (degree f) a (not_too_large (degree f) a p.0)) (one-element f b p.1)

module _ (f a : ℕ) where
  pub multiply_changed : (b : ℕ) → (multiply_answer f a b ≡ multiply_before f a b) ⊎ (multiply_before f a b ≡ Err (refusal_at faults.TooLarge 0))
  unfolding multiply_answer multiply_before
  multiply_changed b = operand_changed f (a ∷ b ∷ []) [] _ _ (two-elements f a b)

  pub square_changed : (square_answer f a ≡ square_before f a) ⊎ (square_before f a ≡ Err (refusal_at faults.TooLarge 0))
  unfolding square_answer square_before
  square_changed = operand_changed f (a ∷ []) [] _ _ (λ e. ap (λ (x : ℕ). mul_mod f (degree f) x x) (one-element f a e))

  pub trace_changed : (trace_answer f a ≡ trace_before f a) ⊎ (trace_before f a ≡ Err (refusal_at faults.TooLarge 0))
  unfolding trace_answer trace_before
  trace_changed = operand_changed f (a ∷ []) (field_order f) _ _ (λ e. ap (trace f (degree f)) (one-element f a e))

  module _ (ha : a < 2 ^ degree f) where
    pub multiply-kept : (b : ℕ) → b < 2 ^ degree f → multiply_answer f a b ≡ multiply_before f a b
    unfolding multiply_answer multiply_before
    multiply-kept b hb =
        let e = values-small (degree f) a b ha hb in
        operand-kept f (a ∷ b ∷ []) [] _ _ e (two-elements f a b e)

    pub square-kept : square_answer f a ≡ square_before f a
    unfolding square_answer square_before
    square-kept =
        let e = value-small (degree f) a ha in
        operand-kept f (a ∷ []) [] _ _ e (ap (λ (x : ℕ). mul_mod f (degree f) x x) (one-element f a e))

    pub trace-kept : trace_answer f a ≡ trace_before f a
    unfolding trace_answer trace_before
    trace-kept =
        let e = value-small (degree f) a ha in
        operand-kept f (a ∷ []) (field_order f) _ _ e (ap (trace f (degree f)) (one-element f a e))

-- ---- on a sheet

module _ (sheet : List ℕ) where
  own-coordinates : (y : ℕ) → y < 2 ^ record_count sheet → to_normal sheet y ≡ comb (inverse_rows_in sheet) y
  unfolding to_normal element_in
  own-coordinates y h = ap (comb (inverse_rows_in sheet)) (rem-small (polynomial_in sheet) (record_count sheet) y h)

  -- by the shape's verdict: nothing is asked after it any more
  shape-refused : (y : ℕ) (k : Fault) (p : ℕ) → first_of (shape_order sheet) ≡ refuse k p → normal_answer sheet y ≡ normal_before sheet y
  unfolding normal_answer normal_before
  shape-refused y k p e = rw (e, part-refused (shape_order sheet) (element_order (record_count sheet) (y ∷ [])) k p e) (refused-same k p _ _)

  shape-kept : first_of (shape_order sheet) ≡ clear → (y : ℕ) → y < 2 ^ record_count sheet → normal_answer sheet y ≡ normal_before sheet y
  unfolding normal_answer normal_before
  shape-kept shape y h =
      ap₂ value_of
      (shape ∙ sym (part-clear (shape_order sheet) (element_order (record_count sheet) (y ∷ [])) shape ∙ element-clear (record_count sheet) (y ∷ []) (value-small (record_count sheet) y h)))
      (own-coordinates y h)

  pub normal-kept : (y : ℕ) → y < 2 ^ record_count sheet → normal_answer sheet y ≡ normal_before sheet y
  normal-kept y h =
      ⊎_elim
      (λ (e : first_of (shape_order sheet) ≡ clear). shape-kept e y h)
      (λ (r : (k : Fault) × ((p : ℕ) × (first_of (shape_order sheet) ≡ refuse k p))). shape-refused y r.0 r.1.0 r.1.1)
      (verdict_cases (first_of (shape_order sheet)))

  value-four : (y : ℕ) → first_of (value_order sheet (y ∷ [])) ≡ refuse faults.TooLarge 0 → normal_before sheet y ≡ Err (refusal_at faults.TooLarge 0)
  unfolding normal_before
  value-four y e = four (comb (inverse_rows_in sheet) y) e

  pub normal_changed : (y : ℕ) → (normal_answer sheet y ≡ normal_before sheet y) ⊎ (normal_before sheet y ≡ Err (refusal_at faults.TooLarge 0))
  normal_changed y =
      ⊎_elim
      (λ (e : first_of (shape_order sheet) ≡ clear).
      ⊎_elim
      (λ (h : y < 2 ^ record_count sheet). inl (shape-kept e y h))
      (λ (h : 2 ^ record_count sheet ≤ y).
      inr (value-four y (part-clear (shape_order sheet) (element_order (record_count sheet) (y ∷ [])) e ∙ element_large (record_count sheet) (y ∷ []) (rw (large_enough (record_count sheet) y h) refl))))
      (order y (2 ^ record_count sheet)))
      (λ (r : (k : Fault) × ((p : ℕ) × (first_of (shape_order sheet) ≡ refuse k p))). inl (shape-refused y r.0 r.1.0 r.1.1))
      (verdict_cases (first_of (shape_order sheet)))

-- ---- lists on a sheet: what is answered, and what the lent list then holds

module _ (sheet from into : List ℕ) where
  -- the verdict that both orders begin with
  abbrev began : Verdict
  began = first_of (list_order sheet (length from) (length into))

  abbrev fours : List Rule
  fours = value_rules (record_count sheet) 0 from

  abbrev AsBefore : Type 0
  AsBefore = (normal_list_answer sheet from (length into) ≡ normal_list_answer_before sheet from (length into)) × (normal_list sheet from into ≡ normal_list_before sheet from into)

  list-refused : (k : Fault) (p : ℕ) → began ≡ refuse k p → AsBefore
  unfolding normal_list_answer normal_list_answer_before normal_list normal_list_before left
  list-refused k p e =
      let f = sym (ap first_of (coordinates_order sheet from (length into))) ∙ part-refused (list_order sheet (length from) (length into)) fours k p e in
      (rw (e, f) refl, rw (e, f) refl)

  list-elements : began ≡ clear → first_of fours ≡ clear → Small (record_count sheet) from → AsBefore
  unfolding normal_list_answer normal_list_answer_before normal_list normal_list_before left
  list-elements e c small =
      let f = sym (ap first_of (coordinates_order sheet from (length into))) ∙ part-clear (list_order sheet (length from) (length into)) fours e ∙ c in
      (rw (e, f) refl, rw (e, f) (map-agree (to_normal sheet) (comb (inverse_rows_in sheet)) from (λ i h. own-coordinates sheet (get_or from i 0) (small i h))))

  list-four : (i : ℕ) → first_of (polynomial_list_order sheet from (length into)) ≡ refuse faults.TooLarge i → normal_list_answer_before sheet from (length into) ≡ Err (refusal_at faults.TooLarge i)
  unfolding normal_list_answer_before answer_of
  list-four i e = ap checked_of (sym (ap first_of (coordinates_order sheet from (length into))) ∙ e)

  pub list_changed : AsBefore ⊎ ((i : ℕ) × (normal_list_answer_before sheet from (length into) ≡ Err (refusal_at faults.TooLarge i)))
  list_changed =
      ⊎_elim
      (λ (e : began ≡ clear).
      ⊎_elim
      (λ (h : first_large_lem (record_count sheet) 0 from < length from).
      inr (first_large_lem (record_count sheet) 0 from, list-four _ (part-clear (list_order sheet (length from) (length into)) fours e ∙ large_verdict (record_count sheet) 0 from (omega arith))))
      (λ (h : length from ≤ first_large_lem (record_count sheet) 0 from).
      let c = small_verdict (record_count sheet) 0 from (omega arith) in
      inl (list-elements e c (coordinates-small (record_count sheet) 0 from c)))
      (order (first_large_lem (record_count sheet) 0 from) (length from)))
      (λ (r : (k : Fault) × ((p : ℕ) × (began ≡ refuse k p))). inl (list-refused r.0 r.1.0 r.1.1))
      (verdict_cases began)

  pub list-kept : Small (record_count sheet) from → AsBefore
  list-kept small =
      ⊎_elim
      (λ (e : began ≡ clear). list-elements e (all_small (record_count sheet) 0 from small) small)
      (λ (r : (k : Fault) × ((p : ℕ) × (began ≡ refuse k p))). list-refused r.0 r.1.0 r.1.1)
      (verdict_cases began)
