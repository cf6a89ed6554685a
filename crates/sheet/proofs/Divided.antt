-- The laws of `specs/Divided.antt` that a wrong definition breaks, and what rests on them. The head there tells of both files.
-- Assumes nothing.
use Rattle.std.specs.Prelude.{◌≡◌, List, [], ◌∷◌}
use Rattle.std.proofs.Math.Path.{ap}
use Rattle.std.proofs.Common.{◌∙◌, arith}
use Prim.Native.Nat.{ℕ, ◌-◌, ◌^◌, ◌≤◌, ◌<◌}
use Rattle.gf2.specs.Poly.{Degree}
use Rattle.refusals.specs.Answers.{refusal_at, answer_of, value_of}
use Rattle.refusals.specs.Orders.{part-refused, part-clear, parts-clear}
use Rattle.refusals.specs.Verdicts.{Rule, Verdict, clear, refuse, first_of}
use Rattle.field.specs.Checked.{accepted-irreducible}
use Rattle.field.specs.Field.{squared, pow_mod, Irreducible}
use Rattle.field.specs.Refusals.{element_order}
use Rattle.rows.specs.Rows.{Independent}
use Rattle.normal.specs.Normal.{conjugates, table_rows}
use Rattle.normal.specs.TableProduct.{table_product}
use Rattle.normal.specs.Powers.{power_of, inverse_of, quotient_of}
use Rattle.normal.proofs.Recursion.{inverse-lt}
use Rattle.normal.proofs.ConjugateSide.{ones_lt, stands-ones}
use Rattle.normal.proofs.Standing.{powers-lt, power-stands, inverse-stands, inverses_lt, times-inverse, inverse-times, quotient-times, quotient-only, quotients_lt}
use Rattle.sheet.specs.Record.{record_count, table_at, table_rows_in}
use Rattle.sheet.specs.Orders.{shape_order, value_order, zero_rule}
use Rattle.sheet.specs.Answers.{to_polynomial, through_table, times_answer, inverse_through, inverse_answer, quotient_through, quotient_answer}
use Rattle.sheet.specs.Clear.{rows_in-length, table_matrix}
use Rattle.sheet.proofs.ConvertingLaws.{values_judged, value_passes}
use Rattle.sheet.specs.Dividing.{zero-applies, zero-passes}
use Rattle.sheet.proofs.Held.{held-count, table-rows}
use Rattle.sheet.proofs.Issuing.{based-degree, based-two, based-returns, based-free}
use Rattle.sheet.specs.Sheets.{SheetOf}
use Rattle.sheet.specs.Through.{value-small, values-small}
use Rattle.sheet.proofs.Through.{values-clear, element_of}
use Rattle.sheet.specs.Divided.{inverse_steps}
use Rattle.std.specs.Prelude.{Ok, Err}
use Rattle.refusals.specs.declared.fault.Fault.TheVariants as faults
use Rattle.refusals.specs.declared.fault.Fault.{Fault}

-- ---- any sheet: 7, 8, 9 and 4 come first

module _ (sheet : List ℕ) (b v : ℕ) where
  abbrev both : List Rule
  both = value_order sheet (b ∷ v ∷ [])

  pub quotient_earlier : (k : Fault) (p : ℕ) → first_of (value_order sheet (b ∷ v ∷ [])) ≡ refuse k p → quotient_answer sheet b v ≡ Err (refusal_at k p)
  unfolding quotient_answer answer_of
  quotient_earlier k p e = ap (λ (w : Verdict). value_of w (quotient_through sheet b v)) (part-refused both (zero_rule v ∷ []) k p e)

  module _ (c : first_of (value_order sheet (b ∷ v ∷ [])) ≡ clear) where
    -- "divisor .. zero"
    pub quotient_by_zero : v ≡ 0 → quotient_answer sheet b v ≡ Err (refusal_at faults.ZeroDivisor 0)
    unfolding quotient_answer answer_of
    quotient_by_zero e = ap (λ (w : Verdict). value_of w (quotient_through sheet b v)) (part-clear both (zero_rule v ∷ []) c ∙ zero-applies v e)

    -- "On other well-shaped sheets the same steps give the answer."
    pub quotient_steps : 0 < v → quotient_answer sheet b v ≡ Ok (quotient_through sheet b v)
    unfolding quotient_answer answer_of
    quotient_steps p = ap (λ (w : Verdict). value_of w (quotient_through sheet b v)) (part-clear both (zero_rule v ∷ []) c ∙ zero-passes v (λ e. omega arith))

    -- where nothing is refused of a dividend and a divisor, nothing is of the divisor alone
    pub divisor-clear : first_of (value_order sheet (v ∷ [])) ≡ clear
    divisor-clear =
        let j = values_judged sheet b v c in
        value_passes sheet (parts-clear (shape_order sheet) (element_order (record_count sheet) (b ∷ v ∷ [])) c).0 (v ∷ []) (value-small (record_count sheet) v j.2)

    -- "a quotient is the dividend times the inverse": the product of the two is done, and is the quotient
    pub quotient-through : times_answer sheet b (inverse_through sheet v) ≡ Ok (quotient_through sheet b v)
    unfolding times_answer through_table inverse_through quotient_through quotient_of answer_of
    quotient-through =
        let j = values_judged sheet b v c in
        let n : ℕ = record_count sheet in
        let m = table_matrix sheet j.0 in
        let pos : 1 ≤ n = omega (arith, j.0.size.two) in
        let small : inverse_of n (table_rows_in sheet) v < 2 ^ n = inverse-lt n pos (table_rows_in sheet) (rows_in-length sheet j.0 table_at) (λ i h. m.row_lt i) v j.2 in
        let shape = (parts-clear (shape_order sheet) (element_order n (b ∷ v ∷ [])) c).0 in
        ap (λ (w : Verdict). value_of w (table_product n (table_rows_in sheet) b (inverse_of n (table_rows_in sheet) v)))
        (value_passes sheet shape (b ∷ inverse_of n (table_rows_in sheet) v ∷ []) (values-small n b (inverse_of n (table_rows_in sheet) v) j.1 small))

-- ---- the sheet of f and a

module _ (f n a : ℕ) (sheet : List ℕ) (s : SheetOf f n a sheet) where
  ha : a < 2 ^ n
  ha = s.based.below

  deg : Degree f n
  deg = based-degree f n a s.based

  two : 2 ≤ n
  two = based-two f n a s.based

  turns : squared f n n 2 ≡ 2
  turns = based-returns f n a s.based

  free : Independent (conjugates f n a) n
  free = based-free f n a s.based

  irr : Irreducible f
  irr = accepted-irreducible f s.based.accepted

  count : record_count sheet ≡ n
  count = held-count f n a sheet s

  rows : table_rows_in sheet ≡ table_rows f n a
  rows = table-rows f n a sheet s

  -- ---- the calls

  pub inverse_answered : (v : ℕ) → 0 < v → v < 2 ^ n → inverse_answer sheet v ≡ Ok (inverse_through sheet v)
  inverse_answered v p h = inverse_steps sheet v (values-clear f n a sheet s (v ∷ []) (value-small n v h)) p

  pub quotient_answered : (b v : ℕ) → b < 2 ^ n → 0 < v → v < 2 ^ n → quotient_answer sheet b v ≡ Ok (quotient_through sheet b v)
  quotient_answered b v hb p h = quotient_steps sheet b v (values-clear f n a sheet s (b ∷ v ∷ []) (values-small n b v hb h)) p

  -- ---- what powers and inverses stand for

  module _ (v : ℕ) (h : v < 2 ^ n) where
    pub power_below : (k : ℕ) → power_of n (table_rows_in sheet) k v < 2 ^ n
    power_below k = rw rows (powers-lt f n deg two turns a ha free k v h)

    pub power-element : (k : ℕ) → 1 ≤ k → to_polynomial sheet (power_of n (table_rows_in sheet) k v) ≡ pow_mod f n (to_polynomial sheet v) (2 ^ k - 1)
    power-element k l =
        rw (element_of f n a sheet s (power_of n (table_rows_in sheet) k v), element_of f n a sheet s v, rows) (power-stands f n deg two turns a ha free v h k l)

    pub inverse-below : inverse_through sheet v < 2 ^ n
    unfolding inverse_through
    inverse-below = rw (count, rows) (inverses_lt f n deg two turns a ha free v h)

    pub inverse-element : to_polynomial sheet (inverse_through sheet v) ≡ pow_mod f n (to_polynomial sheet v) (2 ^ n - 2)
    unfolding inverse_through
    inverse-element =
        rw (element_of f n a sheet s (inverse_through sheet v), element_of f n a sheet s v, count, rows) (inverse-stands f n deg two turns a ha free v h)

    pub quotient-below : (b : ℕ) → quotient_through sheet b v < 2 ^ n
    unfolding quotient_through
    quotient-below b = rw (count, rows) (quotients_lt f n deg two turns a ha free v h b)

    -- ---- a number, its inverse and its quotients

    module _ (p : 0 < v) where
      pub product-inverse : through_table sheet v (inverse_through sheet v) ≡ 2 ^ n - 1
      unfolding through_table inverse_through
      product-inverse = rw (count, rows) (times-inverse f n deg two turns a ha free v h irr p)

      pub inverse-product : through_table sheet (inverse_through sheet v) v ≡ 2 ^ n - 1
      unfolding through_table inverse_through
      inverse-product = rw (count, rows) (inverse-times f n deg two turns a ha free v h irr p)

      pub quotient-product : (b : ℕ) → b < 2 ^ n → through_table sheet (quotient_through sheet b v) v ≡ b
      unfolding through_table quotient_through
      quotient-product b hb = rw (count, rows) (quotient-times f n deg two turns a ha free v h irr p b hb)

      pub quotient-alone : (b q : ℕ) → b < 2 ^ n → q < 2 ^ n → through_table sheet q v ≡ b → q ≡ quotient_through sheet b v
      unfolding through_table quotient_through
      quotient-alone b q hb hq e = rw (count, rows) (quotient-only f n deg two turns a ha free v h irr p b hb q hq (rw (count, rows) at e))

  -- ---- the number with all n bits set

  pub one_below : 2 ^ n - 1 < 2 ^ n
  one_below = ones_lt f n deg two turns a ha free

  pub one-element : to_polynomial sheet (2 ^ n - 1) ≡ 1
  one-element = element_of f n a sheet s (2 ^ n - 1) ∙ stands-ones f n deg two turns a ha free irr
