-- Division in conjugate notation (document 02, §1), sentence by sentence, through the answers of the public calls. `SheetOf f n a sheet` says
-- that the sheet is the one of an accepted f of degree n and a normal element a: what a build that is done wrote (`issued_sheet` in `Demand2`,
-- `build_writes` in `Performed`), and what reading accepts. A number of n bits stands for the element that it converts to. That the calls give
-- these answers: `Demand1`. The three sentences on the power with exponent 2^k-1: `Recursion` in `normal`.
--
--   power-stands_for             the power for k stands for the element's power with exponent 2^k-1
--   inverts                      what the inverse stands for, and that it undoes the number, in both notations
--   divides, only-quotient       "quotient times divisor gives the dividend", and no other number does
--   accepted-inverts, -divides   both for a sheet that reading accepts
--   quotient_is_product          "a quotient is the dividend times the inverse", on any sheet
--   zero-divided                 0 divided by a number is 0, on any sheet
--   ..-same_steps                "On other well-shaped sheets the same steps give the answer."
--   ..-zero_exactly, .._earlier  13 exactly for a number to invert, or a divisor, that is zero, "after 4"
--   inverted_runs, divided_runs  `inverts` and `divides` of the calls themselves: of every run of them (`InverseRun`, `QuotientRun`)
--
-- Assumes nothing.
use Rattle.std.specs.Prelude.{◌≡◌, refl, ◌↔◌, List, [], ◌∷◌, ℕ, ◌-◌, ◌^◌, ◌≤◌, ◌<◌}
use Rattle.std.proofs.Common.{sym, ap, ◌∙◌, inl, inr, ⊎_elim, arith}
use Rattle.gf2.specs.Numbers.{order}
use Rattle.gf2.specs.Poly.{mul_mod}
use Rattle.field.specs.Answers.{multiply_answer}
use Rattle.field.specs.Field.{pow_mod}
use Rattle.refusals.specs.Answers.{refusal_at}
use Rattle.refusals.specs.Verdicts.{Verdict, clear, refuse, first_of}
use Rattle.refusals.specs.Told.{AtZero, Below}
use Rattle.refusals.specs.Telling.{first_found, every_first}
use Rattle.refusals.specs.declared.answer.Refusal.{Refusal}
use Rattle.normal.specs.Powers.{power_of}
use Rattle.sheet.specs.Record.{record_count, conjugate_in, polynomial_in, table_rows_in}
use Rattle.sheet.specs.Orders.{value_order, times_order}
use Rattle.sheet.specs.Answers.{read_answer, to_polynomial, polynomial_answer, through_table, times_answer, inverse_through, inverse_answer, quotient_through, quotient_answer}
use Rattle.sheet.specs.Divided.{inverse_earlier, inverse_of_zero, inverse_steps, zero-quotient}
use Rattle.sheet.proofs.Divided.{quotient_earlier, quotient_by_zero, quotient_steps, divisor-clear, quotient-through, inverse_answered, quotient_answered, power_below, power-element, inverse-below, inverse-element, quotient-below, product-inverse, inverse-product, quotient-product, quotient-alone, one_below, one-element}
use Rattle.sheet.proofs.IssuedLaws.{polynomial_answered, times_answered}
use Rattle.sheet.specs.Sheets.{SheetOf}
use Rattle.sheet.proofs.Through.{product_of}
use Rattle.sheet.specs.declared.answer.Summary.{Summary}
use Rattle.promises.specs.Calls.{Run, inverse, quotient}
use Rattle.promises.specs.Demand1.{inverse_is, quotient_is, times_is, multiply_is}
use Rattle.promises.specs.Demand2.{multiplied, accepted-sheet}
use Rattle.promises.specs.Listed.{OnValue, value-listed}
use Rattle.promises.specs.Performed.{ProductOf, ElementOf, Multiplied, elements}
use Rattle.std.specs.Prelude.{Result, Ok, Err}
use Rattle.refusals.specs.declared.fault.Fault.TheVariants as faults
use Rattle.refusals.specs.declared.fault.Fault.{Fault}
use Rattle.refusals.specs.Verdicts.{fault_number}

-- ---- on every sheet the builder wrote

module _ (f n a : ℕ) (sheet : List ℕ) (s : SheetOf f n a sheet) where
  -- v stands for x, and the power for k of v for x^(2^k-1)
  pub power-stands_for : (v k : ℕ) → v < 2 ^ n → 1 ≤ k
      → (x : ℕ) × (polynomial_answer sheet v ≡ Ok x) × (polynomial_answer sheet (power_of n (table_rows_in sheet) k v) ≡ Ok (pow_mod f n x (2 ^ k - 1)))
  power-stands_for v k h l = (
    to_polynomial sheet v,
    polynomial_answered f n a sheet s v h,
    polynomial_answered f n a sheet s _ (power_below f n a sheet s v h k) ∙ ap Ok (power-element f n a sheet s v h k l),
  )

  unit : (v : ℕ) → 0 < v → (h : v < 2 ^ n) → mul_mod f n (to_polynomial sheet v) (to_polynomial sheet (inverse_through sheet v)) ≡ 1
  unit v p h =
      sym (product_of f n a sheet s v (inverse_through sheet v) h (inverse-below f n a sheet s v h))
      ∙ ap (to_polynomial sheet) (product-inverse f n a sheet s v h p) ∙ one-element f n a sheet s

  -- "The inverse of a non-zero a is a^(2^n-2)": where v stands for the element x, its inverse w stands for y, the power of x with exponent
  -- 2^n-2; x times y is 1 in the polynomial notation; and v times w, either way round, is the number with all n bits set, which stands for 1
  pub inverts : (v : ℕ) → 0 < v → v < 2 ^ n
      → (w x y : ℕ) × (inverse_answer sheet v ≡ Ok w) × (polynomial_answer sheet v ≡ Ok x) × (polynomial_answer sheet w ≡ Ok y)
      × (y ≡ pow_mod f n x (2 ^ n - 2)) × (multiply_answer f x y ≡ Ok 1)
      × (times_answer sheet w v ≡ Ok (2 ^ n - 1)) × (times_answer sheet v w ≡ Ok (2 ^ n - 1)) × (polynomial_answer sheet (2 ^ n - 1) ≡ Ok 1)
  inverts v p h =
      let w : ℕ = inverse_through sheet v in
      let x : ℕ = to_polynomial sheet v in
      let y : ℕ = to_polynomial sheet w in
      let hw = inverse-below f n a sheet s v h in (
        w,
        x,
        y,
        inverse_answered f n a sheet s v p h,
        polynomial_answered f n a sheet s v h,
        polynomial_answered f n a sheet s w hw,
        inverse-element f n a sheet s v h,
        multiplied f n a sheet s x y ∙ ap Ok (unit v p h),
        times_answered f n a sheet s w v hw h ∙ ap Ok (inverse-product f n a sheet s v h p),
        times_answered f n a sheet s v w h hw ∙ ap Ok (product-inverse f n a sheet s v h p),
        polynomial_answered f n a sheet s (2 ^ n - 1) (one_below f n a sheet s) ∙ ap Ok (one-element f n a sheet s),
      )

  -- "On every sheet the builder wrote, quotient times divisor gives the dividend."
  pub divides : (b v : ℕ) → b < 2 ^ n → 0 < v → v < 2 ^ n
      → (q : ℕ) × (quotient_answer sheet b v ≡ Ok q) × (times_answer sheet q v ≡ Ok b)
  divides b v hb p h =
      let q : ℕ = quotient_through sheet b v in (
        q,
        quotient_answered f n a sheet s b v hb p h,
        times_answered f n a sheet s q v (quotient-below f n a sheet s v h b) h ∙ ap Ok (quotient-product f n a sheet s v h p b hb),
      )

  done-same : (x y : ℕ) → ◌≡◌ {A = Result ℕ Refusal} (Ok x) (Ok y) → x ≡ y
  done-same x y e = cc

  pub only-quotient : (b v q : ℕ) → b < 2 ^ n → 0 < v → v < 2 ^ n → q < 2 ^ n → times_answer sheet q v ≡ Ok b → quotient_answer sheet b v ≡ Ok q
  only-quotient b v q hb p h hq e =
      quotient_answered f n a sheet s b v hb p h
      ∙ ap Ok (sym (quotient-alone f n a sheet s v h p b q hb hq (done-same (through_table sheet q v) b (sym (times_answered f n a sheet s q v hq h) ∙ e))))

-- ---- on any sheet

not_refused : (x : ℕ) (r : Refusal) → Ok x ≡ Err r → ⊥
not_refused x r e = let z : ◌≡◌ {A = ℕ} 0 1 = cc in omega arith

-- no rule before 13 has that number
not_thirteen : (m p : ℕ) → OnValue m 13 p → ⊥
not_thirteen m p (inl h) = other h
  where
    other : AtZero (4 ∷ []) 13 p → ⊥
    other (inl e, z) = omega arith
    other (inr e, z) = e
not_thirteen m p (inr (inl h)) = other h
  where
    other : AtZero (7 ∷ []) 13 p → ⊥
    other (inl e, z) = omega arith
    other (inr e, z) = e
not_thirteen m p (inr (inr h)) = other h
  where
    other : Below (8 ∷ 9 ∷ []) m 13 p → ⊥
    other (inl e, z) = omega arith
    other (inr (inl e), z) = omega arith
    other (inr (inr e), z) = e

-- a call that refuses with what is found before 13, with 13 for 0, and is done for what is not 0, refuses with 13 exactly for 0
exactly : (sheet values : List ℕ) (v x : ℕ) (r : Result ℕ Refusal)
    → ((k : Fault) (p : ℕ) → first_of (value_order sheet values) ≡ refuse k p → r ≡ Err (refusal_at k p))
    → (first_of (value_order sheet values) ≡ clear → v ≡ 0 → r ≡ Err (refusal_at faults.ZeroDivisor 0))
    → (first_of (value_order sheet values) ≡ clear → 0 < v → r ≡ Ok x)
    → (r ≡ Err (refusal_at faults.ZeroDivisor 0)) ↔ ((first_of (value_order sheet values) ≡ clear) × (v ≡ 0))
exactly sheet values v x r earlier zero done = (λ e. given (first_of (value_order sheet values)) refl e, λ c. zero c.0 c.1)
  where
    given : (w : Verdict) → first_of (value_order sheet values) ≡ w → r ≡ Err (refusal_at faults.ZeroDivisor 0) → (first_of (value_order sheet values) ≡ clear) × (v ≡ 0)
    given clear c e = (c, ⊎_elim (λ (p : 0 < v). absurd (not_refused x _ (sym (done c p) ∙ e))) (λ (p : v ≤ 0). omega arith) (order 0 v))
    given (refuse k p) c e =
        let same : Err (refusal_at k p) ≡ Err (refusal_at faults.ZeroDivisor 0) = sym (earlier k p c) ∙ e in
        let inner : refusal_at k p ≡ refusal_at faults.ZeroDivisor 0 = cc in
        let number : fault_number k ≡ 13 = ap (λ (x : Refusal). fault_number x.fault) inner in
        let on = every_first (OnValue (record_count sheet)) (value_order sheet values) (fault_number k) p (value-listed sheet values) (first_found (value_order sheet values) k p c) in
        absurd (not_thirteen (record_count sheet) p (rw number at on))

module _ (sheet : List ℕ) (v : ℕ) where
  -- "after 4": what is refused before is told
  pub inverse-refused_earlier : (k : Fault) (p : ℕ) → first_of (value_order sheet (v ∷ [])) ≡ refuse k p → inverse_answer sheet v ≡ Err (refusal_at k p)
  inverse-refused_earlier = inverse_earlier sheet v

  -- "number to invert zero"
  pub inverse-zero_exactly : (inverse_answer sheet v ≡ Err (refusal_at faults.ZeroDivisor 0)) ↔ ((first_of (value_order sheet (v ∷ [])) ≡ clear) × (v ≡ 0))
  inverse-zero_exactly =
      exactly sheet (v ∷ []) v (inverse_through sheet v) (inverse_answer sheet v) (inverse_earlier sheet v) (inverse_of_zero sheet v) (inverse_steps sheet v)

  -- "On other well-shaped sheets the same steps give the answer."
  pub inverse-same_steps : first_of (value_order sheet (v ∷ [])) ≡ clear → 0 < v → inverse_answer sheet v ≡ Ok (inverse_through sheet v)
  inverse-same_steps c p = inverse_steps sheet v c p

module _ (sheet : List ℕ) (b v : ℕ) where
  pub quotient-refused_earlier : (k : Fault) (p : ℕ) → first_of (times_order sheet b v) ≡ refuse k p → quotient_answer sheet b v ≡ Err (refusal_at k p)
  quotient-refused_earlier = quotient_earlier sheet b v

  -- "divisor .. zero"
  pub quotient-zero_exactly : (quotient_answer sheet b v ≡ Err (refusal_at faults.ZeroDivisor 0)) ↔ ((first_of (times_order sheet b v) ≡ clear) × (v ≡ 0))
  quotient-zero_exactly =
      exactly sheet (b ∷ v ∷ []) v (quotient_through sheet b v) (quotient_answer sheet b v) (quotient_earlier sheet b v) (quotient_by_zero sheet b v) (quotient_steps sheet b v)

  module _ (c : first_of (times_order sheet b v) ≡ clear) (p : 0 < v) where
    pub quotient-same_steps : quotient_answer sheet b v ≡ Ok (quotient_through sheet b v)
    quotient-same_steps = quotient_steps sheet b v c p

    -- "a quotient is the dividend times the inverse": what times answers for the dividend and what inverse answers for the divisor
    pub quotient_is_product : (w : ℕ) × (inverse_answer sheet v ≡ Ok w) × (quotient_answer sheet b v ≡ times_answer sheet b w)
    quotient_is_product = (
      inverse_through sheet v,
      inverse_steps sheet v (divisor-clear sheet b v c) p,
      quotient-same_steps ∙ sym (quotient-through sheet b v c),
    )

pub zero-divided : (sheet : List ℕ) (v : ℕ) → first_of (times_order sheet 0 v) ≡ clear → 0 < v → quotient_answer sheet 0 v ≡ Ok 0
zero-divided sheet v c p = quotient_steps sheet 0 v c p ∙ ap Ok (zero-quotient sheet v)

-- ---- for a caller who holds a sheet that reading accepts, and nothing else

module _ (sheet : List ℕ) (t : Summary) (r : read_answer sheet ≡ Ok t) where
  pub accepted-inverts : (v : ℕ) → 0 < v → v < 2 ^ record_count sheet
      → (w x y : ℕ) × (inverse_answer sheet v ≡ Ok w) × (polynomial_answer sheet v ≡ Ok x) × (polynomial_answer sheet w ≡ Ok y)
      × (y ≡ pow_mod (polynomial_in sheet) (record_count sheet) x (2 ^ record_count sheet - 2)) × (multiply_answer (polynomial_in sheet) x y ≡ Ok 1)
      × (times_answer sheet w v ≡ Ok (2 ^ record_count sheet - 1)) × (times_answer sheet v w ≡ Ok (2 ^ record_count sheet - 1))
      × (polynomial_answer sheet (2 ^ record_count sheet - 1) ≡ Ok 1)
  accepted-inverts = inverts (polynomial_in sheet) (record_count sheet) (conjugate_in sheet 0) sheet (accepted-sheet sheet t r)

  pub accepted-divides : (b v : ℕ) → b < 2 ^ record_count sheet → 0 < v → v < 2 ^ record_count sheet
      → (q : ℕ) × (quotient_answer sheet b v ≡ Ok q) × (times_answer sheet q v ≡ Ok b)
  accepted-divides = divides (polynomial_in sheet) (record_count sheet) (conjugate_in sheet 0) sheet (accepted-sheet sheet t r)

-- ---- of the calls themselves

-- what every run of a call returns on a sheet
abbrev pub InverseRun : (sheet : List ℕ) (v : ℕ) (r : Result ℕ Refusal) → Type 0
InverseRun sheet v r = (c : Run inverse) → c.args.0.now ≡ sheet → c.args.1.0 ≡ v → c.result ≡ r

abbrev pub QuotientRun : (sheet : List ℕ) (b v : ℕ) (r : Result ℕ Refusal) → Type 0
QuotientRun sheet b v r = (c : Run quotient) → c.args.0.now ≡ sheet → c.args.1.0 ≡ b → c.args.1.1.0 ≡ v → c.result ≡ r

module _ (f n a : ℕ) (sheet : List ℕ) (s : SheetOf f n a sheet) where
  pub inverted_runs : (v : ℕ) → 0 < v → v < 2 ^ n
      → (w x y : ℕ) × InverseRun sheet v (Ok w) × ElementOf sheet v (Ok x) × ElementOf sheet w (Ok y)
      × (y ≡ pow_mod f n x (2 ^ n - 2)) × Multiplied f x y (Ok 1)
      × ProductOf sheet w v (Ok (2 ^ n - 1)) × ProductOf sheet v w (Ok (2 ^ n - 1)) × ElementOf sheet (2 ^ n - 1) (Ok 1)
  inverted_runs v p h =
      let i = inverts f n a sheet s v p h in (
        i.0,
        i.1,
        i.2,
        λ c es ev. inverse_is c ∙ rw (es, ev) i.3,
        elements sheet v (Ok i.1) i.4,
        elements sheet i.0 (Ok i.2) i.5,
        i.6,
        λ c ef ex ey. multiply_is c ∙ rw (ef, ex, ey) i.7,
        λ c es eu ev. times_is c ∙ rw (es, eu, ev) i.8,
        λ c es eu ev. times_is c ∙ rw (es, eu, ev) i.9,
        elements sheet (2 ^ n - 1) (Ok 1) i.10,
      )

  pub divided_runs : (b v : ℕ) → b < 2 ^ n → 0 < v → v < 2 ^ n → (q : ℕ) × QuotientRun sheet b v (Ok q) × ProductOf sheet q v (Ok b)
  divided_runs b v hb p h =
      let d = divides f n a sheet s b v hb p h in (
        d.0,
        λ c es eb ev. quotient_is c ∙ rw (es, eb, ev) d.1,
        λ c es eq ev. times_is c ∙ rw (es, eq, ev) d.2,
      )
