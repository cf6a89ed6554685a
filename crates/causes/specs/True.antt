-- Each cause is true, and smallest where promised so (document 02, §5: "Prove the cause true, and smallest where promised so").
--
--   SmallestDivisor f n d          d has a degree from 1 to n - 1 and divides f, and nothing of degree at least 1 that divides f is smaller
--   FirstDifference sheet rebuilt d   d tells the first field in byte order of the first record that differs, what is stored there and what
--                                  is right
--   divisor_true, became_true, dependency_true, difference_true   what lies behind 2, 3, 5 and 10 is so
--   True sheet c                   what the cause c says of a sheet and of reading's answer for it; `why_true`: the call tells such a cause
--   why-behind, shape-alone        the cause by reading's answer; 7, 8 and 9 have none beyond number and place
--
-- The smallest set of conjugates is `Dependency` in `Rows` of `rows`. Causes of check and build: `Operands`.
-- Assumes nothing.
use Rattle.std.specs.Prelude.{◌≡◌, refl, Bool, true, false, List, ℕ, ◌^◌, ◌≤◌, ◌<◌, eqb}
use Rattle.std.proofs.Common.{sym, ap, ◌∙◌, inl, inr, ⊎_elim, arith, pow_mono, eqb-true, eq-eqb}
use Rattle.std.proofs.lemmas.Bool.{eqb-false}
use Rattle.gf2.specs.Truth.{not_both, not_true}
use Rattle.gf2.specs.Poly.{degree, Degree, Divides}
use Rattle.gf2.specs.Degrees.{degree-eq}
use Rattle.refusals.specs.Verdicts.{fault_number, Verdict, clear, refuse, first_of}
use Rattle.refusals.specs.Answers.{refusal_at, answer_of}
use Rattle.refusals.specs.declared.answer.Refusal.{Refusal}
use Rattle.refusals.specs.Telling.{same_fault, first_found, every_first}
use Rattle.field.specs.Accepted.{divided, strays}
use Rattle.field.specs.Divided.{Divisor}
use Rattle.field.specs.Field.{squared}
use Rattle.divisors.specs.Smallest.{smallest_divisor, smallest-proper, smallest_of_degree}
use Rattle.rows.specs.Rows.{Inverse, Dependency}
use Rattle.rows.proofs.Inverses.{inverse-independent}
use Rattle.rows.proofs.Decision.{inverse-or-dependency}
use Rattle.normal.specs.Normal.{conjugates, normal, dependency}
use Rattle.normal.specs.Coordinates.{dependency_is}
use Rattle.normal.proofs.Coordinates.{normal-means, conjugates_matrix}
use Rattle.sheet.specs.Record.{record_count, record_at, degree_in, row_in, tail_in, conjugate_in, polynomial_in}
use Rattle.sheet.specs.Orders.{Shaped, same, differ_rules, rebuilt_from, read_order}
use Rattle.sheet.specs.Answers.{summary_in, read_answer}
use Rattle.sheet.specs.Answered.{refused_verdict}
use Rattle.sheet.specs.Clear.{columns-lt, polynomial-degree}
use Rattle.sheet.proofs.Issuing.{shaped-based}
use Rattle.sheet.specs.Listed.{OnReading}
use Rattle.sheet.proofs.Listed.{read-listed}
use Rattle.sheet.specs.Sheets.{Based}
use Rattle.sheet.specs.Written.{same_refl}
use Rattle.sheet.specs.declared.loading.Row.{Row}
use Rattle.causes.specs.Causes.{row_of, number_of, first_field_lem, difference_in, field_number, polynomial_cause, basis_cause, sheet_cause, cause_of, why_answer}
use Rattle.causes.specs.Behind.{read-shaped, rebuild-divided, rebuild-strays, rebuild_dependent, rebuild-differs}
use Rattle.causes.specs.Cases.{sheet-alone}
use Rattle.causes.specs.Differing.{Bytes, Differing, differing_first, before-rows, rows_right}
use Rattle.causes.specs.declared.answer.Field.{Field}
use Rattle.causes.specs.declared.answer.Field.TheVariants as field
use Rattle.causes.specs.declared.answer.Difference.{Difference}
use Rattle.causes.specs.declared.answer.Cause.{Cause}
use Rattle.causes.specs.declared.answer.Cause.TheVariants as cause
use Rattle.std.specs.Prelude.{Ok, Err}
use Rattle.refusals.specs.declared.fault.Fault.TheVariants as faults
use Rattle.refusals.specs.declared.fault.Fault.{Fault}

-- ---- what the causes say

pub record SmallestDivisor (f n d : ℕ) : Type 0 where
  pub proper : Divisor f n d
  pub least : (e m : ℕ) → Degree e m → 1 ≤ m → Divides e f → d ≤ e

pub record FirstDifference (sheet rebuilt : List ℕ) (d : Difference) : Type 0 where
  pub record_place : d.place < record_count sheet
  -- the records before it are right
  pub records_before : (j : ℕ) → j < d.place → record_at sheet j ≡ record_at rebuilt j
  -- and so is all before the field in its record
  pub front-before : (degree_in sheet d.place ≡ degree_in rebuilt d.place) × (row_in sheet d.place ≡ row_in rebuilt d.place) × (tail_in sheet d.place ≡ tail_in rebuilt d.place)
  pub fields_before : (c : Field) → field_number c < field_number d.field → number_of c (row_of sheet d.place) ≡ number_of c (row_of rebuilt d.place)
  -- it is not the one rebuilt
  pub record_differs : record_at sheet d.place ≡ record_at rebuilt d.place → ⊥
  -- the stored number is the sheet's, the right one that of the sheet rebuilt, and they differ: in a sheet of bytes, as every one is that is
  -- lent. Lists of other numbers can differ and hold the same
  pub stored_is : d.stored ≡ number_of d.field (row_of sheet d.place)
  pub right_is : d.right ≡ number_of d.field (row_of rebuilt d.place)
  pub differs : Bytes sheet → d.stored ≡ d.right → ⊥

-- ---- each is true

module _ (f n : ℕ) (deg : Degree f n) (two : 2 ≤ n) where
  pub divisor_true : divided f n ≡ true → SmallestDivisor f n (smallest_divisor f)
  divisor_true e =
      let one : 1 ≤ n = omega arith in
      let big : 2 ≤ f = omega (arith, deg.low, pow_mono one) in
      record { proper = smallest-proper f n deg e; least = λ c m dc from v. smallest_of_degree f big c m dc from v }

  pub became_true : strays f n ≡ true → squared f n n 2 ≡ 2 → ⊥
  unfolding strays
  became_true e z = not_both (eqb (squared f n n 2) 2) (eq-eqb (squared f n n 2) 2 z) ((not_true (eqb (squared f n n 2) 2)).0 e)

  pub dependency_true : (a : ℕ) → a < 2 ^ n → normal f n a ≡ false → Dependency (conjugates f n a) n (dependency f n a)
  dependency_true a ha e =
      ⊎_elim
      (λ (i : (inv : List ℕ) × Inverse (conjugates f n a) n inv).
      absurd (not_both (normal f n a) ((normal-means f n a).1 (inverse-independent (conjugates f n a) n i.0 i.1)) e))
      (λ (d : (v : ℕ) × Dependency (conjugates f n a) n v). rw (dependency_is f n a d.0 d.1) d.1)
      (inverse-or-dependency (conjugates f n a) n (conjugates_matrix f n deg a ha).row_lt)

-- ---- a record that differs

-- which field it is, by the rows before it
FirstOf : (stored right : Row) → Field → Type 0
FirstOf stored right field.Conjugate = stored.conjugate ≡ right.conjugate → ⊥
FirstOf stored right field.Inverse = (stored.conjugate ≡ right.conjugate) × (stored.inverse ≡ right.inverse → ⊥)
FirstOf stored right field.Table = (stored.conjugate ≡ right.conjugate) × (stored.inverse ≡ right.inverse)

first_field : (stored right : Row) → FirstOf stored right (first_field_lem stored right)
unfolding first_field_lem FirstOf
first_field stored right = go (eqb stored.conjugate right.conjugate) refl (eqb stored.inverse right.inverse) refl
  where
    go : (b : Bool) → eqb stored.conjugate right.conjugate ≡ b → (c : Bool) → eqb stored.inverse right.inverse ≡ c → FirstOf stored right (first_field_lem stored right)
    go true eb true ec = rw (eb, ec) (eqb-true stored.conjugate right.conjugate eb, eqb-true stored.inverse right.inverse ec)
    go true eb false ec = rw (eb, ec) (eqb-true stored.conjugate right.conjugate eb, eqb-false stored.inverse right.inverse ec)
    go false eb c ec = rw eb (eqb-false stored.conjugate right.conjugate eb)

module _ (sheet : List ℕ) (z : Shaped sheet) (b : Based (polynomial_in sheet) (record_count sheet) (conjugate_in sheet 0))
    (p : ℕ) (e : first_of (differ_rules sheet (rebuilt_from sheet) 0 (record_count sheet)) ≡ refuse faults.Differs p) where
  abbrev stored : Row
  stored = row_of sheet p

  abbrev right : Row
  right = row_of (rebuilt_from sheet) p

  first : Differing sheet (rebuilt_from sheet) 0 (record_count sheet) p
  first = differing_first sheet (rebuilt_from sheet) (record_count sheet) 0 p e

  place-lt : p < record_count sheet
  place-lt = omega (arith, first.below)

  fields_before : (c : Field) → FirstOf stored right c → (k : Field) → field_number k < field_number c → number_of k stored ≡ number_of k right
  unfolding FirstOf field_number number_of
  fields_before field.Conjugate o field.Conjugate h = absurd (omega arith)
  fields_before field.Conjugate o field.Inverse h = absurd (omega arith)
  fields_before field.Conjugate o field.Table h = absurd (omega arith)
  fields_before field.Inverse o field.Conjugate h = o.0
  fields_before field.Inverse o field.Inverse h = absurd (omega arith)
  fields_before field.Inverse o field.Table h = absurd (omega arith)
  fields_before field.Table o field.Conjugate h = o.0
  fields_before field.Table o field.Inverse h = o.1
  fields_before field.Table o field.Table h = absurd (omega arith)

  other_record : record_at sheet p ≡ record_at (rebuilt_from sheet) p → ⊥
  other_record r =
      not_both (same (record_at sheet p) (record_at (rebuilt_from sheet) p)) (ap (λ (l : List ℕ). same (record_at sheet p) l) (sym r) ∙ same_refl (record_at sheet p)) first.other

  -- of bytes, a record whose rows are all right would be the one rebuilt
  field-differs : (c : Field) → FirstOf stored right c → Bytes sheet → number_of c stored ≡ number_of c right → ⊥
  unfolding FirstOf number_of
  field-differs field.Conjugate o bytes t = o t
  field-differs field.Inverse o bytes t = o.1 t
  field-differs field.Table o bytes t = other_record (rows_right sheet z p place-lt b bytes o.0 o.1 t)

  pub difference_true : FirstDifference sheet (rebuilt_from sheet) (difference_in sheet p)
  unfolding difference_in
  difference_true =
      let c : Field = first_field_lem stored right in
      let o : FirstOf stored right c = first_field stored right in
      record {
        record_place = place-lt;
        records_before = λ j h. first.before j (omega arith) h;
        front-before = before-rows sheet z p place-lt b;
        fields_before = fields_before c o;
        record_differs = other_record;
        stored_is = refl;
        right_is = refl;
        differs = field-differs c o;
      }

-- ---- reading

abbrev pub True : (sheet : List ℕ) → Cause → Type 0
True sheet cause.Accepted = read_answer sheet ≡ Ok (summary_in sheet)
True sheet (cause.Refused r) = (read_answer sheet ≡ Err r) × ((7 ≤ fault_number r.fault) × (fault_number r.fault ≤ 9))
True sheet (cause.Divisor d) = (read_answer sheet ≡ Err (refusal_at faults.Divided 0)) × SmallestDivisor (polynomial_in sheet) (record_count sheet) d
True sheet (cause.Became y) =
    (read_answer sheet ≡ Err (refusal_at faults.Strays 0)) × ((y ≡ squared (polynomial_in sheet) (record_count sheet) (record_count sheet) 2) × (y ≡ 2 → ⊥))
True sheet (cause.Dependency v) =
    (read_answer sheet ≡ Err (refusal_at faults.NotNormal 0)) × Dependency (conjugates (polynomial_in sheet) (record_count sheet) (conjugate_in sheet 0)) (record_count sheet) v
True sheet (cause.Differs d) =
    (read_answer sheet ≡ Err (refusal_at faults.Differs d.place))
    × (Based (polynomial_in sheet) (record_count sheet) (conjugate_in sheet 0) × FirstDifference sheet (rebuilt_from sheet) d)

module _ (sheet : List ℕ) where
  abbrev n : ℕ
  n = record_count sheet

  abbrev f : ℕ
  f = polynomial_in sheet

  abbrev a : ℕ
  a = conjugate_in sheet 0

  refuses : (k : Fault) (p : ℕ) → first_of (read_order sheet) ≡ refuse k p → read_answer sheet ≡ Err (refusal_at k p)
  unfolding read_answer answer_of
  refuses k p e = rw e

  behind : (k : Fault) (p : ℕ) → first_of (read_order sheet) ≡ refuse k p → why_answer sheet ≡ sheet_cause sheet k p
  unfolding why_answer cause_of
  behind k p e = rw e

  size : Shaped sheet → degree f ≡ n
  size z = degree-eq f n (polynomial-degree sheet z)

  of_divisor : first_of (read_order sheet) ≡ refuse faults.Divided 0 → True sheet (why_answer sheet)
  unfolding sheet_cause basis_cause polynomial_cause
  of_divisor e =
      let x = read-shaped sheet faults.Divided 0 e (inl (omega arith)) in
      rw (behind faults.Divided 0 e) (refuses faults.Divided 0 e, divisor_true f n (polynomial-degree sheet x.0) x.0.size.two (rw (size x.0) at (rebuild-divided sheet 0 x.1)))

  of_became : first_of (read_order sheet) ≡ refuse faults.Strays 0 → True sheet (why_answer sheet)
  unfolding sheet_cause basis_cause polynomial_cause
  of_became e =
      let x = read-shaped sheet faults.Strays 0 e (inl (omega arith)) in
      rw (behind faults.Strays 0 e) (refuses faults.Strays 0 e, (refl, became_true f n (polynomial-degree sheet x.0) x.0.size.two (rw (size x.0) at (rebuild-strays sheet 0 x.1))))

  of_dependency : first_of (read_order sheet) ≡ refuse faults.NotNormal 0 → True sheet (why_answer sheet)
  unfolding sheet_cause basis_cause
  of_dependency e =
      let x = read-shaped sheet faults.NotNormal 0 e (inl (omega arith)) in
      let two : 2 ≤ n = x.0.size.two in
      rw (behind faults.NotNormal 0 e) (refuses faults.NotNormal 0 e, dependency_true f n (polynomial-degree sheet x.0) two a (columns-lt sheet x.0 0 (omega arith)).1 (rebuild_dependent sheet 0 x.1))

  of_difference : (p : ℕ) → first_of (read_order sheet) ≡ refuse faults.Differs p → True sheet (why_answer sheet)
  unfolding sheet_cause difference_in
  of_difference p e =
      let x = read-shaped sheet faults.Differs p e (inr (omega arith)) in
      let d = rebuild-differs sheet p x.1 in
      let b = shaped-based sheet x.0 d.0 in
      rw (behind faults.Differs p e) (refuses faults.Differs p e, (b, difference_true sheet x.0 b p d.1))

  -- what lies behind reading's refusal
  pub why-behind : (r : Refusal) → read_answer sheet ≡ Err r → why_answer sheet ≡ sheet_cause sheet r.fault r.place
  unfolding read_answer
  why-behind r e = behind r.fault r.place (refused_verdict (first_of (read_order sheet)) (summary_in sheet) e)

  -- 7, 8 and 9 have no cause beyond their number and place
  pub shape-alone : (r : Refusal) → read_answer sheet ≡ Err r → 7 ≤ fault_number r.fault → fault_number r.fault ≤ 9 → why_answer sheet ≡ cause.Refused r
  shape-alone r e low high = why-behind r e ∙ sym (sheet-alone sheet r low high)

  of_shape : (k : Fault) (p : ℕ) → 7 ≤ fault_number k → fault_number k ≤ 9 → first_of (read_order sheet) ≡ refuse k p → True sheet (why_answer sheet)
  of_shape k p low high e = rw (shape-alone (refusal_at k p) (refuses k p e) low high) (refuses k p e, (low, high))

  pub why_true : True sheet (why_answer sheet)
  why_true = go (first_of (read_order sheet)) refl
    where
      placed : (k : Fault) (p : ℕ) → OnReading (record_count sheet) (fault_number k) p → first_of (read_order sheet) ≡ refuse k p → True sheet (why_answer sheet)
      placed k p (inl (inl h, q)) e = of_divisor (rw (same_fault k faults.Divided h, q) at e)
      placed k p (inl (inr (inl h), q)) e = of_became (rw (same_fault k faults.Strays h, q) at e)
      placed k p (inl (inr (inr (inl h)), q)) e = of_dependency (rw (same_fault k faults.NotNormal h, q) at e)
      placed k p (inl (inr (inr (inr h)), q)) e = absurd h
      placed k p (inr (inl (inl h, q))) e = of_difference p (rw (same_fault k faults.Differs h) at e)
      placed k p (inr (inl (inr h, q))) e = absurd h
      placed k p (inr (inr (inl (inl h, q)))) e = of_shape k p (omega arith) (omega arith) e
      placed k p (inr (inr (inl (inr h, q)))) e = absurd h
      placed k p (inr (inr (inr (inl h, q)))) e = of_shape k p (omega arith) (omega arith) e
      placed k p (inr (inr (inr (inr (inl h), q)))) e = of_shape k p (omega arith) (omega arith) e
      placed k p (inr (inr (inr (inr (inr h), q)))) e = absurd h

      accepted : first_of (read_order sheet) ≡ clear → True sheet (why_answer sheet)
      accepted e =
          let w : why_answer sheet ≡ cause.Accepted = unfold why_answer cause_of in rw e in
          rw w (unfold read_answer answer_of in rw e)

      go : (v : Verdict) → first_of (read_order sheet) ≡ v → True sheet (why_answer sheet)
      go clear e = accepted e
      go (refuse k p) e = placed k p (every_first (OnReading n) (read_order sheet) (fault_number k) p (read-listed sheet) (first_found (read_order sheet) k p e)) e
