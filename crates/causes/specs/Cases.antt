-- The cases of a cause, by the tests that lead to them.
--
--   difference_..                              the first field that differs, by the rows that are right
--   polynomial.., basis_.., sheet..            what lies behind a refusal, by its number
--   built_dependency                           what building a basis hands out of an element that is not normal
--   cause-refused, cause-accepted              the case that a verdict gives
--   right-row                                  the rows of record i of the sheet that f and a give, by the basis that is built
--
-- Assumes nothing.
use Rattle.std.specs.Prelude.{◌≡◌, ◌⊎◌, Result, Ok, Err, is_ok, true, false, List, ℕ, ◌≤◌, ◌<◌, get_or}
use Rattle.std.proofs.Math.Path.{refl}
use Rattle.std.proofs.Common.{sym, ◌∙◌, ⊎_elim, arith}
use borrow.Author.Tests.{eq-eqb, ne_eqb}
use Rattle.refusals.specs.declared.fault.Fault.{Fault}
use Rattle.refusals.specs.declared.fault.Fault.TheVariants as faults
use Rattle.refusals.specs.Verdicts.{fault_number, Verdict, clear, refuse}
use Rattle.refusals.specs.declared.answer.Refusal.{Refusal}
use Rattle.field.specs.Field.{squared}
use Rattle.divisors.specs.Smallest.{smallest_divisor}
use Rattle.normal.specs.Normal.{conjugates, normal, dependency, inverse_rows, table_rows}
use Rattle.normal.specs.Basis.{built_of}
use Rattle.normal.specs.Filling.{padded-at}
use Rattle.normal.specs.Built.{built-ok, built-err}
use Rattle.normal.specs.declared.basis.Basis.{Basis}
use Rattle.sheet.specs.Record.{record_count, conjugate_in, polynomial_in, sheet_bytes}
use Rattle.sheet.specs.Sheets.{Based}
use Rattle.sheet.proofs.Issuing.{based-degree, based-two, based-most, based-free}
use Rattle.sheet.proofs.Written.{conjugate_is, inverse_is, table_is}
use Rattle.sheet.specs.declared.loading.Row.{Row}
use Rattle.causes.specs.Causes.{row_of, first_field_lem, difference_by, difference_of, difference_in, polynomial_cause, basis_cause, sheet_cause, cause_of}
use Rattle.causes.specs.declared.answer.Field.TheVariants as field
use Rattle.causes.specs.declared.answer.Difference.{Difference}
use Rattle.causes.specs.declared.answer.Cause.{Cause}
use Rattle.causes.specs.declared.answer.Cause.TheVariants as cause

pub apart : true ≡ false → ⊥
apart e = let z : ◌≡◌ {A = ℕ} 0 1 = cc in omega arith

-- ---- a record that differs

module _ (i : ℕ) (stored right : Row) where
  pub difference_conjugate : (stored.conjugate ≡ right.conjugate → ⊥) → difference_by i stored right field.Conjugate ≡ difference_of i stored right
  unfolding first_field_lem
  difference_conjugate off = rw (ne_eqb stored.conjugate right.conjugate off)

  module _ (first : stored.conjugate ≡ right.conjugate) where
    pub difference_inverse : (stored.inverse ≡ right.inverse → ⊥) → difference_by i stored right field.Inverse ≡ difference_of i stored right
    unfolding first_field_lem
    difference_inverse off = rw (eq-eqb stored.conjugate right.conjugate first, ne_eqb stored.inverse right.inverse off)

    pub difference_table : stored.inverse ≡ right.inverse → difference_by i stored right field.Table ≡ difference_of i stored right
    unfolding first_field_lem
    difference_table second = rw (eq-eqb stored.conjugate right.conjugate first, eq-eqb stored.inverse right.inverse second)

-- a normal element has a basis
pub built_ok : (f n a : ℕ) → normal f n a ≡ true → {built : Result Basis ℕ} → built ≡ built_of f n a → is_ok built ≡ true
unfolding built_of
built_ok f n a t e = rw (e, t)

-- the rows of the basis that is built are those of the sheet
pub right-row : (f n a i : ℕ) → Based f n a → i < n → {b : Basis} → Ok b ≡ built_of f n a
    → record { conjugate = get_or b.conjugates i 0; inverse = get_or b.inverse i 0; table = get_or b.table i 0 } ≡ row_of (sheet_bytes f n a) i
right-row f n a i d h {b} e =
    let deg = based-degree f n a d in
    let two = based-two f n a d in
    let most = based-most f n a d in
    let free = based-free f n a d in
    rw (
      (built-ok f n a e).1,
      padded-at (conjugates f n a),
      padded-at (inverse_rows f n a),
      padded-at (table_rows f n a),
      conjugate_is f n a deg two most d.below free i h,
      inverse_is f n a deg two most d.below free i h,
      table_is f n a deg two most d.below free i h,
    )

-- ---- behind a refusal

module _ (f n : ℕ) (r : Refusal) where
  pub polynomial-divisor : r.fault ≡ faults.Divided → {s : ℕ} → s ≡ smallest_divisor f → cause.Divisor s ≡ polynomial_cause f n r.fault r.place
  unfolding polynomial_cause
  polynomial-divisor k e = rw (k, e)

  pub polynomial_became : r.fault ≡ faults.Strays → {y : ℕ} → y ≡ squared f n n 2 → cause.Became y ≡ polynomial_cause f n r.fault r.place
  unfolding polynomial_cause
  polynomial_became k e = rw (k, e)

  pub polynomial-alone : (fault_number r.fault ≡ 2 → ⊥) → (fault_number r.fault ≡ 3 → ⊥) → cause.Refused r ≡ polynomial_cause f n r.fault r.place
  unfolding polynomial_cause
  polynomial-alone off k = rw (ne_eqb (fault_number r.fault) 2 off, ne_eqb (fault_number r.fault) 3 k) refl

  module _ (a : ℕ) where
    pub basis_dependency : r.fault ≡ faults.NotNormal → {v : ℕ} → v ≡ dependency f n a → cause.Dependency v ≡ basis_cause f n a r.fault r.place
    unfolding basis_cause
    basis_dependency k e = rw (k, e)

    pub basis_polynomial : (fault_number r.fault ≡ 5 → ⊥) → {c : Cause} → c ≡ polynomial_cause f n r.fault r.place → c ≡ basis_cause f n a r.fault r.place
    unfolding basis_cause
    basis_polynomial k e = rw (ne_eqb (fault_number r.fault) 5 k) e

    -- 1 and 4
    pub basis_alone : (fault_number r.fault ≡ 1) ⊎ (fault_number r.fault ≡ 4) → cause.Refused r ≡ basis_cause f n a r.fault r.place
    basis_alone k =
        let off : (m : ℕ) → (m ≡ 1 → ⊥) → (m ≡ 4 → ⊥) → fault_number r.fault ≡ m → ⊥ = λ m one four e.
        ⊎_elim (λ (h : fault_number r.fault ≡ 1). one (sym e ∙ h)) (λ (h : fault_number r.fault ≡ 4). four (sym e ∙ h)) k in
        basis_polynomial (off 5 (λ e. omega arith) (λ e. omega arith))
        (polynomial-alone (off 2 (λ e. omega arith) (λ e. omega arith)) (off 3 (λ e. omega arith) (λ e. omega arith)))

-- what a dependent element's basis hands out
pub built_dependency : (f n a : ℕ) → normal f n a ≡ false → {set : ℕ} → Err set ≡ built_of f n a → set ≡ dependency f n a
built_dependency f n a t e = (built-err f n a e).1

module _ (sheet : List ℕ) (r : Refusal) where
  pub sheet-differs : r.fault ≡ faults.Differs → {d : Difference} → d ≡ difference_in sheet r.place → cause.Differs d ≡ sheet_cause sheet r.fault r.place
  unfolding sheet_cause
  sheet-differs k e = rw (k, e)

  pub sheet_basis : (fault_number r.fault ≡ 10 → ⊥) → {c : Cause} → c ≡ basis_cause (polynomial_in sheet) (record_count sheet) (conjugate_in sheet 0) r.fault r.place
      → c ≡ sheet_cause sheet r.fault r.place
  unfolding sheet_cause
  sheet_basis k e = rw (ne_eqb (fault_number r.fault) 10 k) e

  -- 7, 8 and 9
  pub sheet-alone : 7 ≤ fault_number r.fault → fault_number r.fault ≤ 9 → cause.Refused r ≡ sheet_cause sheet r.fault r.place
  sheet-alone low high =
      sheet_basis (λ e. omega arith)
      (basis_polynomial (polynomial_in sheet) (record_count sheet) r (conjugate_in sheet 0) (λ e. omega arith)
      (polynomial-alone (polynomial_in sheet) (record_count sheet) r (λ e. omega arith) (λ e. omega arith)))

-- ---- the calls

module _ (behind : Fault → ℕ → Cause) where
  pub cause-refused : {v : Verdict} {r : Refusal} {c : Cause} → v ≡ refuse r.fault r.place → c ≡ behind r.fault r.place → c ≡ cause_of v behind
  unfolding cause_of
  cause-refused e k = rw e k

  pub cause-accepted : {v : Verdict} → v ≡ clear → cause.Accepted ≡ cause_of v behind
  unfolding cause_of
  cause-accepted e = rw e
