-- Laws of the shape conditions: what each test of the code gives, the walk over the records, and what a clear shape leaves.
-- What of this a wrong definition breaks, and what rests on that, stands in `proofs/ShapeLaws.antt`.
-- Assumes nothing.
use Rattle.std.specs.Prelude.{◌≡◌, true, false, not, ◌||◌, List, ℕ, ◌-◌, ◌/◌, ◌%◌, ◌≤◌, ◌<◌, ltb, eqb, length}
use Rattle.std.proofs.Math.Path.{sym}
use Rattle.std.proofs.Common.{arith}
use borrow.Author.Tests.{lt-ltb, le-ltb, eq-eqb, ne_eqb, ltb-false, eqb-true, not-false}
use Rattle.gf2.specs.Limit.{limit}
use Rattle.refusals.specs.Verdicts.{clear, refuse, first_of}
use Rattle.field.specs.Refusals.{too_large_lem}
use Rattle.refusals.specs.Orders.{first-applies, first_passes}
use Rattle.gf2.specs.Truth.{or_false}
use Rattle.sheet.specs.Record.{record_size, record_count, degree_in, row_in, tail_in, conjugate_in, inverse_in, table_in}
use Rattle.sheet.specs.Orders.{bad_length, misplaced, oversized, record_rules, shape_order, length_rule, Sized}
use Rattle.refusals.specs.declared.fault.Fault.TheVariants as faults

-- ---- refusal 7

pub length_odd : (size : ℕ) → (size % record_size ≡ 0 → ⊥) → true ≡ bad_length size
unfolding bad_length
length_odd size e = sym (rw (ne_eqb (size % record_size) 0 e))

pub length-few : (size : ℕ) → size % record_size ≡ 0 → size / record_size < 2 → ltb (size / record_size) 2 ≡ bad_length size
unfolding bad_length
length-few size e h = rw (eq-eqb (size % record_size) 0 e, lt-ltb (size / record_size) 2 h)

pub length_many : (size : ℕ) → size % record_size ≡ 0 → 2 ≤ size / record_size → ltb limit (size / record_size) ≡ bad_length size
unfolding bad_length
length_many size e h = rw (eq-eqb (size % record_size) 0 e, le-ltb (size / record_size) 2 h)

-- what a good length is
pub good_length : (sheet : List ℕ) → bad_length (length sheet) ≡ false → Sized sheet
unfolding bad_length
good_length sheet e =
    let size : ℕ = length sheet in
    let s = or_false (not (eqb (size % record_size) 0) || ltb (size / record_size) 2) (ltb limit (size / record_size)) e in
    let t = or_false (not (eqb (size % record_size) 0)) (ltb (size / record_size) 2) s.0 in
    let z : size % record_size ≡ 0 = eqb-true (size % record_size) 0 (not-false (eqb (size % record_size) 0) t.0) in
    record {
      whole = omega arith;
      two = ltb-false (size / record_size) 2 t.1;
      most = ltb-false limit (size / record_size) s.1;
    }

-- ---- refusal 8

module _ (sheet : List ℕ) (i n tail d r t : ℕ) (en : n ≡ record_count sheet) (et : tail ≡ tail_in sheet 0) where
  pub degree-differs : d ≡ degree_in sheet i → (d ≡ n → ⊥) → true ≡ misplaced sheet i
  unfolding misplaced
  degree-differs ed e = sym (rw (← ed, ← en, ne_eqb d n e))

  module _ (ed : d ≡ degree_in sheet i) (p : d ≡ n) where
    pub row-differs : r ≡ row_in sheet i → (r ≡ i → ⊥) → true ≡ misplaced sheet i
    unfolding misplaced
    row-differs er e = sym (rw (← ed, ← en, eq-eqb d n p, ← er, ne_eqb r i e))

    pub tail_decides : r ≡ row_in sheet i → r ≡ i → t ≡ tail_in sheet i → not (eqb t tail) ≡ misplaced sheet i
    unfolding misplaced
    tail_decides er q ti = rw (← ed, ← en, eq-eqb d n p, ← er, eq-eqb r i q, ← ti, ← et)

-- ---- refusal 9

module _ (sheet : List ℕ) (i n : ℕ) (en : n ≡ record_count sheet) where
  pub tail_large : true ≡ too_large_lem n (tail_in sheet i) → true ≡ oversized sheet i
  unfolding oversized
  tail_large e = sym (rw (← en, ← e))

  module _ (p : too_large_lem n (tail_in sheet i) ≡ false) where
    pub conjugate_large : true ≡ too_large_lem n (conjugate_in sheet i) → true ≡ oversized sheet i
    unfolding oversized
    conjugate_large e = sym (rw (← en, p, ← e))

    module _ (q : too_large_lem n (conjugate_in sheet i) ≡ false) where
      pub inverse_large : true ≡ too_large_lem n (inverse_in sheet i) → true ≡ oversized sheet i
      unfolding oversized
      inverse_large e = sym (rw (← en, p, q, ← e))

      pub table-decides : too_large_lem n (inverse_in sheet i) ≡ false → too_large_lem n (table_in sheet i) ≡ oversized sheet i
      unfolding oversized
      table-decides r = rw (← en, p, q, r)

-- ---- the walk over the records

pub walk-done : (sheet : List ℕ) (i n : ℕ) → n ≤ i → first_of (record_rules sheet i (n - i)) ≡ clear
unfolding record_rules first_of
walk-done sheet i n h = let z : n - i ≡ 0 = omega arith in rw z

pub shape-short : (sheet : List ℕ) → bad_length (length sheet) ≡ true → first_of (shape_order sheet) ≡ refuse faults.BadLength 0
shape-short sheet e = first-applies (length_rule sheet) _ e

pub shape-long : (sheet : List ℕ) → bad_length (length sheet) ≡ false → first_of (shape_order sheet) ≡ first_of (record_rules sheet 0 (record_count sheet))
shape-long sheet e = first_passes (length_rule sheet) _ e
