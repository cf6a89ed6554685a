-- The laws of `specs/Written.antt` that a wrong definition breaks, and what rests on them. The head there tells of both files.
-- Assumes nothing.
use Rattle.std.specs.Prelude.{◌≡◌, false, not, List, get_or}
use Rattle.std.proofs.Math.Path.{sym}
use Rattle.std.proofs.Common.{ap, ap₂, ◌∙◌, ⊎_elim, add-sub_of_le, zero-add, ext_get_or}
use Prim.Native.Nat.{ℕ, zero, suc, ◌+◌, ◌-◌, ◌*◌, ◌/◌, ◌%◌, ◌^◌, ◌≤◌, ◌<◌}
use native.Mathlib.Omega.{arith}
use Rattle.std.proofs.Math.ListN.{length}
use Rattle.std.proofs.Math.Pow.{pow_mono}
use borrow.Author.Tests.{lt-leb, le-ltb, eq-eqb, not-false}
use Rattle.gf2.specs.Limit.{limit}
use Rattle.gf2.specs.Numbers.{order, pow-next}
use Rattle.gf2.specs.Poly.{Degree}
use Rattle.field.specs.Field.{squared}
use Rattle.refusals.specs.Verdicts.{clear, first_of}
use Rattle.field.specs.Refusals.{too_large_lem}
use Rattle.refusals.specs.Orders.{first_passes, first-none, first-clear}
use Rattle.rows.specs.Rows.{Independent}
use Rattle.normal.specs.Normal.{conjugates, inverse_rows, table_rows, listed}
use Rattle.normal.specs.Coordinates.{listed_at, listed-length, inverse_rows-length}
use Rattle.normal.proofs.Coordinates.{conjugates_matrix, inverse_rows-inverse}
use Rattle.normal.specs.Selected.{conjugates-at, conjugates-length}
use Rattle.normal.specs.Products.{Table}
use Rattle.normal.proofs.Products.{table_rows-table}
use Rattle.sheet.specs.Record.{record_size, record_count, conjugate_at, inverse_at, table_at, word_size, column_in, rows_in, degree_in, row_in, tail_in, conjugate_in, inverse_in, table_in, record_at, polynomial_in, tail_of, sheet_bytes}
use Rattle.sheet.specs.Orders.{bad_length, misplaced, oversized, record_rules, same, differ_rules, shape_order, length_rule, rebuilt_from}
use Rattle.sheet.specs.Rebuilding.{sheet_bytes-length}
use Rattle.sheet.specs.Reading.{record_at_byte}
use Rattle.sheet.specs.Columns.{degree_written, row_written, tail_written, conjugate_written, inverse_written, table_written}
use Rattle.sheet.specs.Written.{same_equal, same_refl}
use Rattle.refusals.specs.declared.fault.Fault.TheVariants as faults

word : (n v : ℕ) → n ≤ limit → v < 2 ^ n → v < 256 ^ word_size
word n v h l = omega (arith, pow_mono h)

module _ (f n a : ℕ) (deg : Degree f n) (two : 2 ≤ n) (most : n ≤ limit) (ha : a < 2 ^ n) (free : Independent (conjugates f n a) n) where
  abbrev sheet : List ℕ
  sheet = sheet_bytes f n a

  tab : Table f n a (table_rows f n a)
  tab = table_rows-table f n deg a ha free

  pub written_count : record_count sheet ≡ n
  written_count = rw (sheet_bytes-length f n a) (omega arith)

  tail_lt : tail_of f n < 2 ^ n
  tail_lt = let h : f < 2 ^ n * 2 = rw pow-next at deg.high in omega arith

  -- ---- its fields

  module _ (i : ℕ) (h : i < n) where
    pub degree_is : degree_in sheet i ≡ n
    unfolding sheet_bytes
    degree_is = degree_written n i n (tail_of f n) (conjugates f n a) (inverse_rows f n a) (table_rows f n a) h (omega arith)

    pub row_is : row_in sheet i ≡ i
    unfolding sheet_bytes
    row_is = row_written n i n (tail_of f n) (conjugates f n a) (inverse_rows f n a) (table_rows f n a) h (omega arith)

    pub tail_is : tail_in sheet i ≡ tail_of f n
    unfolding sheet_bytes
    tail_is = tail_written n i n (tail_of f n) (conjugates f n a) (inverse_rows f n a) (table_rows f n a) h (omega (arith, tail_lt, pow_mono most))

    -- "conjugate row: c_i as an element"
    pub conjugate_is : conjugate_in sheet i ≡ get_or (conjugates f n a) i 0
    unfolding sheet_bytes
    conjugate_is =
        conjugate_written n i n (tail_of f n) (conjugates f n a) (inverse_rows f n a) (table_rows f n a) h
        (word n (get_or (conjugates f n a) i 0) most ((conjugates_matrix f n deg a ha).row_lt i))

    pub inverse_is : inverse_in sheet i ≡ get_or (inverse_rows f n a) i 0
    unfolding sheet_bytes
    inverse_is =
        inverse_written n i n (tail_of f n) (conjugates f n a) (inverse_rows f n a) (table_rows f n a) h
        (word n (get_or (inverse_rows f n a) i 0) most ((inverse_rows-inverse f n deg a ha free).shape.row_lt i))

    pub table_is : table_in sheet i ≡ get_or (table_rows f n a) i 0
    unfolding sheet_bytes
    table_is =
        table_written n i n (tail_of f n) (conjugates f n a) (inverse_rows f n a) (table_rows f n a) h
        (word n (get_or (table_rows f n a) i 0) most (tab.row_lt i h))

  -- its rows
  rows_are : (at : ℕ) (rows : List ℕ) → length rows ≡ n → ((i : ℕ) → i < n → column_in sheet i at word_size ≡ get_or rows i 0) → rows_in sheet at ≡ rows
  unfolding rows_in
  rows_are at rows size e =
      rw written_count
      (ext_get_or 0 (listed n (λ i. column_in sheet i at word_size)) rows (listed-length n (λ i. column_in sheet i at word_size) ∙ sym size)
      (λ i l. let h : i < n = rw listed-length at l in listed_at n (λ i. column_in sheet i at word_size) i h ∙ e i h))

  pub conjugates-held : rows_in sheet conjugate_at ≡ conjugates f n a
  conjugates-held = rows_are conjugate_at (conjugates f n a) (conjugates-length f n a) conjugate_is

  pub inverse-held : rows_in sheet inverse_at ≡ inverse_rows f n a
  inverse-held = rows_are inverse_at (inverse_rows f n a) (inverse_rows-length f n a) inverse_is

  pub table-held : rows_in sheet table_at ≡ table_rows f n a
  table-held = rows_are table_at (table_rows f n a) tab.size table_is

  -- ---- its shape

  good_size : bad_length (length sheet) ≡ false
  unfolding bad_length
  good_size =
      let s : length sheet ≡ record_size * n = sheet_bytes-length f n a in
      let q : length sheet / record_size ≡ n = omega arith in
      let r : length sheet % record_size ≡ 0 = omega arith in
      rw (eq-eqb (length sheet % record_size) 0 r, q, le-ltb n 2 two, le-ltb limit n most)

  in_place : (i : ℕ) → i < n → misplaced sheet i ≡ false
  unfolding misplaced
  in_place i h =
      rw (
        eq-eqb (degree_in sheet i) (record_count sheet) (degree_is i h ∙ sym written_count),
        eq-eqb (row_in sheet i) i (row_is i h),
        eq-eqb (tail_in sheet i) (tail_in sheet 0) (tail_is i h ∙ sym (tail_is 0 (omega arith))),
      )

  not_large : (v : ℕ) → v < 2 ^ n → too_large_lem (record_count sheet) v ≡ false
  unfolding too_large_lem
  not_large v l = rw written_count (lt-leb (2 ^ n) v l)

  in_size : (i : ℕ) → i < n → oversized sheet i ≡ false
  unfolding oversized
  in_size i h =
      rw (
        not_large (tail_in sheet i) (rw (tail_is i h) tail_lt),
        not_large (conjugate_in sheet i) (rw (conjugate_is i h) ((conjugates_matrix f n deg a ha).row_lt i)),
        not_large (inverse_in sheet i) (rw (inverse_is i h) ((inverse_rows-inverse f n deg a ha free).shape.row_lt i)),
        not_large (table_in sheet i) (rw (table_is i h) (tab.row_lt i h)),
      )

  walk : (k i : ℕ) → i + k ≤ n → first_of (record_rules sheet i k) ≡ clear
  unfolding record_rules
  walk zero i h = first-none
  walk (suc k) i h =
      first_passes (record { fault = faults.Misplaced; place = i; applies = misplaced sheet i }) _ (in_place i (omega arith))
      ∙ first_passes (record { fault = faults.Oversized; place = i; applies = oversized sheet i }) _ (in_size i (omega arith))
      ∙ walk k (i + 1) (omega arith)

  pub written_shape : first_of (shape_order sheet) ≡ clear
  written_shape = first_passes (length_rule sheet) _ good_size ∙ walk (record_count sheet) 0 (rw written_count (omega arith))

  -- ---- it is rebuilt as itself

  pub written_polynomial : polynomial_in sheet ≡ f
  written_polynomial = rw (written_count, tail_is 0 (omega arith)) (add-sub_of_le deg.low)

  pub written_element : conjugate_in sheet 0 ≡ a
  unfolding squared
  written_element = conjugate_is 0 (omega arith) ∙ conjugates-at f n 0 a (omega arith)

  pub written_rebuilt : rebuilt_from sheet ≡ sheet
  written_rebuilt = ap₂ (λ (g k : ℕ). sheet_bytes g k (conjugate_in sheet 0)) written_polynomial written_count ∙ ap (sheet_bytes f n) written_element

-- ---- records that do not differ

pub itself_clear : (sheet : List ℕ) (i k : ℕ) → first_of (differ_rules sheet sheet i k) ≡ clear
unfolding differ_rules
itself_clear sheet i zero = first-none
itself_clear sheet i (suc k) =
    first_passes (record { fault = faults.Differs; place = i; applies = not (same (record_at sheet i) (record_at sheet i)) }) _ (rw (same_refl (record_at sheet i)))
    ∙ itself_clear sheet (i + 1) k

records_same : (sheet rebuilt : List ℕ) (k i : ℕ) → first_of (differ_rules sheet rebuilt i k) ≡ clear → (j : ℕ) → j < k → record_at sheet (i + j) ≡ record_at rebuilt (i + j)
unfolding differ_rules
records_same sheet rebuilt zero i e j h = absurd (omega arith)
records_same sheet rebuilt (suc k) i e j h =
    let s = first-clear (record { fault = faults.Differs; place = i; applies = not (same (record_at sheet i) (record_at rebuilt i)) }) (differ_rules sheet rebuilt (i + 1) k) e in
    ⊎_elim
    (λ (u : j < 1). let z : i + j ≡ i = omega arith in rw z (same_equal (record_at sheet i) (record_at rebuilt i) (not-false (same (record_at sheet i) (record_at rebuilt i)) s.0)))
    (λ (u : 1 ≤ j). let z : i + 1 + (j - 1) ≡ i + j = omega arith in rw z at (records_same sheet rebuilt k (i + 1) s.1 (j - 1) (omega arith)))
    (order j 1)

-- two sheets of n records that do not differ are one
pub same_sheets : (sheet rebuilt : List ℕ) (n : ℕ) → length sheet ≡ record_size * n → length rebuilt ≡ record_size * n → first_of (differ_rules sheet rebuilt 0 n) ≡ clear → sheet ≡ rebuilt
same_sheets sheet rebuilt n es er e =
    ext_get_or 0 sheet rebuilt (es ∙ sym er)
    (λ j l.
    let i : ℕ = j / record_size in
    let k : ℕ = j % record_size in
    let hk : k < record_size = omega arith in
    let hi : i < n = omega arith in
    let s : record_size * i + k ≡ j = omega arith in
    let r : record_at sheet i ≡ record_at rebuilt i = rw zero-add at (records_same sheet rebuilt n 0 e i hi) in
    ap (λ (m : ℕ). get_or sheet m 0) (sym s) ∙ sym (record_at_byte sheet i k hk) ∙ ap (λ (x : List ℕ). get_or x k 0) r ∙ record_at_byte rebuilt i k hk ∙ ap (λ (m : ℕ). get_or rebuilt m 0) s)
