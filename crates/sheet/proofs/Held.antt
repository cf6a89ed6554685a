-- What the sheet of f and a holds, record by record and as rows.
--
--   held-count, held-shape                    n records, and nothing wrong with their shape
--   held-degree, held-row, held_tail          what each record repeats: the degree, its place, f without its top term
--   held-conjugate, held-inverse, held-table  the three rows of a record
--   conjugate-rows, inverse-rows, table-rows  the same as lists
--   held-polynomial, held-element, -summary   the f and the a that reading takes from it, and its answer for them
--
-- Assumes nothing.
use Rattle.std.specs.Prelude.{◌≡◌, refl, List, ℕ, ◌^◌, ◌≤◌, ◌<◌}
use Rattle.std.proofs.Common.{ap, ◌∙◌}
use Rattle.std.proofs.Math.Pow.{pow-lt}
use Rattle.gf2.specs.Limit.{limit}
use Rattle.gf2.specs.Poly.{mul_mod, Degree}
use Rattle.field.specs.Field.{squared}
use Rattle.refusals.specs.Verdicts.{clear, first_of}
use Rattle.field.specs.Ring.{mul_mod-lt}
use Rattle.rows.specs.Rows.{comb, Independent}
use Rattle.normal.specs.Normal.{conjugates, coordinates, inverse_rows, table_rows}
use Rattle.normal.specs.Coordinates.{inverse_rows-at, table_rows-at}
use Rattle.normal.proofs.Coordinates.{coordinates_are}
use Rattle.normal.specs.Selected.{conjugates-at}
use Rattle.sheet.specs.Record.{record_count, conjugate_rows_in, inverse_rows_in, table_rows_in, degree_in, row_in, tail_in, conjugate_in, inverse_in, table_in, polynomial_in, tail_of}
use Rattle.sheet.specs.Orders.{shape_order}
use Rattle.sheet.specs.Answers.{summary_of, summary_in}
use Rattle.sheet.proofs.Issuing.{based-degree, based-two, based-most, based-free}
use Rattle.sheet.specs.Sheets.{SheetOf}
use Rattle.sheet.proofs.Written.{written_count, written_shape, written_polynomial, written_element, degree_is, row_is, tail_is, conjugate_is, inverse_is, table_is, conjugates-held, inverse-held, table-held}

module _ (f n a : ℕ) (sheet : List ℕ) (s : SheetOf f n a sheet) where
  ha : a < 2 ^ n
  ha = s.based.below

  deg : Degree f n
  deg = based-degree f n a s.based

  two : 2 ≤ n
  two = based-two f n a s.based

  most : n ≤ limit
  most = based-most f n a s.based

  free : Independent (conjugates f n a) n
  free = based-free f n a s.based

  pub held-count : record_count sheet ≡ n
  held-count = ap record_count s.bytes ∙ written_count f n a deg two most ha free

  pub held-shape : first_of (shape_order sheet) ≡ clear
  held-shape = rw s.bytes (written_shape f n a deg two most ha free)

  pub held-polynomial : polynomial_in sheet ≡ f
  held-polynomial = ap polynomial_in s.bytes ∙ written_polynomial f n a deg two most ha free

  pub held-element : conjugate_in sheet 0 ≡ a
  held-element = ap (λ (l : List ℕ). conjugate_in l 0) s.bytes ∙ written_element f n a deg two most ha free

  -- ---- record i

  module _ (i : ℕ) (h : i < n) where
    -- "degree n"
    pub held-degree : degree_in sheet i ≡ n
    held-degree = ap (λ (l : List ℕ). degree_in l i) s.bytes ∙ degree_is f n a deg two most ha free i h

    -- "row number i"
    pub held-row : row_in sheet i ≡ i
    held-row = ap (λ (l : List ℕ). row_in l i) s.bytes ∙ row_is f n a deg two most ha free i h

    -- "f without its term x^n"
    pub held_tail : tail_in sheet i ≡ tail_of f n
    held_tail = ap (λ (l : List ℕ). tail_in l i) s.bytes ∙ tail_is f n a deg two most ha free i h

    -- "conjugate row: c_i as an element"
    pub held-conjugate : conjugate_in sheet i ≡ squared f n i a
    held-conjugate = ap (λ (l : List ℕ). conjugate_in l i) s.bytes ∙ conjugate_is f n a deg two most ha free i h ∙ conjugates-at f n i a h

    -- "inverse row: the normal coordinates of x^i": the number below 2^n that selects conjugates whose sum is x^i
    pub held-inverse : (inverse_in sheet i < 2 ^ n) × (comb (conjugates f n a) (inverse_in sheet i) ≡ 2 ^ i)
    held-inverse =
        let e : inverse_in sheet i ≡ coordinates f n a (2 ^ i) =
        ap (λ (l : List ℕ). inverse_in l i) s.bytes ∙ inverse_is f n a deg two most ha free i h ∙ inverse_rows-at f n a i h in
        rw e (coordinates_are f n deg a ha free (2 ^ i) (pow-lt h))

    -- "table row: the normal coordinates of c_0 times c_i": the number below 2^n that selects conjugates whose sum is c_0 times c_i
    pub held-table : (table_in sheet i < 2 ^ n) × (comb (conjugates f n a) (table_in sheet i) ≡ mul_mod f n a (squared f n i a))
    held-table =
        let e : table_in sheet i ≡ coordinates f n a (mul_mod f n a (squared f n i a)) =
        ap (λ (l : List ℕ). table_in l i) s.bytes ∙ table_is f n a deg two most ha free i h ∙ table_rows-at f n a i h in
        rw e (coordinates_are f n deg a ha free (mul_mod f n a (squared f n i a)) (mul_mod-lt f n deg a (squared f n i a)))

  -- ---- the rows as lists

  pub conjugate-rows : conjugate_rows_in sheet ≡ conjugates f n a
  conjugate-rows = ap conjugate_rows_in s.bytes ∙ conjugates-held f n a deg two most ha free

  pub inverse-rows : inverse_rows_in sheet ≡ inverse_rows f n a
  inverse-rows = ap inverse_rows_in s.bytes ∙ inverse-held f n a deg two most ha free

  pub table-rows : table_rows_in sheet ≡ table_rows f n a
  table-rows = ap table_rows_in s.bytes ∙ table-held f n a deg two most ha free

  -- ---- what reading answers for it

  pub held_summary : summary_in sheet ≡ summary_of f n a
  held_summary = rw (held-polynomial, held-count, held-element) refl
