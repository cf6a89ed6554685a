-- The laws of `specs/Through.antt` that a wrong definition breaks, and what rests on them. The head there tells of both files.
-- Assumes nothing.
use Rattle.std.specs.Prelude.{◌≡◌, refl, false, ℕ, ◌^◌, ◌≤◌, ◌<◌, length}
use Rattle.std.proofs.Math.Path.{ap, ap₂}
use Rattle.std.proofs.Common.{◌∙◌, arith}
use mathlib.Core.List.{List}
use Rattle.gf2.specs.Poly.{rem, mul_mod, Degree}
use Rattle.gf2.specs.Remainder.{rem-small, rem_lt}
use Rattle.refusals.specs.Orders.{part-clear}
use Rattle.refusals.specs.Verdicts.{clear, first_of}
use Rattle.field.specs.Refusals.{any_too_large}
use Rattle.rows.specs.Rows.{comb, Independent}
use Rattle.rows.specs.Sums.{comb-lt}
use Rattle.normal.specs.Normal.{conjugates, inverse_rows, table_rows}
use Rattle.normal.proofs.Coordinates.{inverse_rows-inverse, there_and_back, back-and-there}
use Rattle.normal.proofs.Products.{table_rows-table}
use Rattle.normal.proofs.ProductBits.{table-product, table_product-lt}
use Rattle.normal.proofs.Selected.{selected_lt}
use Rattle.sheet.specs.Orders.{list_limit, shape_order, value_order, list_order, polynomial_list_order, normal_list_order, Small}
use Rattle.sheet.specs.Answers.{to_polynomial, element_in, to_normal, through_table}
use Rattle.sheet.proofs.ConvertingLaws.{value_passes}
use Rattle.sheet.proofs.Held.{held-count, held-shape, held-polynomial, conjugate-rows, inverse-rows, table-rows}
use Rattle.sheet.proofs.Issuing.{based-degree, based-two, based-returns, based-free}
use Rattle.sheet.specs.Lists.{list_fits}
use Rattle.sheet.specs.Sheets.{SheetOf}
use Rattle.sheet.specs.Through.{all_small}

-- ---- values below 2^n

module _ (f n a : ℕ) (sheet : List ℕ) (s : SheetOf f n a sheet) where
  ha : a < 2 ^ n
  ha = s.based.below

  deg : Degree f n
  deg = based-degree f n a s.based

  two : 2 ≤ n
  two = based-two f n a s.based

  free : Independent (conjugates f n a) n
  free = based-free f n a s.based

  -- ---- the orders

  pub values-clear : (values : List ℕ) → any_too_large n values ≡ false → first_of (value_order sheet values) ≡ clear
  values-clear values e = value_passes sheet (held-shape f n a sheet s) values (rw (held-count f n a sheet s) e)

  pub list-clear : (from : List ℕ) → length from ≤ list_limit → first_of (normal_list_order sheet from (length from)) ≡ clear
  list-clear from short = part-clear (shape_order sheet) _ (held-shape f n a sheet s) ∙ list_fits (length from) (length from) refl short

  pub coordinates-clear : (from : List ℕ) → length from ≤ list_limit → Small n from → first_of (polynomial_list_order sheet from (length from)) ≡ clear
  coordinates-clear from short all =
      part-clear (list_order sheet (length from) (length from)) _ (list-clear from short) ∙ rw (held-count f n a sheet s) (all_small n 0 from all)

  -- ---- converting

  pub element_of : (v : ℕ) → to_polynomial sheet v ≡ comb (conjugates f n a) v
  unfolding to_polynomial
  element_of v = ap (λ (rows : List ℕ). comb rows v) (conjugate-rows f n a sheet s)

  -- the sheet's polynomial is f
  remainder_of : (word : ℕ) → element_in sheet word ≡ rem f n word
  unfolding element_in
  remainder_of word = rw (held-polynomial f n a sheet s, held-count f n a sheet s)

  pub coordinates_of : (word : ℕ) → to_normal sheet word ≡ comb (inverse_rows f n a) (rem f n word)
  unfolding to_normal
  coordinates_of word = ap₂ comb (inverse-rows f n a sheet s) (remainder_of word)

  element-lt : (v : ℕ) → v < 2 ^ n → to_polynomial sheet v < 2 ^ n
  element-lt v h = rw (element_of v) (selected_lt f n deg a ha v h)

  pub coordinates-lt : (word : ℕ) → to_normal sheet word < 2 ^ n
  coordinates-lt word =
      rw (coordinates_of word) (comb-lt n (inverse_rows f n a) (inverse_rows-inverse f n deg a ha free).shape.row_lt (rem f n word))

  pub there_back : (word : ℕ) → to_polynomial sheet (to_normal sheet word) ≡ rem f n word
  there_back word =
      element_of (to_normal sheet word)
      ∙ ap (comb (conjugates f n a)) (coordinates_of word)
      ∙ there_and_back f n deg a ha free (rem f n word) (rem_lt f n deg word)

  pub back-there : (v : ℕ) → v < 2 ^ n → to_normal sheet (to_polynomial sheet v) ≡ v
  back-there v h =
      coordinates_of (to_polynomial sheet v)
      ∙ ap (comb (inverse_rows f n a)) (rem-small f n (to_polynomial sheet v) (element-lt v h) ∙ element_of v)
      ∙ back-and-there f n deg a ha free v h

  -- ---- multiplying

  pub product_lt : (u v : ℕ) → v < 2 ^ n → through_table sheet u v < 2 ^ n
  unfolding through_table
  product_lt u v h =
      let tab = table_rows-table f n deg a ha free in
      rw (table-rows f n a sheet s, held-count f n a sheet s) (table_product-lt n (omega (arith, two)) (table_rows f n a) tab.size tab.row_lt u v h)

  -- the product of coordinates stands for the product of the elements
  pub product_of : (u v : ℕ) → u < 2 ^ n → v < 2 ^ n
      → to_polynomial sheet (through_table sheet u v) ≡ mul_mod f n (to_polynomial sheet u) (to_polynomial sheet v)
  unfolding through_table
  product_of u v hu hv =
      rw (element_of (through_table sheet u v), element_of u, element_of v, table-rows f n a sheet s, held-count f n a sheet s)
      (table-product f n deg two (based-returns f n a s.based) a ha free u v hu hv)
