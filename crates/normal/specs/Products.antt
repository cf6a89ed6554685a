-- The product of normal coordinates. The rows T are a table of a where row i selects conjugates that sum to a times c_i; through
-- such a table the product of coordinates has the coordinates of the product of elements.
--
--   Table f n a T            T is a table of a
--   horner_product n T k u v  the product by turns, over the lowest k bits of u: the form that code uses
--
-- What of this a wrong definition breaks, and what rests on that, stands in `proofs/Products.antt`.
-- Assumes nothing.
use Rattle.std.specs.Prelude.{◌≡◌, length, get_or}
use mathlib.Core.List.{List}
use Prim.Native.Nat.{ℕ, zero, suc, ◌*◌, ◌/◌, ◌%◌, ◌^◌, ◌<◌}
use Rattle.gf2.specs.Poly.{◌⊕◌, mul_mod}
use Rattle.field.specs.Field.{squared}
use Rattle.rows.specs.Rows.{comb}
use Rattle.normal.specs.Normal.{conjugates}
use Rattle.normal.specs.TableProduct.{rotate}
use Rattle.normal.specs.Rotation.{rotate_back}

pub record Table (f n a : ℕ) (T : List ℕ) : Type 0 where
  pub size : length T ≡ n
  pub row_lt : (i : ℕ) → i < n → get_or T i 0 < 2 ^ n
  pub row : (i : ℕ) → i < n → comb (conjugates f n a) (get_or T i 0) ≡ mul_mod f n a (squared f n i a)

-- bit 0 of u picks the rows' sum by v; the rest of u is taken with v rotated back, and the product rotated
unfoldable pub horner_product : (n : ℕ) (T : List ℕ) (k u v : ℕ) → ℕ
horner_product n T zero u v = 0
horner_product n T (suc k) u v = (u % 2) * comb T v ⊕ rotate n (horner_product n T k (u / 2) (rotate_back n v))
