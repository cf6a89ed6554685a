-- The product of normal coordinates through the table of a normal element, over all degrees at once. Converting is one to one
-- (`stands_unique`) and takes the product of coordinates to the product of elements (`stands-product`) and rotation to squaring
-- (`stands-rotate`), so the laws of the product are the field's. In order: what a number stands for; the product is commutative and
-- associative (`times_comm`, `times_assoc`); modulo an irreducible f the number with all n bits set stands for 1 (`stands-ones`), and a number
-- times it is the number (`times-ones`).
--
--   stands v     the element that v stands for
--   times u v    the product of u and v through the table
--   ones         the number with all n bits set
--
-- Assumes nothing.
use Rattle.std.specs.Prelude.{◌≡◌, ℕ, ◌-◌, ◌^◌, ◌≤◌, ◌<◌}
use Rattle.std.proofs.Common.{sym, ap, ap₂, ◌∙◌, ⊎_elim, arith, pow_mono}
use Rattle.gf2.specs.Poly.{◌⊕◌, mul_mod, Degree}
use Rattle.gf2.specs.Sum.{⊕-lt, ⊕_self, ⊕-eq-zero}
use Rattle.field.specs.Field.{squared, Irreducible}
use Rattle.field.specs.Ring.{mul_mod_comm, mul_mod_assoc, mul_mod-⊕_r, mul_mod-one_l}
use Rattle.field.specs.Frobenius.{squared_fixes}
use Rattle.field.specs.Division.{no_zero_divisors}
use Rattle.rows.specs.Rows.{comb, Independent}
use Rattle.normal.specs.Normal.{conjugates, table_rows}
use Rattle.normal.proofs.Coordinates.{selected_unique}
use Rattle.normal.proofs.Selected.{selected_lt, rotate-square}
use Rattle.normal.proofs.Products.{table_rows-table}
use Rattle.normal.proofs.ProductBits.{table-product, table_product-lt}
use Rattle.normal.proofs.Rotation.{rotate_large}
use Rattle.normal.specs.TableProduct.{rotate, table_product}

module _ (f n : ℕ) (deg : Degree f n) (two : 2 ≤ n) (returns : squared f n n 2 ≡ 2) (a : ℕ) (ha : a < 2 ^ n) (free : Independent (conjugates f n a) n) where
  abbrev stands : ℕ → ℕ
  stands v = comb (conjugates f n a) v

  abbrev times : ℕ → ℕ → ℕ
  times u v = table_product n (table_rows f n a) u v

  abbrev ones : ℕ
  ones = 2 ^ n - 1

  -- ---- what a number stands for

  pos : 1 ≤ n
  pos = omega (arith, two)

  back : squared f n n a ≡ a
  back = squared_fixes f n deg two n returns a ha

  pub times-lt : (u v : ℕ) → v < 2 ^ n → times u v < 2 ^ n
  times-lt u v h = let tab = table_rows-table f n deg a ha free in table_product-lt n pos (table_rows f n a) tab.size tab.row_lt u v h

  pub stands-lt : (v : ℕ) → v < 2 ^ n → stands v < 2 ^ n
  stands-lt v h = selected_lt f n deg a ha v h

  pub stands-product : (u v : ℕ) → u < 2 ^ n → v < 2 ^ n → stands (times u v) ≡ mul_mod f n (stands u) (stands v)
  stands-product u v hu hv = table-product f n deg two returns a ha free u v hu hv

  pub stands_unique : (u v : ℕ) → u < 2 ^ n → v < 2 ^ n → stands u ≡ stands v → u ≡ v
  stands_unique = selected_unique f n deg a ha free

  pub stands-rotate : (v : ℕ) → v < 2 ^ n → stands (rotate n v) ≡ mul_mod f n (stands v) (stands v)
  stands-rotate v h = rotate-square f n deg pos a back v h

  -- ---- the product

  pub times_comm : (u v : ℕ) → u < 2 ^ n → v < 2 ^ n → times u v ≡ times v u
  times_comm u v hu hv =
      stands_unique (times u v) (times v u) (times-lt u v hv) (times-lt v u hu)
      (stands-product u v hu hv ∙ mul_mod_comm f n deg (stands u) (stands v) ∙ sym (stands-product v u hv hu))

  pub times_assoc : (u v w : ℕ) → u < 2 ^ n → v < 2 ^ n → w < 2 ^ n → times (times u v) w ≡ times u (times v w)
  times_assoc u v w hu hv hw =
      stands_unique (times (times u v) w) (times u (times v w)) (times-lt (times u v) w hw) (times-lt u (times v w) (times-lt v w hw))
      (stands-product (times u v) w (times-lt u v hv) hw
      ∙ ap (λ (x : ℕ). mul_mod f n x (stands w)) (stands-product u v hu hv)
      ∙ mul_mod_assoc f n deg (stands u) (stands v) (stands w)
      ∙ ap (mul_mod f n (stands u)) (sym (stands-product v w hv hw))
      ∙ sym (stands-product u (times v w) hu (times-lt v w hw)))

  -- ---- the number with all n bits set

  four : 2 ^ 2 ≤ 2 ^ n
  four = pow_mono two

  pub ones_lt : ones < 2 ^ n
  ones_lt = omega (arith, four)

  ones-rotate : rotate n ones ≡ ones
  ones-rotate = rotate_large n ones (omega (arith, four)) ones_lt ∙ omega (arith, four)

  module _ (irr : Irreducible f) where
    -- its element is its own square and not 0
    pub stands-ones : stands ones ≡ 1
    stands-ones =
        let s : ℕ = stands ones in
        let hs : s < 2 ^ n = stands-lt ones ones_lt in
        let own : mul_mod f n s s ≡ s = sym (stands-rotate ones ones_lt) ∙ ap (comb (conjugates f n a)) ones-rotate in
        let unit : mul_mod f n s 1 ≡ s = mul_mod_comm f n deg s 1 ∙ mul_mod-one_l f n deg s hs in
        let z : mul_mod f n s (s ⊕ 1) ≡ 0 = mul_mod-⊕_r f n deg s s 1 ∙ ap₂ ◌⊕◌ own unit ∙ ⊕_self s in
        ⊎_elim
        (λ (e : s ≡ 0). absurd (free ones (omega (arith, four)) ones_lt e))
        (λ (e : s ⊕ 1 ≡ 0). ⊕-eq-zero s 1 e)
        (no_zero_divisors f n deg irr (s ⊕ 1) (⊕-lt n s 1 hs (omega (arith, four))) s hs z)

    pub times-ones : (v : ℕ) → v < 2 ^ n → times v ones ≡ v
    times-ones v h =
        stands_unique (times v ones) v (times-lt v ones ones_lt) h
        (stands-product v ones h ones_lt ∙ ap (mul_mod f n (stands v)) stands-ones ∙ mul_mod_comm f n deg (stands v) 1 ∙ mul_mod-one_l f n deg (stands v) (stands-lt v h))
