-- The laws of `specs/Products.antt` that a wrong definition breaks, and what rests on them. The head there tells of both files.
-- Assumes nothing.
use Rattle.std.specs.Prelude.{◌≡◌, get_or}
use Rattle.std.proofs.Math.Path.{sym, ap, ap₂}
use Rattle.std.proofs.Common.{◌∙◌, arith, pow_pos}
use mathlib.Core.List.{List}
use Prim.Native.Nat.{ℕ, zero, suc, ◌*◌, ◌/◌, ◌%◌, ◌^◌, ◌≤◌, ◌<◌}
use Rattle.std.proofs.Math.Nat.{pow-suc}
use Rattle.std.proofs.Math.Arith.{lt-one}
use Rattle.gf2.specs.Poly.{◌⊕◌, mul_mod, Degree}
use Rattle.gf2.specs.Numbers.{mod-two-lt}
use Rattle.gf2.specs.Remainder.{mul_mod-zero_r}
use Rattle.gf2.specs.Sum.{⊕-lt}
use Rattle.gf2.specs.Steps.{bit-mul-lt}
use Rattle.field.specs.Field.{squared}
use Rattle.field.specs.Ring.{mul_mod-lt, mul_mod_comm, mul_mod-⊕_l, mul_mod-⊕_r, mul_mod-four}
use Rattle.field.specs.ConjugateSums.{conjugate_sum, conjugate_sum-zero, conjugate_sum-step}
use Rattle.rows.specs.Rows.{comb, Independent}
use Rattle.rows.specs.Linear.{linear_bit, linear_ext}
use Rattle.rows.specs.Sums.{comb-⊕, comb-power, comb-bit, comb-zero, comb-lt-first}
use Rattle.normal.specs.Normal.{conjugates, table_rows}
use Rattle.normal.specs.TableProduct.{rotate}
use Rattle.normal.specs.Rotation.{rotate_back}
use Rattle.normal.proofs.Rotation.{rotate-lt, rotate_back-lt, rotate-rotate_back}
use Rattle.normal.specs.Selected.{conjugates-at}
use Rattle.normal.proofs.Selected.{selected_sum, rotate-square}
use Rattle.normal.specs.Coordinates.{table_rows-at, table_rows-length}
use Rattle.normal.proofs.Coordinates.{coordinates_are}
use Rattle.normal.specs.Products.{Table, horner_product}

pub horner_product-lt : (n : ℕ) → 1 ≤ n → (T : List ℕ) → ((i : ℕ) → i < n → get_or T i 0 < 2 ^ n) → (k u v : ℕ) → v < 2 ^ n → horner_product n T k u v < 2 ^ n
unfolding horner_product
horner_product-lt n pos T row_lt zero u v h = pow_pos n
horner_product-lt n pos T row_lt (suc k) u v h =
    ⊕-lt n ((u % 2) * comb T v) (rotate n (horner_product n T k (u / 2) (rotate_back n v))) (bit-mul-lt (u % 2) (comb T v) (2 ^ n) (mod-two-lt u) (comb-lt-first n n T row_lt v h))
    (rotate-lt n pos (horner_product n T k (u / 2) (rotate_back n v)) (horner_product-lt n pos T row_lt k (u / 2) (rotate_back n v) (rotate_back-lt n pos v h)))

module _ (f n : ℕ) (deg : Degree f n) where
  -- the table rows of a normal element are a table of it
  pub table_rows-table : (a : ℕ) → a < 2 ^ n → Independent (conjugates f n a) n → Table f n a (table_rows f n a)
  table_rows-table a ha free =
      record {
        size = table_rows-length f n a;
        row_lt = λ i h. rw (table_rows-at f n a i h) (coordinates_are f n deg a ha free (mul_mod f n a (squared f n i a)) (mul_mod-lt f n deg a (squared f n i a))).0;
        row = λ i h. rw (table_rows-at f n a i h) (coordinates_are f n deg a ha free (mul_mod f n a (squared f n i a)) (mul_mod-lt f n deg a (squared f n i a))).1;
      }

  bit-product : (d x y : ℕ) → d < 2 → mul_mod f n (d * x) y ≡ d * mul_mod f n x y
  bit-product d x y h =
      mul_mod_comm f n deg (d * x) y ∙ linear_bit (mul_mod f n y) (mul_mod-⊕_r f n deg y) d x h ∙ ap (λ (z : ℕ). d * z) (mul_mod_comm f n deg y x)

  module _ (pos : 1 ≤ n) (a : ℕ) (back : squared f n n a ≡ a) (T : List ℕ) (tab : Table f n a T) where
    -- a times a sum of conjugates is the sum that the rows' sum selects
    pub table-times : (v : ℕ) → v < 2 ^ n → comb (conjugates f n a) (comb T v) ≡ mul_mod f n a (comb (conjugates f n a) v)
    table-times =
        linear_ext (λ v. comb (conjugates f n a) (comb T v)) (λ v. mul_mod f n a (comb (conjugates f n a) v))
        (λ v w. rw (comb-⊕ T v w, comb-⊕ (conjugates f n a) (comb T v) (comb T w)))
        (λ v w. rw (comb-⊕ (conjugates f n a) v w, mul_mod-⊕_r f n deg))
        n
        (λ c h. rw (comb-power T c, comb-power (conjugates f n a) c, tab.row c h, conjugates-at f n c a h))

    horner-sum : (k u v : ℕ) → u < 2 ^ k → v < 2 ^ n
        → comb (conjugates f n a) (horner_product n T k u v) ≡ mul_mod f n (conjugate_sum f n u a) (comb (conjugates f n a) v)
    unfolding horner_product
    horner-sum zero u v hu hv =
        rw (lt-one hu, conjugate_sum-zero f n deg a, mul_mod_comm f n deg 0 (comb (conjugates f n a) v), mul_mod-zero_r)
        (comb-zero (conjugates f n a))
    horner-sum (suc k) u v hu hv =
        let C : List ℕ = conjugates f n a in
        let p : u < 2 ^ k * 2 = rw pow-suc at hu in
        let w : ℕ = rotate_back n v in
        let hw : w < 2 ^ n = rotate_back-lt n pos v hv in
        let q : ℕ = horner_product n T k (u / 2) w in
        let s : ℕ = conjugate_sum f n (u / 2) a in
        let ih : comb C q ≡ mul_mod f n s (comb C w) = horner-sum k (u / 2) w (omega arith) hw in
        let turned : comb C (rotate n q) ≡ mul_mod f n (mul_mod f n s s) (comb C v) =
        rotate-square f n deg pos a back q (horner_product-lt n pos T tab.row_lt k (u / 2) w hw) ∙ ap (λ (x : ℕ). mul_mod f n x x) ih
        ∙ mul_mod-four f n deg s (comb C w) s (comb C w)
        ∙ ap (mul_mod f n (mul_mod f n s s)) (sym (rotate-square f n deg pos a back w hw) ∙ ap (comb C) (rotate-rotate_back n pos v hv)) in
        comb-⊕ C ((u % 2) * comb T v) (rotate n q)
        ∙ ap₂ ◌⊕◌ (comb-bit C (u % 2) (comb T v) (mod-two-lt u) ∙ ap (λ (x : ℕ). u % 2 * x) (table-times v hv) ∙ sym (bit-product (u % 2) a (comb C v) (mod-two-lt u))) turned
        ∙ sym (ap (λ (x : ℕ). mul_mod f n x (comb C v)) (conjugate_sum-step f n deg u a) ∙ mul_mod-⊕_l f n deg (u % 2 * a) (mul_mod f n s s) (comb C v))

    -- the product of coordinates selects the product of elements
    pub horner-product : (u v : ℕ) → u < 2 ^ n → v < 2 ^ n
        → comb (conjugates f n a) (horner_product n T n u v) ≡ mul_mod f n (comb (conjugates f n a) u) (comb (conjugates f n a) v)
    horner-product u v hu hv =
        horner-sum n u v hu hv ∙ ap (λ (x : ℕ). mul_mod f n x (comb (conjugates f n a) v)) (sym (selected_sum f n deg a u hu))
