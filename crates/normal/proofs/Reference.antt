-- Coordinates in the basis of one reference normal element b, as polynomials in t modulo t ^ n + 1, which is the number 2 ^ n + 1: with
-- them an element is found normal, and its table computed, with no matrix of its own. In order: t times the coordinates rotates them,
-- and squares the element; a sum of conjugates of y is that of b which w times the coordinates of y selects; y is normal where its
-- coordinates have an inverse, and not where something other than 0 times them is 0; where r is the inverse, coordinates in the basis
-- of y are r times those in the basis of b, so the table rows of y too.
--
-- Multiplication is `mul_mod (2 ^ n + 1) n`, whose laws are those of `field`'s Ring for any polynomial of degree n.
-- Assumes nothing.
use Rattle.std.specs.Prelude.{◌≡◌, true, false, get_or}
use Rattle.std.proofs.Math.Path.{refl, sym, ap}
use Rattle.std.proofs.Common.{◌∙◌, ⊎_elim, pow-suc, arith}
use Prim.Native.Nat.{ℕ, zero, suc, ◌+◌, ◌-◌, ◌*◌, ◌^◌, ◌≤◌, ◌<◌}
use Rattle.gf2.specs.Poly.{◌⊕◌, product, reduce, rem, mul_mod, Degree}
use Rattle.gf2.specs.Numbers.{order, pow-next}
use Rattle.gf2.specs.Truth.{not_true_false}
use Rattle.gf2.specs.Sum.{⊕_comm, ⊕-digit, ⊕_middle, ⊕_top}
use Rattle.gf2.specs.Product.{product-double_l}
use Rattle.gf2.specs.Remainder.{reduce-small, reduce_large, rem-small, rem-double, mul_mod-zero_r}
use Rattle.field.specs.Field.{squared}
use Rattle.field.specs.Ring.{mul_mod-lt, mul_mod_comm, mul_mod_assoc, mul_mod-⊕_l, mul_mod-one_l, mul_mod-x, one-lt}
use Rattle.field.specs.Frobenius.{squared-next}
use Rattle.rows.specs.Rows.{comb, Independent}
use Rattle.rows.specs.Linear.{linear_ext, linear_after}
use Rattle.rows.specs.Sums.{comb-⊕, comb-zero, comb-power}
use Rattle.normal.specs.Normal.{conjugates, normal, coordinates, inverse_rows, table_rows}
use Rattle.normal.specs.TableProduct.{rotate, rotated_by}
use Rattle.normal.proofs.Rotation.{half_power, rotate-small, rotate_large}
use Rattle.normal.specs.Selected.{conjugates-at}
use Rattle.normal.proofs.Selected.{selected_lt, rotate-square}
use Rattle.normal.specs.Coordinates.{table_rows-at}
use Rattle.normal.proofs.Coordinates.{normal-means, coordinates_unique, coordinates_are, convert-coordinates}
use Rattle.normal.proofs.Turns.{rotated_by-lt}

-- ---- modulo t ^ n + 1

module _ (n : ℕ) (pos : 1 ≤ n) where
  pub turn_degree : Degree (2 ^ n + 1) n
  turn_degree = record { low = omega arith; high = rw pow-next (omega (arith, one-lt n pos)) }

  -- the bit that comes to place n comes round to place 0
  turn_large : (w : ℕ) → w < 2 ^ n → 2 ^ n ≤ w * 2 → w * 2 ⊕ (2 ^ n + 1) ≡ w * 2 - 2 ^ n + 1
  turn_large w h l =
      let y : ℕ = w - 2 ^ (n - 1) in
      let x : ℕ = w * 2 - 2 ^ n in
      let t : x ≡ y * 2 = omega (arith, half_power n pos) in
      let s : w * 2 ≡ 2 ^ n + x = omega arith in
      ap (λ (z : ℕ). z ⊕ (2 ^ n + 1)) (s ∙ sym (⊕_top n x (omega arith)) ∙ ⊕_comm (2 ^ n) x)
      ∙ ap (λ (z : ℕ). x ⊕ 2 ^ n ⊕ z) (sym (⊕_top n 1 (one-lt n pos)))
      ∙ ⊕_middle x (2 ^ n) 1
      ∙ rw t (⊕-digit y 1 (omega arith))

  -- t times w
  pub turn_rotates : (w : ℕ) → w < 2 ^ n → mul_mod (2 ^ n + 1) n 2 w ≡ rotate n w
  turn_rotates w h =
      let F : ℕ = 2 ^ n + 1 in
      let small : rem F n w ≡ w = rem-small F n w h in
      ap (mul_mod F n 2) (sym small)
      ∙ mul_mod-x F n turn_degree w
      ∙ rem-double F n turn_degree w
      ∙ ap (λ (z : ℕ). reduce F n (z * 2)) small
      ∙ ⊎_elim
      (λ (l : w * 2 < 2 ^ n). reduce-small F n (w * 2) l ∙ sym (rotate-small n w l))
      (λ (l : 2 ^ n ≤ w * 2). reduce_large F n (w * 2) l ∙ turn_large w h l ∙ sym (rotate_large n w l h))
      (order (w * 2) (2 ^ n))

  next_power : (i v : ℕ) → mul_mod (2 ^ n + 1) n (2 ^ suc i) v ≡ mul_mod (2 ^ n + 1) n 2 (mul_mod (2 ^ n + 1) n (2 ^ i) v)
  unfolding mul_mod
  next_power i v =
      ap (λ (x : ℕ). rem (2 ^ n + 1) n (product x v)) (pow-suc 2 i)
      ∙ ap (rem (2 ^ n + 1) n) (product-double_l (2 ^ i) v)
      ∙ sym (mul_mod-x (2 ^ n + 1) n turn_degree (product (2 ^ i) v))

  -- t ^ i times v
  pub power_rotates : (i v : ℕ) → v < 2 ^ n → mul_mod (2 ^ n + 1) n (2 ^ i) v ≡ rotated_by n i v
  unfolding rotated_by
  power_rotates zero v h = mul_mod-one_l (2 ^ n + 1) n turn_degree v h
  power_rotates (suc i) v h =
      next_power i v ∙ ap (mul_mod (2 ^ n + 1) n 2) (power_rotates i v h) ∙ turn_rotates (rotated_by n i v) (rotated_by-lt n pos i v h)

module _ (f n : ℕ) (deg : Degree f n) (pos : 1 ≤ n) (b : ℕ) (back : squared f n n b ≡ b) where
  -- ---- squaring turns the coordinates

  pub turned-squared : (i v : ℕ) → v < 2 ^ n → comb (conjugates f n b) (rotated_by n i v) ≡ squared f n i (comb (conjugates f n b) v)
  unfolding rotated_by squared
  turned-squared zero v h = refl
  turned-squared (suc i) v h =
      rotate-square f n deg pos b back (rotated_by n i v) (rotated_by-lt n pos i v h)
      ∙ ap (λ (x : ℕ). mul_mod f n x x) (turned-squared i v h)
      ∙ squared-next f n deg i (comb (conjugates f n b) v)

  module _ (y v : ℕ) (hv : v < 2 ^ n) (e : comb (conjugates f n b) v ≡ y) where
    -- the coordinates of y's conjugates
    pub conjugates-turned : (i : ℕ) → comb (conjugates f n b) (rotated_by n i v) ≡ squared f n i y
    conjugates-turned i = turned-squared i v hv ∙ ap (squared f n i) e

    -- ---- sums of the conjugates of y

    pub reference-sum : (w : ℕ) → w < 2 ^ n → comb (conjugates f n y) w ≡ comb (conjugates f n b) (mul_mod (2 ^ n + 1) n w v)
    reference-sum =
        linear_ext (comb (conjugates f n y)) (λ w. comb (conjugates f n b) (mul_mod (2 ^ n + 1) n w v))
        (comb-⊕ (conjugates f n y))
        (linear_after (comb (conjugates f n b)) (λ w. mul_mod (2 ^ n + 1) n w v) (comb-⊕ (conjugates f n b)) (λ u w. mul_mod-⊕_l (2 ^ n + 1) n (turn_degree n pos) u w v))
        n
        (λ c h. comb-power (conjugates f n y) c ∙ conjugates-at f n c y h
        ∙ sym (ap (comb (conjugates f n b)) (power_rotates n pos c v hv) ∙ conjugates-turned c))

    -- ---- normal or not

    pub zero_not_normal : (w : ℕ) → 0 < w → w < 2 ^ n → mul_mod (2 ^ n + 1) n w v ≡ 0 → normal f n y ≡ false
    zero_not_normal w p h z =
        not_true_false (normal f n y)
        (λ t. (normal-means f n y).0 t w p h (reference-sum w h ∙ ap (comb (conjugates f n b)) z ∙ comb-zero (conjugates f n b)))

    module _ (hb : b < 2 ^ n) (free : Independent (conjugates f n b) n) (r : ℕ) (unit : mul_mod (2 ^ n + 1) n r v ≡ 1) where
      -- r undoes v
      undone : (w : ℕ) → w < 2 ^ n → mul_mod (2 ^ n + 1) n (mul_mod (2 ^ n + 1) n w r) v ≡ w
      undone w h =
          let F : ℕ = 2 ^ n + 1 in
          let d : Degree F n = turn_degree n pos in
          mul_mod_assoc F n d w r v ∙ ap (mul_mod F n w) unit ∙ mul_mod_comm F n d w 1 ∙ mul_mod-one_l F n d w h

      pub unit-independent : Independent (conjugates f n y) n
      unit-independent w p h z =
          let F : ℕ = 2 ^ n + 1 in
          let d : Degree F n = turn_degree n pos in
          let u : ℕ = mul_mod F n w v in
          let swap : mul_mod F n (mul_mod F n w r) v ≡ mul_mod F n r u =
          mul_mod_comm F n d (mul_mod F n w r) v ∙ sym (mul_mod_assoc F n d v w r) ∙ mul_mod_comm F n d (mul_mod F n v w) r ∙ ap (mul_mod F n r) (mul_mod_comm F n d v w) in
          ⊎_elim
          (λ (l : u < 1).
          let none : u ≡ 0 = omega arith in
          let e0 : w ≡ 0 = sym (undone w h) ∙ swap ∙ ap (mul_mod F n r) none ∙ mul_mod-zero_r F n r in
          omega arith)
          (λ (l : 1 ≤ u). free u l (mul_mod-lt F n d w v) (sym (reference-sum w h) ∙ z))
          (order u 1)

      pub unit-normal : normal f n y ≡ true
      unit-normal = (normal-means f n y).1 unit-independent

      -- ---- coordinates in the basis of y

      below : y < 2 ^ n
      below = rw (← e) (selected_lt f n deg b hb v hv)

      pub unit-coordinates : (u z : ℕ) → u < 2 ^ n → comb (conjugates f n b) u ≡ z → coordinates f n y z ≡ mul_mod (2 ^ n + 1) n u r
      unit-coordinates u z h s =
          let x : ℕ = mul_mod (2 ^ n + 1) n u r in
          let hx : x < 2 ^ n = mul_mod-lt (2 ^ n + 1) n (turn_degree n pos) u r in
          coordinates_unique f n deg y below unit-independent z x hx
          (reference-sum x hx ∙ ap (comb (conjugates f n b)) (undone u h) ∙ s)

      -- the rows of y's table
      pub unit-table : (i : ℕ) → i < n → get_or (table_rows f n y) i 0 ≡ mul_mod (2 ^ n + 1) n (coordinates f n b (mul_mod f n y (squared f n i y))) r
      unit-table i h =
          let z : ℕ = mul_mod f n y (squared f n i y) in
          let c = coordinates_are f n deg b hb free z (mul_mod-lt f n deg y (squared f n i y)) in
          table_rows-at f n y i h ∙ unit-coordinates (coordinates f n b z) z c.0 c.1

      -- the same through the inverse rows of b: the form that code uses
      pub unit_row : (i : ℕ) → i < n → get_or (table_rows f n y) i 0 ≡ mul_mod (2 ^ n + 1) n (comb (inverse_rows f n b) (mul_mod f n y (squared f n i y))) r
      unit_row i h =
          let z : ℕ = mul_mod f n y (squared f n i y) in
          unit-table i h
          ∙ ap (λ (x : ℕ). mul_mod (2 ^ n + 1) n x r) (sym (convert-coordinates f n deg b hb free z (mul_mod-lt f n deg y (squared f n i y))))
