-- An element y seen through a reference: what bytes pick is its coordinates in the reference's basis; a witness for them decides whether y is
-- normal, and gives the rows of its table. Last: the sums have one reference alone.
-- Assumes nothing.
use Rattle.std.specs.Prelude.{◌≡◌, ℕ, ◌+◌, ◌^◌, ◌<◌, true, false, List, slice_index}
use Rattle.std.proofs.Common.{sym, ap, ◌∙◌, arith, pow_mono}
use Rattle.std.proofs.Math.Nat.{ℕ_set}
use Rattle.std.proofs.Math.Path.{path_j}
use Rattle.std.proofs.Math.Bool.{Bool-set}
use mathlib.Core.List.{is_set}
use Rattle.std.specs.Coded.{le_prop}
use Rattle.gf2.specs.Poly.{mul_mod}
use Rattle.field.specs.Field.{squared}
use Rattle.field.specs.Frobenius.{squared_fixes, squared_start}
use Rattle.field.specs.Ring.{one-lt}
use Rattle.rows.specs.Rows.{comb, Independent}
use Rattle.rows.specs.Sums.{comb-lt, comb-power}
use Rattle.rows.specs.ByteSums.{bytes, byte_sums, picked_bytes, bytes_pick}
use Rattle.normal.specs.Normal.{conjugates, normal, inverse_rows, table_rows, padded}
use Rattle.normal.proofs.Coordinates.{normal-means, inverse_rows-inverse, there_and_back, back-and-there}
use Rattle.normal.specs.Filling.{padded-comb}
use Rattle.normal.specs.Selected.{conjugates-at}
use Rattle.normal.proofs.Reference.{zero_not_normal, unit-normal, unit_row}
use Rattle.elements.specs.Fields.{FieldOf, FieldOf-prop}
use Rattle.elements.specs.Reference.{Reference, through}
use Rattle.elements.specs.Units.{Witnesses}
use Rattle.elements.specs.declared.units.Witness.{Witness}
use Rattle.elements.specs.declared.units.Witness.TheVariants.{Inverse, Vanishes}

module _ (f n : ℕ) (sums : List ℕ) (ref : Reference f n sums) where
  -- ---- what bytes pick

  free : Independent (conjugates f n ref.element) n
  free = (normal-means f n ref.element).0 ref.is_normal

  fixed : squared f n n ref.element ≡ ref.element
  fixed = squared_fixes f n ref.of_field.is_degree ref.of_field.two n ref.of_field.returns ref.element ref.below

  pub through-comb : (z : ℕ) → z < 2 ^ n → through sums z ≡ comb (inverse_rows f n ref.element) z
  through-comb z h =
      ap (λ (s : List ℕ). picked_bytes bytes s z) ref.held
      ∙ bytes_pick bytes (padded (inverse_rows f n ref.element)) z (omega (arith, pow_mono ref.of_field.most))
      ∙ padded-comb (inverse_rows f n ref.element) z

  pub through-lt : (z : ℕ) → z < 2 ^ n → through sums z < 2 ^ n
  through-lt z h =
      rw (through-comb z h)
      (comb-lt n (inverse_rows f n ref.element) (inverse_rows-inverse f n ref.of_field.is_degree ref.element ref.below free).shape.row_lt z)

  module _ (y : ℕ) (hy : y < 2 ^ n) where
    image_of : comb (conjugates f n ref.element) (through sums y) ≡ y
    image_of =
        ap (comb (conjugates f n ref.element)) (through-comb y hy)
        ∙ there_and_back f n ref.of_field.is_degree ref.element ref.below free y hy

    -- ---- normal or not

    through-vanishes : (w : ℕ) → 0 < w → w < 2 ^ n → mul_mod (2 ^ n + 1) n w (through sums y) ≡ 0 → normal f n y ≡ false
    through-vanishes =
        zero_not_normal f n ref.of_field.is_degree (omega (arith, ref.of_field.two)) ref.element fixed y (through sums y) (through-lt y hy) image_of

    -- what a witness for the coordinates of y says of y
    module _ (v : ℕ) (ev : v ≡ through sums y) (x : Witness) (known : Witnesses n v x) where
      pub witness_vanishes : (w : ℕ) → x ≡ Vanishes w → normal f n y ≡ false
      witness_vanishes w e =
          let k : Witnesses n (through sums y) (Vanishes w) = rw (e, ev) at known in
          through-vanishes w k.0 k.1 k.2

      pub witness_inverse : (r : ℕ) → x ≡ Inverse r → (r < 2 ^ n) × (mul_mod (2 ^ n + 1) n r (through sums y) ≡ 1)
      witness_inverse r e =
          let k : Witnesses n (through sums y) (Inverse r) = rw (e, ev) at known in
          k

    module _ (r : ℕ) (unit : mul_mod (2 ^ n + 1) n r (through sums y) ≡ 1) where
      pub through-normal : normal f n y ≡ true
      through-normal =
          unit-normal f n ref.of_field.is_degree (omega (arith, ref.of_field.two)) ref.element fixed y (through sums y) (through-lt y hy) image_of
          ref.below free r unit

      -- row i of the table of y, where p is the product whose coordinates are taken
      pub through-row : (i p : ℕ) → i < n → p < 2 ^ n → p ≡ mul_mod f n y (squared f n i y)
          → slice_index (table_rows f n y) i ≡ mul_mod (2 ^ n + 1) n (through sums p) r
      through-row i p h hp e =
          unit_row f n ref.of_field.is_degree (omega (arith, ref.of_field.two)) ref.element fixed y (through sums y) (through-lt y hy) image_of
          ref.below free r unit i h
          ∙ ap (λ (x : ℕ). mul_mod (2 ^ n + 1) n (comb (inverse_rows f n ref.element) x) r) (sym e)
          ∙ ap (λ (x : ℕ). mul_mod (2 ^ n + 1) n x r) (sym (through-comb p hp))

-- ---- which element a reference is

-- it is the one whose coordinates in its own basis are 1, so that only one proof says whose sums these are, as a field of a type is to have
module _ (f n : ℕ) (sums : List ℕ) where
  first_conjugate : (x : Reference f n sums) → comb (conjugates f n x.element) 1 ≡ x.element
  first_conjugate x =
      comb-power (conjugates f n x.element) 0 ∙ conjugates-at f n 0 x.element (omega (arith, x.of_field.two)) ∙ sym (squared_start f n x.element)

  own_coordinates : (x : Reference f n sums) → through sums x.element ≡ 1
  own_coordinates x =
      through-comb f n sums x x.element x.below
      ∙ ap (comb (inverse_rows f n x.element)) (sym (first_conjugate x))
      ∙ back-and-there f n x.of_field.is_degree x.element x.below (free f n sums x) 1 (one-lt n (omega (arith, x.of_field.two)))

  same_element : (x y : Reference f n sums) → x.element ≡ y.element
  same_element x y =
      sym (image_of f n sums y x.element x.below)
      ∙ ap (comb (conjugates f n y.element)) (own_coordinates x)
      ∙ first_conjugate y

  abbrev Parts : ℕ → Type 0
  Parts e = FieldOf f n × (e < 2 ^ n) × (normal f n e ≡ true) × (sums ≡ byte_sums bytes (padded (inverse_rows f n e)))

  made : (e : ℕ) → Parts e → Reference f n sums
  made e p = record { of_field = p.0; element = e; below = p.1; is_normal = p.2; held = p.3 }

  parts : (x : Reference f n sums) → Parts x.element
  parts x = (x.of_field, x.below, x.is_normal, x.held)

  parts-prop : (e : ℕ) → IsProp (Parts e)
  parts-prop e = hlevel (FieldOf-prop f n, le_prop, Bool-set, is_set ℕ_set)

  same : (e : ℕ) (u : Parts e) {d : ℕ} → e ≡ d → (v : Parts d) → made e u ≡ made d v
  same e u = path_j (λ (d : ℕ) q. (v : Parts d) → made e u ≡ made d v) (λ v. ap (made e) (parts-prop e u v))

  pub reference-prop : IsProp (Reference f n sums)
  unfolding made parts
  reference-prop x y = same x.element (parts x) (same_element x y) (parts y)
