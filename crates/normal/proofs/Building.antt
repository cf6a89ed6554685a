-- Building a basis: what inversion answers for the conjugates of an element is what the definitions say of it. In order: whether it
-- is normal; its dependency where it is not; its inverse rows and table rows where it is.
-- Assumes nothing.
use Rattle.std.specs.Prelude.{◌≡◌, length, Result, Ok, Err, is_ok}
use Rattle.std.proofs.Math.Path.{sym, ap₂}
use Rattle.std.proofs.Common.{◌∙◌, ap, arith}
use Rattle.std.proofs.Math.Bool.{true, false}
use mathlib.Core.List.{List}
use Prim.Native.Nat.{ℕ, ◌^◌, ◌≤◌, ◌<◌}
use Rattle.std.proofs.Math.ListN.{get_or}
use Rattle.gf2.specs.Limit.{limit}
use Rattle.gf2.specs.Truth.{same_truth}
use Rattle.gf2.specs.Poly.{mul_mod, Degree}
use Rattle.field.specs.Field.{squared}
use Rattle.field.specs.Ring.{mul_mod-lt}
use Rattle.rows.specs.Rows.{comb, Independent, Inverse, Inverts}
use Rattle.rows.specs.Sums.{comb-same}
use Rattle.rows.specs.Inverses.{inverted-inverse, inverted-dependency, inverted-length}
use Rattle.rows.proofs.Inverses.{inverse_unique_at, inverted-independent}
use Rattle.normal.specs.Normal.{conjugates, normal, dependency, listed, inverse_rows, table_rows, padded, coordinates}
use Rattle.normal.specs.Basis.{built_of}
use Rattle.normal.specs.Selected.{conjugates-at, conjugates-length}
use Rattle.normal.specs.Coordinates.{listed_ext, dependency_is, inverse_rows-length}
use Rattle.normal.proofs.Coordinates.{normal-means, inverse_rows-inverse, convert-coordinates}
use Rattle.normal.specs.Filling.{padded-length, padded-at, padded-comb, padded_ext, padded-inverse}

module _ (f n a : ℕ) (deg : Degree f n) (small : n ≤ limit) (ha : a < 2 ^ n) (r : Result (List ℕ) ℕ) (inverts : Inverts (padded (conjugates f n a)) n r) where
  short : length (conjugates f n a) ≤ limit
  short = rw conjugates-length small

  pub inverted-normal : is_ok r ≡ normal f n a
  inverted-normal =
      same_truth (is_ok r) (normal f n a)
      (λ e. (normal-means f n a).1 (λ v p h z. (inverted-independent (padded (conjugates f n a)) n r inverts).0 e v p h (padded-comb (conjugates f n a) v ∙ z)))
      (λ e. (inverted-independent (padded (conjugates f n a)) n r inverts).1 (λ v p h z. (normal-means f n a).0 e v p h (sym (padded-comb (conjugates f n a) v) ∙ z)))

  -- ---- not normal

  module _ (v : ℕ) (e : r ≡ Err v) where
    pub inverted-dependency_is : v ≡ dependency f n a
    inverted-dependency_is =
        let C : List ℕ = conjugates f n a in
        let d = inverted-dependency (padded C) n r inverts v e in
        sym (dependency_is f n a v
        (record {
          positive = d.positive;
          below = d.below;
          vanishes = sym (padded-comb C v) ∙ d.vanishes;
          smallest = λ w p l z. d.smallest w p l (padded-comb C w ∙ z);
        }))

    pub built_dependent : Err v ≡ built_of f n a
    unfolding built_of
    built_dependent =
        let t : normal f n a ≡ false = sym inverted-normal ∙ ap is_ok e in
        rw (t, inverted-dependency_is)

  -- ---- normal

  module _ (inv : List ℕ) (e : r ≡ Ok inv) where
    free : Independent (conjugates f n a) n
    free = (normal-means f n a).0 (sym inverted-normal ∙ ap is_ok e)

    inverse : Inverse (conjugates f n a) n inv
    inverse = padded-inverse (conjugates f n a) inv n (inverted-inverse (padded (conjugates f n a)) n r inverts inv e)

    inverse-at : (i : ℕ) → get_or inv i 0 ≡ get_or (inverse_rows f n a) i 0
    inverse-at = inverse_unique_at (conjugates f n a) n inv inverse (inverse_rows f n a) (inverse_rows-inverse f n deg a ha free)

    pub inverted-inverse-rows : inv ≡ padded (inverse_rows f n a)
    inverted-inverse-rows =
        padded_ext (inverse_rows f n a) inv (rw (inverse_rows-length f n a) small)
        (inverted-length (padded (conjugates f n a)) n r inverts inv e ∙ padded-length (conjugates f n a) short) inverse-at

    pub inverted-table : listed n (λ i. comb inv (mul_mod f n (get_or (padded (conjugates f n a)) 0 0) (get_or (padded (conjugates f n a)) i 0))) ≡ table_rows f n a
    unfolding table_rows squared
    inverted-table =
        let C : List ℕ = conjugates f n a in
        listed_ext n (λ i. comb inv (mul_mod f n (get_or (padded C) 0 0) (get_or (padded C) i 0))) (λ i. coordinates f n a (mul_mod f n a (squared f n i a)))
        (λ i h.
        let first : get_or (padded C) 0 0 ≡ a = padded-at C 0 ∙ conjugates-at f n 0 a (omega arith) in
        let other : get_or (padded C) i 0 ≡ squared f n i a = padded-at C i ∙ conjugates-at f n i a h in
        ap₂ (λ (x y : ℕ). comb inv (mul_mod f n x y)) first other
        ∙ comb-same inv (inverse_rows f n a) inverse-at (mul_mod f n a (squared f n i a))
        ∙ convert-coordinates f n deg a ha free (mul_mod f n a (squared f n i a)) (mul_mod-lt f n deg a (squared f n i a)))

    pub built_normal : (c t : List ℕ) → c ≡ padded (conjugates f n a)
        → t ≡ padded (listed n (λ i. comb inv (mul_mod f n (get_or (padded (conjugates f n a)) 0 0) (get_or (padded (conjugates f n a)) i 0))))
        → Ok (record { conjugates = c; inverse = inv; table = t }) ≡ built_of f n a
    unfolding built_of
    built_normal c t ec et =
        let n-is : normal f n a ≡ true = sym inverted-normal ∙ ap is_ok e in
        rw (n-is, ec, et, inverted-table, inverted-inverse-rows)
