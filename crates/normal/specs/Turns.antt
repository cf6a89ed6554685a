-- One turn of each loop over rows and coordinates, as laws on numbers and lists: the list of conjugates, the count of ones,
-- rotations in a row, the product by turns.
--
--   Taken n T a b product turned i   what the loop of a product through the rows T holds, with the bits of a from i upward taken
--
-- What of this a wrong definition breaks, and what rests on that, stands in `proofs/Turns.antt`.
-- Assumes nothing.
use Rattle.std.specs.Prelude.{◌≡◌, List, [], ◌∷◌, ◌++◌, length, get_or, take}
use Rattle.std.proofs.Common.{sym, ◌∙◌, add-zero, zero-add, add_assoc, add-one, ext_get_or, take-suc}
use Rattle.std.proofs.Math.Path.{ap}
use Prim.Native.Nat.{ℕ, ◌+◌, ◌-◌, ◌/◌, ◌^◌, ◌≤◌, ◌<◌}
use native.Mathlib.Omega.{arith}
use Rattle.std.specs.Int.Count.{ones}
use Rattle.field.specs.Field.{squared}
use Rattle.normal.specs.Normal.{conjugates, listed, complexity}
use Rattle.normal.specs.TableProduct.{rotated_by}
use Rattle.normal.specs.Selected.{conjugates-at, conjugates-length}
use Rattle.normal.specs.Coordinates.{listed_at, listed-length}
use Rattle.normal.specs.Products.{horner_product}

-- ---- conjugates

pub conjugates-listed : (f n a : ℕ) → conjugates f n a ≡ listed n (λ i. squared f n i a)
conjugates-listed f n a =
    let size : length (conjugates f n a) ≡ n = conjugates-length f n a in
    ext_get_or 0 (conjugates f n a) (listed n (λ i. squared f n i a)) (size ∙ sym (listed-length n (λ i. squared f n i a)))
    (λ i l. let h : i < n = omega arith in conjugates-at f n i a h ∙ sym (listed_at n (λ i. squared f n i a) i h))

-- ---- the count of ones

complexity-append : (l : List ℕ) (r : ℕ) → complexity (l ++ (r ∷ [])) ≡ complexity l + ones r
unfolding complexity
complexity-append [] r = add-zero (ones r) ∙ sym (zero-add (ones r))
complexity-append (x ∷ l) r = ap (λ (k : ℕ). ones x + k) (complexity-append l r) ∙ sym (add_assoc (ones x) (complexity l) (ones r))

pub complexity_turn : (rows : List ℕ) (i : ℕ) → i < length rows → complexity (take (i + 1) rows) ≡ complexity (take i rows) + ones (get_or rows i 0)
complexity_turn rows i h = rw (add-one, take-suc rows i 0 h) (complexity-append (take i rows) (get_or rows i 0))

-- ---- rotations in a row

-- turned is b rotated as often as bits are taken, and product the product by turns of the bits of a from i upward
pub record Taken (n : ℕ) (T : List ℕ) (a b product turned i : ℕ) : Type 0 where
  pub most : i ≤ n
  pub turns : turned ≡ rotated_by n (n - i) b
  pub sum : product ≡ horner_product n T (n - i) (a / 2 ^ i) turned

pub taken_none : (n : ℕ) (T : List ℕ) (a b : ℕ) → Taken n T a b 0 b n
unfolding rotated_by horner_product
taken_none n T a b = let z : n - n ≡ 0 = omega arith in record { most = omega arith; turns = rw z; sum = rw z }
