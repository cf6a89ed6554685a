-- How often a byte stands in a text: the digit 1 as often as the entries sum to, and byte 10 once for each line. "The ones written number n
-- times our complexity" (document 02, §4): `ones_written`.
-- What of this a wrong definition breaks, and what rests on that, stands in `proofs/Counting.antt`.
-- Assumes nothing.
use Rattle.std.specs.Prelude.{◌≡◌, List, eqb}
use Rattle.std.proofs.Math.Path.{refl, ap}
use Rattle.std.proofs.Common.{◌∙◌}
use Rattle.std.proofs.Math.Bool.{cond}
use Prim.Native.Nat.{ℕ, zero, suc, ◌+◌}
use Rattle.normal.specs.Normal.{listed}
use Rattle.normal.specs.TableProduct.{total}
use Rattle.matrices.specs.Matrices.{in_order, digit_byte}
use Rattle.matrices.specs.Orders.{count_of}
use Rattle.matrices.specs.CommonLines.{count-append}

-- the byte of a one
abbrev pub one_byte : ℕ
one_byte = digit_byte 1

module _ (b : ℕ) where
  pub count-in_order : (m : ℕ) (h : ℕ → List ℕ) → count_of b (in_order m h) ≡ total m (λ i. count_of b (h i))
  unfolding in_order total
  count-in_order zero h = unfold count_of in refl
  count-in_order (suc m) h =
      count-append b (h 0) (in_order m (λ i. h (suc i))) ∙ ap (λ (x : ℕ). count_of b (h 0) + x) (count-in_order m (λ i. h (suc i)))

  pub count-listed : (m : ℕ) (g : ℕ → ℕ) → count_of b (listed m g) ≡ total m (λ i. cond (eqb (g i) b) 1 0)
  unfolding listed total count_of
  count-listed zero g = refl
  count-listed (suc m) g = ap (λ (x : ℕ). cond (eqb (g 0) b) 1 0 + x) (count-listed m (λ i. g (suc i)))
