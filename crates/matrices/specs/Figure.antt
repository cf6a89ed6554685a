-- "Document 000 counts all n matrices T_k, so its figure is n times ours" (document 01, "What a sheet holds"), for every accepted f and
-- every normal element.
--
--   matrix_ones_lem f n a     the number of ones in all n matrices, the figure of source document 000
--   figure_is_n-times    it is n times the complexity
--
-- The n numbers for one i are the table rows, turned by i places and taken in another order.
-- Assumes nothing.
use Rattle.std.specs.Prelude.{◌≡◌, refl, get_or}
use Rattle.std.proofs.Common.{sym, ap₂, ◌∙◌, add-zero, add_comm, suc-mul, zero-mul, pow-suc, mod-lt, mod-eq_of_lt, not-suc-le-zero, add-one, arith}
use Rattle.std.proofs.Math.Path.{ap}
use Prim.Native.Nat.{ℕ, zero, suc, ◌+◌, ◌-◌, ◌*◌, ◌/◌, ◌%◌, ◌^◌, ◌≤◌, ◌<◌}
use Rattle.std.proofs.Math.Nat.{mod_self, mod-add-mod}
use Rattle.std.proofs.Math.Arith.{lt-one}
use Rattle.std.specs.Int.Count.{ones, ones_step}
use Rattle.gf2.specs.Poly.{mul_mod, Degree}
use Rattle.field.specs.Field.{squared}
use Rattle.field.specs.Ring.{mul_mod-lt}
use Rattle.rows.specs.Bits.{bit_of}
use Rattle.normal.specs.Normal.{coordinates, table_rows, complexity}
use Rattle.normal.specs.Coordinates.{table_rows-at, table_rows-length}
use Rattle.normal.proofs.Coordinates.{coordinates_are}
use Rattle.normal.specs.Halves.{total-last, complexity-total}
use Rattle.normal.proofs.Halves.{ones-rotated_by}
use Rattle.normal.specs.ProductBits.{total_ext, total-none, bit_of_half, bit_of-first}
use Rattle.normal.specs.TableProduct.{total}
use Rattle.sheet.proofs.Issuing.{based-degree, based-two, based-free}
use Rattle.sheet.specs.Sheets.{Based}
use Rattle.matrices.specs.Matrices.{matrix_entry}
use Rattle.matrices.specs.Entries.{product-row, row_lt}

unfoldable pub matrix_ones_lem : (f n a : ℕ) → ℕ
matrix_ones_lem f n a = total n (λ k. total n (λ i. total n (λ j. matrix_entry f n a k i j)))

-- ---- sums: of one number, of sums, in the other order, over a cycle of indices

pub total-same : (m c : ℕ) → total m (λ i. c) ≡ m * c
unfolding total
total-same zero c = sym (zero-mul c)
total-same (suc m) c = rw (total-same m c, suc-mul m c) (add_comm c (m * c))

total-add : (m : ℕ) (g h : ℕ → ℕ) → total m (λ i. g i + h i) ≡ total m g + total m h
unfolding total
total-add zero g h = refl
total-add (suc m) g h =
    let ih : total m (λ i. g (suc i) + h (suc i)) ≡ total m (λ i. g (suc i)) + total m (λ i. h (suc i)) = total-add m (λ i. g (suc i)) (λ i. h (suc i)) in
    omega (arith, ih)

total_swap : (m k : ℕ) (g : ℕ → ℕ → ℕ) → total m (λ i. total k (g i)) ≡ total k (λ j. total m (λ i. g i j))
unfolding total
total_swap zero k g = sym (total-none k (λ j. 0) (λ j. refl))
total_swap (suc m) k g =
    ap (λ (x : ℕ). total k (g 0) + x) (total_swap m k (λ i. g (suc i))) ∙ sym (total-add k (g 0) (λ j. total m (λ i. g (suc i) j)))

total_turn : (m : ℕ) (h : ℕ → ℕ) → total (suc m) (λ j. h ((j + 1) % suc m)) ≡ total (suc m) h
total_turn m h =
    total-last m (λ j. h ((j + 1) % suc m))
    ∙ ap₂ ◌+◌
    (total_ext m (λ j. h ((j + 1) % suc m)) (λ j. h (suc j)) (λ j l. ap h (mod-eq_of_lt {n = j + 1} (omega arith) ∙ add-one j)))
    (ap h (ap (λ (x : ℕ). x % suc m) (add-one m) ∙ mod_self (suc m)))
    ∙ add_comm (total m (λ j. h (suc j))) (h 0) ∙ sym (unfold total in refl)

total-turns : (m i : ℕ) (h : ℕ → ℕ) → total (suc m) (λ j. h ((j + i) % suc m)) ≡ total (suc m) h
total-turns m zero h =
    total_ext (suc m) (λ j. h ((j + 0) % suc m)) h (λ j l. ap h (ap (λ (x : ℕ). x % suc m) (add-zero j) ∙ mod-eq_of_lt l))
total-turns m (suc i) h =
    total_ext (suc m) (λ j. h ((j + suc i) % suc m)) (λ j. h (((j + 1) % suc m + i) % suc m))
    (λ j l. ap h (let e : j + suc i ≡ j + 1 + i = omega arith in ap (λ (x : ℕ). x % suc m) e ∙ sym (mod-add-mod (j + 1) (suc m) i)))
    ∙ total_turn m (λ x. h ((x + i) % suc m)) ∙ total-turns m i h

total_cycle : (n : ℕ) → 1 ≤ n → (i : ℕ) (h : ℕ → ℕ) → total n (λ j. h ((j + i) % n)) ≡ total n h
total_cycle zero pos i h = absurd (not-suc-le-zero pos)
total_cycle (suc m) pos i h = total-turns m i h

-- the ones of a number are its bits, summed
ones-total : (n v : ℕ) → v < 2 ^ n → total n (bit_of v) ≡ ones v
unfolding total
ones-total zero v h = rw (lt-one h) (unfold ones in refl)
ones-total (suc n) v h =
    let p : v < 2 ^ n * 2 = rw pow-suc at h in
    let ih : total n (bit_of (v / 2)) ≡ ones (v / 2) = ones-total n (v / 2) (omega arith) in
    sym (ones_step v ∙ ap₂ ◌+◌ (sym (bit_of-first v)) (sym ih ∙ total_ext n (bit_of (v / 2)) (λ j. bit_of v (suc j)) (λ j l. bit_of_half v j)))

-- ---- the ones of the coordinates of c_i times c_j

module _ (f n a : ℕ) (b : Based f n a) where
  deg : Degree f n
  deg = based-degree f n a b

  two : 2 ≤ n
  two = based-two f n a b

  product-ones : (i j : ℕ) → i < n → j < n
      → ones (coordinates f n a (mul_mod f n (squared f n i a) (squared f n j a))) ≡ ones (get_or (table_rows f n a) ((j + (n - i)) % n) 0)
  product-ones i j hi hj =
      let m : ℕ = (j + (n - i)) % n in
      let pos : 1 ≤ n = omega (arith, two) in
      ap ones (product-row f n a b i j hi hj)
      ∙ ones-rotated_by n pos i (coordinates f n a (mul_mod f n a (squared f n m a))) (row_lt f n a b m)
      ∙ ap ones (sym (table_rows-at f n a m (mod-lt (j + (n - i)) pos)))

  -- ---- the figure

  pub figure_is_n-times : matrix_ones_lem f n a ≡ n * complexity (table_rows f n a)
  unfolding matrix_ones_lem matrix_entry
  figure_is_n-times =
      let v : ℕ → ℕ → ℕ = λ i j. coordinates f n a (mul_mod f n (squared f n i a) (squared f n j a)) in
      let row : ℕ → ℕ = λ m. ones (get_or (table_rows f n a) m 0) in
      total_swap n n (λ k i. total n (λ j. bit_of (v i j) k))
      ∙ total_ext n (λ i. total n (λ k. total n (λ j. bit_of (v i j) k))) (λ i. total n row)
      (λ i hi.
      total_swap n n (λ k j. bit_of (v i j) k)
      ∙ total_ext n (λ j. total n (bit_of (v i j))) (λ j. row ((j + (n - i)) % n))
      (λ j hj. ones-total n (v i j) (coordinates_are f n deg a b.below (based-free f n a b) _ (mul_mod-lt f n deg (squared f n i a) (squared f n j a))).0 ∙ product-ones i j hi hj)
      ∙ total_cycle n (omega (arith, two)) (n - i) row)
      ∙ total-same n (total n row)
      ∙ ap (λ (x : ℕ). n * x) (sym (complexity-total (table_rows f n a) ∙ ap (λ (m : ℕ). total m row) (table_rows-length f n a)))
