-- The entries of the matrices are those of the table. For c_i c_j is c_0 c_(j-i), squared i times, and each squaring turns bit k into bit
-- k+1.
--
--   product-row, row_lt   the coordinates of c_i c_j: a row of the table, rotated i places
--   entry-table           entry (i,j) of T_k is t((j-i) mod n, (k-i) mod n)
--   text_of_conjugate     all conjugates of a normal element have the same text
--
-- What of this a wrong definition breaks, and what rests on that, stands in `proofs/Entries.antt`.
-- Assumes nothing.
use Rattle.std.specs.Prelude.{◌≡◌}
use Rattle.std.proofs.Math.Path.{sym, ap}
use Rattle.std.proofs.Common.{◌∙◌, ⊎_elim, mod-lt, mod-eq_of_lt, arith}
use Prim.Native.Nat.{ℕ, zero, suc, ◌+◌, ◌-◌, ◌%◌, ◌^◌, ◌≤◌, ◌<◌}
use Rattle.std.proofs.Math.Nat.{mod-add-mod, add-mod_right}
use Rattle.gf2.specs.Numbers.{order}
use Rattle.gf2.specs.Poly.{mul_mod, Degree}
use Rattle.field.specs.Field.{squared}
use Rattle.field.specs.Frobenius.{squared-mul_mod, squared-add, squared_fixes}
use Rattle.field.specs.Ring.{mul_mod-lt}
use Rattle.rows.specs.Bits.{bit_of}
use Rattle.rows.specs.Rows.{Independent}
use Rattle.normal.specs.Normal.{conjugates, coordinates, table_rows}
use Rattle.normal.specs.TableProduct.{rotated_by, entry}
use Rattle.normal.proofs.Rotation.{rotate-bit}
use Rattle.normal.proofs.Turns.{rotated_by-lt}
use Rattle.normal.proofs.Halves.{squared-coordinates}
use Rattle.normal.specs.Coordinates.{table_rows-at}
use Rattle.normal.proofs.Coordinates.{coordinates_are}
use Rattle.sheet.proofs.Issuing.{based-degree, based-two, based-returns, based-free}
use Rattle.sheet.specs.Sheets.{Based}
use Rattle.matrices.specs.Matrices.{matrix_entry}

-- ---- i places back in a cycle of n

back_none : (n k : ℕ) → k < n → (k + (n - 0)) % n ≡ k
back_none n k h = let e : k + (n - 0) ≡ k + n = omega arith in ap (λ (x : ℕ). x % n) e ∙ add-mod_right k n ∙ mod-eq_of_lt h

back_more : (n i k : ℕ) → suc i ≤ n → ((k + (n - 1)) % n + (n - i)) % n ≡ (k + (n - suc i)) % n
back_more n i k h =
    let e : k + (n - 1) + (n - i) ≡ k + (n - suc i) + n = omega arith in
    mod-add-mod (k + (n - 1)) n (n - i) ∙ ap (λ (x : ℕ). x % n) e ∙ add-mod_right (k + (n - suc i)) n

-- rotating i places turns bit k-i into bit k
turned_bit : (n i v k : ℕ) → 1 ≤ n → v < 2 ^ n → i ≤ n → k < n → bit_of (rotated_by n i v) k ≡ bit_of v ((k + (n - i)) % n)
unfolding rotated_by
turned_bit n zero v k pos hv hi hk = ap (bit_of v) (sym (back_none n k hk))
turned_bit n (suc i) v k pos hv hi hk =
    rotate-bit n pos (rotated_by n i v) k (rotated_by-lt n pos i v hv) hk
    ∙ turned_bit n i v ((k + (n - 1)) % n) pos hv (omega arith) (mod-lt (k + (n - 1)) pos)
    ∙ ap (bit_of v) (back_more n i k hi)

-- ---- c_i times c_j

module _ (f n a : ℕ) (b : Based f n a) where
  deg : Degree f n
  deg = based-degree f n a b

  two : 2 ≤ n
  two = based-two f n a b

  free : Independent (conjugates f n a) n
  free = based-free f n a b

  back : squared f n n a ≡ a
  back = squared_fixes f n deg two n (based-returns f n a b) a b.below

  -- c_j is c_(j-i), squared i times
  conjugate-back : (i j : ℕ) → i < n → j < n → squared f n j a ≡ squared f n i (squared f n ((j + (n - i)) % n) a)
  conjugate-back i j hi hj =
      sym
      (sym (squared-add f n deg i ((j + (n - i)) % n) a)
      ∙ ⊎_elim
      (λ (l : j < i).
      let e : (j + (n - i)) % n ≡ j + (n - i) = mod-eq_of_lt (omega arith) in
      let s : i + (j + (n - i)) ≡ j + n = omega arith in
      ap (λ (x : ℕ). squared f n (i + x) a) e ∙ ap (λ (x : ℕ). squared f n x a) s ∙ squared-add f n deg j n a ∙ ap (squared f n j) back)
      (λ (l : i ≤ j).
      let d : ℕ = j - i in
      let t : j + (n - i) ≡ d + n = omega arith in
      let e : (j + (n - i)) % n ≡ d = ap (λ (x : ℕ). x % n) t ∙ add-mod_right d n ∙ mod-eq_of_lt (omega arith) in
      let s : i + d ≡ j = omega arith in
      ap (λ (x : ℕ). squared f n (i + x) a) e ∙ ap (λ (x : ℕ). squared f n x a) s)
      (order j i))

  -- the coordinates of c_i c_j are row j-i of the table, rotated i places
  pub product-row : (i j : ℕ) → i < n → j < n
      → coordinates f n a (mul_mod f n (squared f n i a) (squared f n j a)) ≡ rotated_by n i (coordinates f n a (mul_mod f n a (squared f n ((j + (n - i)) % n) a)))
  product-row i j hi hj =
      let m : ℕ = (j + (n - i)) % n in
      let y : ℕ = mul_mod f n a (squared f n m a) in
      let e : mul_mod f n (squared f n i a) (squared f n j a) ≡ squared f n i y =
      ap (mul_mod f n (squared f n i a)) (conjugate-back i j hi hj) ∙ sym (squared-mul_mod f n deg i a (squared f n m a)) in
      ap (coordinates f n a) e
      ∙ squared-coordinates f n deg two (based-returns f n a b) a b.below free i y (mul_mod-lt f n deg a (squared f n m a))

  pub row_lt : (m : ℕ) → coordinates f n a (mul_mod f n a (squared f n m a)) < 2 ^ n
  row_lt m =
      (coordinates_are f n deg a b.below free (mul_mod f n a (squared f n m a)) (mul_mod-lt f n deg a (squared f n m a))).0

  -- entry (i,j) of T_k is t((j-i) mod n, (k-i) mod n)
  pub entry-table : (k i j : ℕ) → k < n → i < n → j < n → matrix_entry f n a k i j ≡ entry (table_rows f n a) ((j + (n - i)) % n) ((k + (n - i)) % n)
  unfolding matrix_entry
  entry-table k i j hk hi hj =
      let m : ℕ = (j + (n - i)) % n in
      let pos : 1 ≤ n = omega (arith, two) in
      ap (λ (v : ℕ). bit_of v k) (product-row i j hi hj)
      ∙ turned_bit n i (coordinates f n a (mul_mod f n a (squared f n m a))) k pos (row_lt m) (omega arith) hk
      ∙ ap (λ (v : ℕ). bit_of v ((k + (n - i)) % n)) (sym (table_rows-at f n a m (mod-lt (j + (n - i)) pos)))
