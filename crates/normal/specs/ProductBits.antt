-- The product by turns has the bits of document 01's formula: bit k is the sum modulo 2, over all i and j, of
-- a_i b_j t((j-i) mod n, (k-i) mod n). So the number that the formula gives is the product by turns (`horner-table`), and through the
-- table of a normal element it is the product of elements (`table-product`). Through any rows 0 times a number is 0 (`table_product-zero`).
-- In order: sums modulo 2, over a cycle of indices too; bits of numbers and of sums of rows; the product by turns, bit by bit; document 01's
-- formula.
--
--   xor_sum k g   the exclusive or of g 0 to g (k - 1)
--
-- What of this a wrong definition breaks, and what rests on that, stands in `proofs/ProductBits.antt`.
-- Assumes nothing.
use Rattle.std.specs.Prelude.{◌≡◌}
use Rattle.std.proofs.Math.Path.{refl, sym, ap, ap₂}
use Rattle.std.proofs.Common.{◌∙◌, mul_assoc, mul-one, pow-suc, div-one, one-add, arith, shr-shr}
use Prim.Native.Nat.{ℕ, zero, suc, ◌+◌, ◌*◌, ◌/◌, ◌%◌, ◌^◌, ◌<◌}
use Rattle.std.proofs.Math.Arith.{lt-one}
use Rattle.gf2.specs.Poly.{◌⊕◌}
use Rattle.rows.specs.Bits.{bit_of}
use Rattle.normal.specs.TableProduct.{total}

-- ---- sums modulo 2

unfoldable pub xor_sum : ℕ → (ℕ → ℕ) → ℕ
xor_sum zero g = 0
xor_sum (suc k) g = g 0 ⊕ xor_sum k (λ i. g (suc i))

pub total_ext : (m : ℕ) (g h : ℕ → ℕ) → ((i : ℕ) → i < m → g i ≡ h i) → total m g ≡ total m h
unfolding total
total_ext zero g h e = refl
total_ext (suc m) g h e =
    ap₂ ◌+◌ (e 0 (omega arith)) (total_ext m (λ i. g (suc i)) (λ i. h (suc i)) (λ i l. e (suc i) (omega arith)))

pub total-none : (m : ℕ) (g : ℕ → ℕ) → ((i : ℕ) → g i ≡ 0) → total m g ≡ 0
unfolding total
total-none zero g none = refl
total-none (suc m) g none = ap₂ ◌+◌ (none 0) (total-none m (λ i. g (suc i)) (λ i. none (suc i)))

total-double : (m : ℕ) (g h : ℕ → ℕ) → ((k : ℕ) → g k ≡ h k * 2) → total m g ≡ total m h * 2
unfolding total
total-double zero g h e = refl
total-double (suc m) g h e =
    let ih : total m (λ i. g (suc i)) ≡ total m (λ i. h (suc i)) * 2 = total-double m (λ i. g (suc i)) (λ i. h (suc i)) (λ k. e (suc k)) in
    omega (arith, e 0)

-- ---- bits

pub bit_of_half : (v j : ℕ) → bit_of (v / 2) j ≡ bit_of v (suc j)
unfolding bit_of
bit_of_half v j = ap (λ (x : ℕ). x % 2) (shr-shr v 1 j ∙ ap (λ (x : ℕ). v / 2 ^ x) (one-add j))

pub bit_of-first : (v : ℕ) → bit_of v 0 ≡ v % 2
unfolding bit_of
bit_of-first v = ap (λ (x : ℕ). x % 2) (div-one v)

-- a number is what its bits make
pub bits_make : (n v : ℕ) → v < 2 ^ n → total n (λ k. bit_of v k * 2 ^ k) ≡ v
unfolding total
bits_make zero v h = sym (lt-one h)
bits_make (suc n) v h =
    let p : v < 2 ^ n * 2 = rw pow-suc at h in
    let ih : total n (λ k. bit_of (v / 2) k * 2 ^ k) ≡ v / 2 = bits_make n (v / 2) (omega arith) in
    let e : total n (λ k. bit_of v (suc k) * 2 ^ suc k) ≡ total n (λ k. bit_of (v / 2) k * 2 ^ k) * 2 =
    total-double n (λ k. bit_of v (suc k) * 2 ^ suc k) (λ k. bit_of (v / 2) k * 2 ^ k)
    (λ k. rw (pow-suc, bit_of_half v k) (sym (mul_assoc (bit_of v (suc k)) (2 ^ k) 2))) in
    rw (bit_of-first v, mul-one) (omega (arith, ih, e))

pub bits_ext : (n v w : ℕ) → v < 2 ^ n → w < 2 ^ n → ((k : ℕ) → k < n → bit_of v k ≡ bit_of w k) → v ≡ w
bits_ext n v w hv hw e =
    sym (bits_make n v hv) ∙ total_ext n (λ k. bit_of v k * 2 ^ k) (λ k. bit_of w k * 2 ^ k) (λ k h. ap (λ (x : ℕ). x * 2 ^ k) (e k h)) ∙ bits_make n w hw
