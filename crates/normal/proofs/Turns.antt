-- The laws of `specs/Turns.antt` that a wrong definition breaks, and what rests on them. The head there tells of both files.
-- Assumes nothing.
use Rattle.std.specs.Prelude.{◌≡◌, List, length, get_or}
use Rattle.std.proofs.Common.{sym, ap₂, ◌∙◌, div-one, add-zero, zero-mul, mod-lt, mod-eq_of_lt, mul_comm}
use Rattle.std.proofs.Math.Path.{ap}
use Prim.Native.Nat.{ℕ, zero, suc, ◌+◌, ◌-◌, ◌*◌, ◌/◌, ◌%◌, ◌^◌, ◌≤◌, ◌<◌}
use Rattle.std.proofs.Math.Nat.{suc-mul, mod-add-mod, add-mul-mod_self_right, sub-add_cancel}
use native.Mathlib.Omega.{arith}
use Rattle.std.specs.Int.Bits.{bit_xor}
use Rattle.std.proofs.Math.Pow.{shr-shr}
use Rattle.gf2.specs.Poly.{◌⊕◌}
use Rattle.gf2.specs.Sum.{⊕_comm}
use Rattle.rows.specs.Rows.{comb}
use Rattle.rows.specs.Bits.{bit_of}
use Rattle.normal.specs.TableProduct.{rotate, rotated_by, table_product}
use Rattle.normal.proofs.Rotation.{rotate-lt, rotate_back-rotate, rotate-bit}
use Rattle.normal.specs.Products.{horner_product}
use Rattle.normal.proofs.Products.{horner_product-lt}
use Rattle.normal.specs.ProductBits.{bits_ext}
use Rattle.normal.proofs.ProductBits.{horner-table}
use Rattle.normal.specs.Turns.{Taken}

-- ---- rotations in a row

module _ (n : ℕ) (pos : 1 ≤ n) where
  pub rotated_by-lt : (i v : ℕ) → v < 2 ^ n → rotated_by n i v < 2 ^ n
  unfolding rotated_by
  rotated_by-lt zero v h = h
  rotated_by-lt (suc i) v h = rotate-lt n pos (rotated_by n i v) (rotated_by-lt i v h)

  rotated_by-bit : (i v k : ℕ) → v < 2 ^ n → k < n → bit_of (rotated_by n i v) k ≡ bit_of v ((k + i * (n - 1)) % n)
  unfolding rotated_by
  rotated_by-bit zero v k hv hk = ap (bit_of v) (sym (rw (zero-mul, add-zero) (mod-eq_of_lt hk)))
  rotated_by-bit (suc i) v k hv hk =
      let e : k + (n - 1) + i * (n - 1) ≡ k + suc i * (n - 1) = next (n - 1) in
      rotate-bit n pos (rotated_by n i v) k (rotated_by-lt i v hv) hk
      ∙ rotated_by-bit i v ((k + (n - 1)) % n) hv (mod-lt (k + (n - 1)) pos)
      ∙ ap (bit_of v) (mod-add-mod (k + (n - 1)) n (i * (n - 1)) ∙ ap (λ (x : ℕ). x % n) e)
    where
      next : (m : ℕ) → k + m + i * m ≡ k + suc i * m
      next m = rw suc-mul (omega arith)

  -- n rotations are none
  pub rotated_by-round : (v : ℕ) → v < 2 ^ n → rotated_by n n v ≡ v
  rotated_by-round v h =
      bits_ext n (rotated_by n n v) v (rotated_by-lt n v h) h
      (λ k hk. rotated_by-bit n v k h hk ∙ ap (bit_of v) (ap (λ (x : ℕ). (k + x) % n) (mul_comm n (n - 1)) ∙ add-mul-mod_self_right k (n - 1) n ∙ mod-eq_of_lt hk))

  -- ---- the product by turns

  -- bit i of a is taken, with the coordinates rotated once more
  horner_turn : (T : List ℕ) (i a product turned : ℕ) → 0 < i → i ≤ n → turned < 2 ^ n
      → product ≡ horner_product n T (n - i) (a / 2 ^ i) turned
      → rotate n product ⊕ (a / 2 ^ (i - 1) % 2) * comb T (rotate n turned) ≡ horner_product n T (n - (i - 1)) (a / 2 ^ (i - 1)) (rotate n turned)
  unfolding horner_product
  horner_turn T i a product turned p l h e =
      let s : n - (i - 1) ≡ suc (n - i) = omega arith in
      let back : i - 1 + 1 ≡ i = sub-add_cancel p in
      let half : a / 2 ^ (i - 1) / 2 ≡ a / 2 ^ i = shr-shr a (i - 1) 1 ∙ ap (λ (x : ℕ). a / 2 ^ x) back in
      rw (s, half, rotate_back-rotate n pos turned h, ← e) (⊕_comm (rotate n product) _)

module _ (n : ℕ) (pos : 1 ≤ n) (T : List ℕ) (size : length T ≡ n) (row_lt : (i : ℕ) → i < n → get_or T i 0 < 2 ^ n) (a b : ℕ) (hb : b < 2 ^ n) where
  module _ (product turned i : ℕ) (t : Taken n T a b product turned i) where
    pub turned_lt : turned < 2 ^ n
    turned_lt = rw t.turns (rotated_by-lt n pos (n - i) b hb)

    pub product_lt : product < 2 ^ n
    product_lt = rw t.sum (horner_product-lt n pos T row_lt (n - i) (a / 2 ^ i) turned turned_lt)

    -- one turn: both are rotated, and bit i - 1 of a adds the rows that turned now picks
    pub taken_next : 0 < i → (turned' product' part sum : ℕ) → turned' ≡ rotate n turned → product' ≡ rotate n product
        → sum ≡ comb T (rotate n turned) → part ≡ (a / 2 ^ (i - 1) % 2) * sum → Taken n T a b (bit_xor product' part) turned' (i - 1)
    unfolding rotated_by ◌⊕◌
    taken_next p turned' product' part sum et ep es e =
        let s : n - (i - 1) ≡ suc (n - i) = omega (arith, t.most) in
        record {
          most = omega (arith, t.most);
          turns = et ∙ rw (s, t.turns);
          sum = rw (ep, e, es, et) (horner_turn n pos T i a product turned p t.most turned_lt t.sum);
        }

    pub taken-all : i ≡ 0 → product ≡ table_product n T a b
    taken-all z =
        let s : n - i ≡ n = omega arith in
        let back : turned ≡ b = t.turns ∙ ap (λ (k : ℕ). rotated_by n k b) s ∙ rotated_by-round n pos b hb in
        t.sum ∙ ap₂ (λ (k u : ℕ). horner_product n T k u turned) s (ap (λ (k : ℕ). a / 2 ^ k) z ∙ div-one a)
        ∙ ap (horner_product n T n a) back ∙ horner-table n pos T size row_lt a b hb
