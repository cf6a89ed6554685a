-- Products by windows of four bits: all products of one a take its 16 products by numbers below 16, each moved to the place of its window.
-- Their sum is not reduced, so no window waits for another; it stays below x ^ (2n), and is kept in two numbers.
--
--   roomy                        the largest degree whose elements leave room in a word for the move of the fourth window
--   window_at m w j               the entry of m that the window of w at j picks, moved to its place in a word of 64 bits
--   four_windows m w              the sum of the lowest four
--   Unreduced f n a b low high   low + high x ^ n is the product of a and b modulo f, in two numbers below 2 ^ n
--
-- In order: one window; four windows; the product: its start, one turn, its end; the product
-- modulo t ^ n + 1, which is the number 2 ^ n + 1. Assumes nothing.
use Rattle.std.specs.Prelude.{◌≡◌, ℕ, ◌+◌, ◌-◌, ◌*◌, ◌/◌, ◌%◌, ◌^◌, ◌<◌, ◌≤◌, List, bit_and, bit_xor, slice_index, slice_index_or}
use Rattle.std.proofs.Common.{sym, ap₂, ◌∙◌, ⊎_elim, add_comm, zero-mul, mul-one, div-one, mod-lt, mod-eq_of_lt, pow_pos, pow_mono, shl_lt, shr_lt, shr-shr}
use Rattle.std.proofs.Math.Path.{ap}
use Rattle.std.proofs.Math.Nat.{div-eq_of_lt, mod-one, sub-add_cancel}
use native.Mathlib.Omega.{arith}
use Rattle.std.proofs.lemmas.Nat.{and_mask, shl-shr, mod-pow-add}
use Rattle.std.proofs.Math.Pow.{pow-lt, shl_exact, split, mod-mod-pow}
use Rattle.gf2.specs.Poly.{◌⊕◌, product, rem, mul_mod, Degree}
use Rattle.gf2.specs.Limit.{limit}
use Rattle.gf2.specs.Numbers.{order}
use Rattle.gf2.specs.Sum.{⊕-low, ⊕-lt, ⊕_comm, ⊕-zero, ⊕-four, ⊕_middle, ⊕_top}
use Rattle.gf2.specs.Product.{product-one_r, product-power, product_shift_r, product-⊕_r}
use Rattle.gf2.specs.Remainder.{rem-zero, rem-⊕, rem_unique, rem_shift, mul_mod-zero_r}
use Rattle.field.specs.Ring.{mul_mod-lt, mul_mod-⊕_r, one-lt}
use Rattle.rows.specs.Linear.{linear_shift}
use Rattle.normal.proofs.Reference.{turn_degree}
use Rattle.elements.specs.Multiples.{multiples_of, multiples-at}

-- A turn moves its windows by 0, 4, 8 and 12 places, each within a word of 64 bits: an element has to leave 12 of them free.
abbrev pub roomy : ℕ
roomy = 64 - 12

-- the one place where the limit is compared with this room: a limit above it wants turns of fewer windows
pub limit-roomy : (n : ℕ) → n ≤ limit → n ≤ roomy
limit-roomy n h = omega arith

unfoldable pub window_at : (m : List ℕ) (w j : ℕ) → ℕ
window_at m w j = slice_index m (w / 2 ^ j % 16) * 2 ^ j % 2 ^ 64

unfoldable pub four_windows : (m : List ℕ) (w : ℕ) → ℕ
four_windows m w = ((slice_index_or m (w % 16) 0 ⊕ window_at m w 4) ⊕ window_at m w 8) ⊕ window_at m w 12

pub record Unreduced (f n a b low high : ℕ) : Type 0 where
  pub low-lt : low < 2 ^ n
  pub high_lt : high < 2 ^ n
  pub whole : rem f n (high * 2 ^ n + low) ≡ mul_mod f n a b

-- one more window of w, of j bits at k
next_window : (w j k : ℕ) → w % 2 ^ k ⊕ w / 2 ^ k % 2 ^ j * 2 ^ k ≡ w % 2 ^ (j + k)
next_window w j k =
    ⊕_comm (w % 2 ^ k) _ ∙ ⊕-low (w / 2 ^ k % 2 ^ j) k (w % 2 ^ k) (mod-lt w (pow_pos k)) ∙ sym (mod-pow-add w j k)

module _ (f n : ℕ) (deg : Degree f n) (small : n ≤ roomy) (a : ℕ) where
  -- ---- one window

  -- what is moved up may be reduced before
  rem-moved : (x k : ℕ) → rem f n (rem f n x * 2 ^ k) ≡ rem f n (x * 2 ^ k)
  rem-moved x k =
      ap (rem f n) (sym (⊕-zero (rem f n x * 2 ^ k))) ∙ rem_shift f n deg x k 0 ∙ ap (rem f n) (⊕-zero (x * 2 ^ k))

  moved : (d k : ℕ) → rem f n (mul_mod f n a d * 2 ^ k) ≡ mul_mod f n a (d * 2 ^ k)
  unfolding mul_mod
  moved d k = rem-moved (product a d) k ∙ ap (rem f n) (sym (product_shift_r a d k))

  window_is : (w j : ℕ) → j ≤ 12 → window_at (multiples_of f n a) w j ≡ mul_mod f n a (w / 2 ^ j % 16) * 2 ^ j
  unfolding window_at
  window_is w j h =
      ap (λ (x : ℕ). x * 2 ^ j % 2 ^ 64) (multiples-at f n a (w / 2 ^ j % 16) (omega arith))
      ∙ shl_exact n j 64 (mul_mod-lt f n deg a (w / 2 ^ j % 16)) (omega (arith, small))

  -- the lowest window is in its place
  window_lowest : (w : ℕ) → slice_index (multiples_of f n a) (w % 16) ≡ window_at (multiples_of f n a) w 0
  window_lowest w =
      multiples-at f n a (w % 16) (omega arith)
      ∙ sym (window_is w 0 (omega arith) ∙ ap (λ (x : ℕ). mul_mod f n a (x % 16) * 1) (div-one w) ∙ mul-one (mul_mod f n a (w % 16)))

  -- the highest bit of w bounds what a window picks; above it nothing is picked
  window_lt : (w p j : ℕ) → j ≤ 12 → w < 2 ^ p → window_at (multiples_of f n a) w j < 2 ^ (n + p)
  window_lt w p j h l =
      ⊎_elim
      (λ (q : j < p).
      let further : 2 ^ (n + j) < 2 ^ (n + p) = pow-lt {i = n + j} {j = n + p} (omega arith) in
      rw (window_is w j h) (omega (arith, shl_lt n j (mul_mod-lt f n deg a (w / 2 ^ j % 16)), further)))
      (λ (q : p ≤ j).
      let none : w / 2 ^ j ≡ 0 = div-eq_of_lt {n = w} {m = 2 ^ j} (omega (arith, pow_mono q)) in
      rw (window_is w j h, none, mul_mod-zero_r f n a, zero-mul (2 ^ j)) (pow_pos (n + p)))
      (order j p)

  window_rem : (w j : ℕ) → j ≤ 12 → rem f n (window_at (multiples_of f n a) w j) ≡ mul_mod f n a (w / 2 ^ j % 16 * 2 ^ j)
  window_rem w j h = ap (rem f n) (window_is w j h) ∙ moved (w / 2 ^ j % 16) j

  -- ---- four windows

  four-lt : (w p : ℕ) → w < 2 ^ p → four_windows (multiples_of f n a) w < 2 ^ (n + p)
  unfolding four_windows
  four-lt w p h =
      let m : List ℕ = multiples_of f n a in
      let s : ℕ = n + p in
      rw (window_lowest w)
      (⊕-lt s _ (window_at m w 12)
      (⊕-lt s _ (window_at m w 8)
      (⊕-lt s (window_at m w 0) (window_at m w 4) (window_lt w p 0 (omega arith) h) (window_lt w p 4 (omega arith) h))
      (window_lt w p 8 (omega arith) h))
      (window_lt w p 12 (omega arith) h))

  four-rem : (w : ℕ) → rem f n (four_windows (multiples_of f n a) w) ≡ mul_mod f n a (w % 65536)
  unfolding four_windows
  four-rem w =
      let m : List ℕ = multiples_of f n a in
      let g : ℕ → ℕ = λ j. w / 2 ^ j % 16 * 2 ^ j in
      let first : g 0 ≡ w % 2 ^ 4 = omega arith in
      let digits : ((g 0 ⊕ g 4) ⊕ g 8) ⊕ g 12 ≡ w % 65536 =
      ap (λ (x : ℕ). ((x ⊕ g 4) ⊕ g 8) ⊕ g 12) first
      ∙ ap (λ (x : ℕ). (x ⊕ g 8) ⊕ g 12) (next_window w 4 4)
      ∙ ap (λ (x : ℕ). x ⊕ g 12) (next_window w 4 8)
      ∙ next_window w 4 12 in
      rw (window_lowest w, rem-⊕ f n deg, rem-⊕ f n deg, rem-⊕ f n deg)
      (rw (window_rem w 0 (omega arith), window_rem w 4 (omega arith), window_rem w 8 (omega arith), window_rem w 12 (omega arith))
      (sym (ap (mul_mod f n a) (sym digits) ∙ rw (mul_mod-⊕_r f n deg a, mul_mod-⊕_r f n deg a, mul_mod-⊕_r f n deg a))))

  -- ---- the product

  pub wide-first : (b : ℕ) → Unreduced f n a (b % 2 ^ 0) 0 0
  wide-first b =
      record {
        low-lt = pow_pos n;
        high_lt = pow_pos n;
        whole = rw (zero-mul (2 ^ n)) (rem-zero f n ∙ sym (ap (mul_mod f n a) (mod-one b) ∙ mul_mod-zero_r f n a));
      }

  -- one more turn, at k
  wide_turn : (b k low high part : ℕ) → b < 2 ^ n → k < n → part ≡ four_windows (multiples_of f n a) (b / 2 ^ k) → Unreduced f n a (b % 2 ^ k) low high
      → Unreduced f n a (b % 2 ^ (k + 16)) (low ⊕ part * 2 ^ k % 2 ^ n) (high ⊕ part / 2 ^ (n - k))
  wide_turn b k low high part hb hk e u =
      let j : ℕ = n - k in
      let back : j + k ≡ n = sub-add_cancel (omega (arith, hk)) in
      let pl : ℕ = part * 2 ^ k % 2 ^ n in
      let ph : ℕ = part / 2 ^ j in
      let bl : b / 2 ^ k < 2 ^ j = shr_lt j k (rw back hb) in
      let part-lt : part < 2 ^ (n + j) = rw e (four-lt (b / 2 ^ k) j bl) in
      let pl-lt : pl < 2 ^ n = mod-lt (part * 2 ^ k) (pow_pos n) in
      let ph-lt : ph < 2 ^ n = shr_lt n j part-lt in
      let high_part : part * 2 ^ k / 2 ^ n ≡ ph =
      ap (λ (x : ℕ). part * 2 ^ k / 2 ^ x) (sym (add_comm k j ∙ back)) ∙ sym (shr-shr (part * 2 ^ k) k j) ∙ ap (λ (x : ℕ). x / 2 ^ j) (shl-shr part k) in
      let whole_part : ph * 2 ^ n ⊕ pl ≡ part * 2 ^ k = ⊕-low ph n pl pl-lt ∙ ap (λ (x : ℕ). x * 2 ^ n + pl) (sym high_part) ∙ split (part * 2 ^ k) n in
      let both : (high ⊕ ph) * 2 ^ n + (low ⊕ pl) ≡ (high * 2 ^ n + low) ⊕ part * 2 ^ k =
      sym (⊕-low (high ⊕ ph) n (low ⊕ pl) (⊕-lt n low pl u.low-lt pl-lt))
      ∙ ap (λ (x : ℕ). x ⊕ (low ⊕ pl)) (linear_shift n high ph)
      ∙ ⊕-four (high * 2 ^ n) (ph * 2 ^ n) low pl
      ∙ ap₂ (λ (x y : ℕ). x ⊕ y) (⊕-low high n low u.low-lt) whole_part in
      let moved-part : rem f n (part * 2 ^ k) ≡ mul_mod f n a (b / 2 ^ k % 65536 * 2 ^ k) =
      sym (rem-moved part k) ∙ ap (λ (x : ℕ). rem f n (x * 2 ^ k)) (ap (rem f n) e ∙ four-rem (b / 2 ^ k)) ∙ moved (b / 2 ^ k % 65536) k in
      let sum : b % 2 ^ k ⊕ b / 2 ^ k % 65536 * 2 ^ k ≡ b % 2 ^ (k + 16) =
      next_window b 16 k ∙ ap (λ (x : ℕ). b % 2 ^ x) (add_comm 16 k) in
      record {
        low-lt = ⊕-lt n low pl u.low-lt pl-lt;
        high_lt = ⊕-lt n high ph u.high_lt ph-lt;
        whole = ap (rem f n) both ∙ rem-⊕ f n deg (high * 2 ^ n + low) (part * 2 ^ k) ∙ ap₂ (λ (x y : ℕ). x ⊕ y) u.whole moved-part
            ∙ sym (mul_mod-⊕_r f n deg a (b % 2 ^ k) (b / 2 ^ k % 65536 * 2 ^ k)) ∙ ap (mul_mod f n a) sum;
      }

  -- the same as the loop takes it, with the table m and 2 ^ n as p
  pub wide_step : (m : List ℕ) → m ≡ multiples_of f n a → (b k p low high part : ℕ) → b < 2 ^ n → k < n → p ≡ 2 ^ n → part ≡ four_windows m (b / 2 ^ k)
      → Unreduced f n a (b % 2 ^ k) low high
      → Unreduced f n a (b % 2 ^ (k + 16)) (bit_xor low (bit_and (part * 2 ^ k % 2 ^ 64) (p - 1))) (bit_xor high (part / 2 ^ (n - k)))
  unfolding ◌⊕◌
  wide_step m em b k p low high part hb hk ep e u =
      let word : 64 - n + n ≡ 64 = sub-add_cancel (omega (arith, small)) in
      let masked : bit_and (part * 2 ^ k % 2 ^ 64) (p - 1) ≡ part * 2 ^ k % 2 ^ n =
      rw ep (and_mask (part * 2 ^ k % 2 ^ 64) n ∙ ap (λ (x : ℕ). part * 2 ^ k % 2 ^ x % 2 ^ n) (sym word) ∙ mod-mod-pow (part * 2 ^ k) (64 - n) n) in
      rw masked (wide_turn b k low high part hb hk (e ∙ ap (λ (t : List ℕ). four_windows t (b / 2 ^ k)) em) u)

  -- all of b is taken
  pub wide-last : (b k low high : ℕ) → b < 2 ^ n → n ≤ k → Unreduced f n a (b % 2 ^ k) low high → Unreduced f n a b low high
  wide-last b k low high h l u = let all : b % 2 ^ k ≡ b = mod-eq_of_lt (omega (arith, pow_mono l)) in rw all at u

-- ---- modulo t ^ n + 1, where t ^ n is 1

pub wide-turned : (n : ℕ) → 1 ≤ n → (a b low high : ℕ) → Unreduced (2 ^ n + 1) n a b low high → bit_xor low high ≡ mul_mod (2 ^ n + 1) n a b
unfolding ◌⊕◌
wide-turned n pos a b low high u =
    let multiple : product high (2 ^ n + 1) ≡ high * 2 ^ n ⊕ high =
    ap (product high) (sym (⊕_top n 1 (one-lt n pos))) ∙ product-⊕_r high (2 ^ n) 1 ∙ ap₂ (λ (x y : ℕ). x ⊕ y) (product-power high n) (product-one_r high) in
    let parts : high * 2 ^ n + low ≡ product high (2 ^ n + 1) ⊕ (low ⊕ high) =
    sym (ap₂ (λ (x y : ℕ). x ⊕ y) multiple (⊕_comm low high) ∙ ⊕_middle (high * 2 ^ n) high low ∙ ⊕-low high n low u.low-lt) in
    rem_unique (2 ^ n + 1) n (turn_degree n pos) (high * 2 ^ n + low) high (low ⊕ high) parts (⊕-lt n low high u.low-lt u.high_lt) ∙ u.whole
