-- Polynomials moved up to the top of a 64-bit word, where remainders and products are computed.
--
--   rem-raised                    moved up by k, a remainder modulo f is one modulo f * 2 ^ k
--   raised-degree                 2 ^ 64 + low has degree 64
--   times-x-raised                x times a modulo 2 ^ 64 + low: the coefficient that leaves the word is taken away with low
--   rem_fits                      where a polynomial moved up still fits into the word, it is its own remainder
--   rem_lowered, mul_mod_lowered   f moved up is 2 ^ 64 + low, so a remainder or a product modulo that, moved down, is one modulo f
--   rem_appended                  what is moved up by 64 places and reduced, and 64 coefficients behind it
--   rem-raised-first              what is reduced modulo f moved up still has its remainder modulo f
--
-- Assumes nothing.
use Rattle.std.specs.Prelude.{◌≡◌, ℕ, ◌+◌, ◌-◌, ◌*◌, ◌/◌, ◌%◌, ◌^◌, ◌<◌, ◌≤◌, refl}
use Rattle.std.proofs.Common.{sym, ap, ◌∙◌, ⊎_elim, zero-mul, one-mul, arith, shl_lt, shl_exact}
use Rattle.std.proofs.lemmas.Nat.{shl-shr}
use Rattle.gf2.specs.Poly.{◌⊕◌, product, reduce, rem, mul_mod, Degree}
use Rattle.gf2.specs.Numbers.{order}
use Rattle.gf2.specs.Sum.{⊕-zero, ⊕_comm, ⊕_middle, ⊕_top, ⊕_shl}
use Rattle.gf2.specs.Product.{product_shift_l, product_shift_r}
use Rattle.gf2.specs.Degrees.{degree_shift}
use Rattle.gf2.specs.Remainder.{reduce-small, reduce_large, rem-small, rem_lt, rem-⊕, rem-quotient, rem-same, rem_unique, mul_mod-zero_l}

-- ---- moved up by k places

pub rem-raised : (f n : ℕ) → Degree f n → (k a : ℕ) → rem (f * 2 ^ k) (n + k) (a * 2 ^ k) ≡ rem f n a * 2 ^ k
rem-raised f n deg k a =
    let q = rem-quotient f n a in
    let e : a * 2 ^ k ≡ product q.0 (f * 2 ^ k) ⊕ rem f n a * 2 ^ k =
    ap (λ (x : ℕ). x * 2 ^ k) q.1 ∙ rw (⊕_shl, product_shift_r) in
    sym (rem_unique (f * 2 ^ k) (n + k) (degree_shift f n k deg) (a * 2 ^ k) q.0 (rem f n a * 2 ^ k) e (shl_lt n k (rem_lt f n deg a)))

-- ---- modulo 2 ^ 64 + low

pub raised-degree : (low : ℕ) → low < 2 ^ 64 → Degree (2 ^ 64 + low) 64
raised-degree low h = record { low = omega arith; high = omega arith }

-- the top term falls off the word
top_falls : (g : ℕ) → Degree g 64 → 2 ^ 64 + g % 2 ^ 64 ≡ g
top_falls g d = omega (arith, d.low, d.high)

-- the coefficient that a shift moves out of the word is taken away with low
pub times-x-raised : (low a : ℕ) → low < 2 ^ 64 → a < 2 ^ 64 → a * 2 % 2 ^ 64 ⊕ (a / 2 ^ 63) * low ≡ reduce (2 ^ 64 + low) 64 (a * 2)
times-x-raised low a hl ha =
    let g : ℕ = 2 ^ 64 + low in
    let t : ℕ = a * 2 % 2 ^ 64 in
    ⊎_elim
    (λ (h : a * 2 < 2 ^ 64).
    let z : a / 2 ^ 63 ≡ 0 = omega arith in
    let s : t ≡ a * 2 = omega arith in
    rw (z, s, zero-mul, ⊕-zero) (sym (reduce-small g 64 (a * 2) h)))
    (λ (h : 2 ^ 64 ≤ a * 2).
    let z : a / 2 ^ 63 ≡ 1 = omega arith in
    let s : a * 2 ≡ 2 ^ 64 + t = omega arith in
    rw (z, one-mul)
    (sym (⊕_middle t (2 ^ 64) low)
    ∙ rw (⊕_comm t (2 ^ 64), ⊕_top 64 t (omega arith), ⊕_top 64 low hl, ← s) (sym (reduce_large g 64 (a * 2) h))))
    (order (a * 2) (2 ^ 64))

-- no coefficient has left the word yet, so none is to be taken away
pub rem_fits : (g y j k : ℕ) → y < 2 ^ j → j + k ≡ 64 → y * 2 ^ k % 2 ^ 64 ≡ rem g 64 (y * 2 ^ k)
rem_fits g y j k h s =
    shl_exact j k 64 h (omega arith) ∙ sym (rem-small g 64 (y * 2 ^ k) (rw s at (shl_lt j k h)))

-- ---- down again

pub rem_lowered : (f n k a r : ℕ) → Degree f n → n + k ≡ 64
    → r ≡ rem (2 ^ 64 + f * 2 ^ k % 2 ^ 64) 64 (a * 2 ^ k) → r / 2 ^ k ≡ rem f n a
rem_lowered f n k a r deg s p =
    let d : Degree (f * 2 ^ k) 64 = rw s at (degree_shift f n k deg) in
    let m : rem (f * 2 ^ k) 64 (a * 2 ^ k) ≡ rem f n a * 2 ^ k = rw s at (rem-raised f n deg k a) in
    rw (p, top_falls (f * 2 ^ k) d, m) (shl-shr (rem f n a) k)

module _ (f n a b : ℕ) (deg : Degree f n) (h : a < 2 ^ n) where
  lowered_by : (k : ℕ) → n + k ≡ 64 → mul_mod (2 ^ 64 + f * 2 ^ k % 2 ^ 64) 64 (a * 2 ^ k % 2 ^ 64) b / 2 ^ k ≡ mul_mod f n a b
  unfolding mul_mod
  lowered_by k s = rw (shl_exact n k 64 h (omega arith), product_shift_l) (rem_lowered f n k (product a b) _ deg s refl)

  -- for n = 0 nothing is moved, and a is 0
  pub mul_mod_lowered : n < 64 → (k sum : ℕ) → k ≡ (64 - n) % 64
      → sum ≡ mul_mod (2 ^ 64 + f * 2 ^ k % 2 ^ 64) 64 (a * 2 ^ k % 2 ^ 64) b → sum / 2 ^ k ≡ mul_mod f n a b
  mul_mod_lowered small k sum e p =
      rw p
      (⊎_elim
      (λ (l : n < 1).
      let zn : n ≡ 0 = omega arith in
      let zk : k ≡ 0 = omega arith in
      let u : a < 2 ^ 0 = rw zn at h in
      let za : a ≡ 0 = omega arith in
      rw (zk, za, mul_mod-zero_l, mul_mod-zero_l))
      (λ (l : 1 ≤ n). lowered_by k (omega arith))
      (order n 1))

-- ---- left up: 64 coefficients more, and the remainder modulo f at last

-- m is a moved up by 64 places, reduced
pub rem_appended : (g a m s : ℕ) → Degree g 64 → s < 2 ^ 64 → m ≡ rem g 64 (a * 2 ^ 64) → m ⊕ s ≡ rem g 64 (a * 2 ^ 64 ⊕ s)
rem_appended g a m s deg h e = rw (e, rem-⊕ g 64 deg (a * 2 ^ 64) s, rem-small g 64 s h)

-- f moved up is a multiple of f
pub rem-raised-first : (f n k a : ℕ) → Degree f n → n + k ≡ 64 → rem f n (rem (2 ^ 64 + f * 2 ^ k % 2 ^ 64) 64 a) ≡ rem f n a
rem-raised-first f n k a deg s =
    let d : Degree (f * 2 ^ k) 64 = rw s at (degree_shift f n k deg) in
    let q = rem-quotient (f * 2 ^ k) 64 a in
    let m : product q.0 (f * 2 ^ k) ≡ product (q.0 * 2 ^ k) f = product_shift_r q.0 f k ∙ sym (product_shift_l q.0 f k) in
    rw (top_falls (f * 2 ^ k) d)
    (sym (ap (rem f n) (q.1 ∙ ap (λ (x : ℕ). x ⊕ rem (f * 2 ^ k) 64 a) m) ∙ rem-same f n deg (q.0 * 2 ^ k) (rem (f * 2 ^ k) 64 a)))
