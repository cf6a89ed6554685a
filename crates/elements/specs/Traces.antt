-- The trace by a mask. Both the trace and the parity of what a number shares with a mask are additive, so a mask that agrees at the powers
-- of x agrees at every element. A normal element has trace 1: an element of trace 0 is not normal, and no basis of it has to be tried.
--
--   mask_to f n k    the sum of those x ^ i, i below k, whose trace is odd
--   trace_mask f n   the number whose bit i is the trace of x ^ i, i below n
--
-- In order: the parity of the ones of a number; the bits of the mask; the trace by the mask (`mask_parity`); normal elements.
-- Assumes nothing.
use Rattle.std.specs.Prelude.{◌≡◌, ℕ, zero, suc, ◌+◌, ◌*◌, ◌/◌, ◌%◌, ◌^◌, ◌<◌, ◌≤◌, false, bit_and, nat_eq, refl}
use Rattle.std.proofs.Common.{sym, ◌∙◌, mul-zero, not-suc-le-zero, pow_pos}
use Rattle.std.proofs.Math.Path.{ap}
use Rattle.std.proofs.Math.Logic.{⊎_elim}
use Rattle.std.proofs.Math.Nat.{mul-one}
use native.Mathlib.Omega.{arith}
use Rattle.std.proofs.Math.Arith.{bin_ind}
use Rattle.std.specs.Int.Count.{ones, ones_step}
use Rattle.std.proofs.lemmas.Nat.{ones_cat}
use Rattle.std.proofs.lemmas.Bool.{eqb-false}
use Rattle.gf2.specs.Poly.{◌⊕◌, Degree}
use Rattle.gf2.specs.Numbers.{bit_cases, order, mod-two-lt}
use Rattle.gf2.specs.Truth.{not_true_false}
use Rattle.gf2.specs.Sum.{zero-⊕, ⊕-zero, ⊕-one-one, ⊕_half, ⊕_odd, ⊕-four}
use Rattle.field.specs.Field.{trace}
use Rattle.field.specs.Trace.{trace-⊕, trace-bit}
use Rattle.rows.specs.Linear.{Linear, linear_after, linear_bit, linear_ext}
use Rattle.rows.specs.Bits.{bit_of, ◌∩◌}
use Rattle.rows.specs.Sharing.{bit_of-⊕, bit_of-lt, bit_of-zero, bit_of-power, bit_of-other, ∩_comm, ∩_linear, ∩-power}
use Rattle.normal.specs.Normal.{normal}
use Rattle.normal.proofs.Coordinates.{normal-means}
use Rattle.normal.proofs.Conjugated.{normal-trace}
use Rattle.elements.specs.Fields.{FieldOf}

unfoldable pub mask_to : (f n k : ℕ) → ℕ
mask_to f n zero = 0
mask_to f n (suc k) = mask_to f n k ⊕ trace f n (2 ^ k) % 2 * 2 ^ k

-- The trace of an element is 0 or 1 for an accepted f (`trace-bit`), so that it is its own remainder by 2.
unfoldable pub trace_mask : (f n : ℕ) → ℕ
trace_mask f n = mask_to f n n

-- ---- the parity of the ones of a number

odd_sum : (d e : ℕ) → d < 2 → (d + e) % 2 ≡ d ⊕ e % 2
odd_sum d e h =
    ⊎_elim
    (λ (p : d ≡ 0). rw p (omega (arith, zero-⊕ (e % 2))))
    (λ (p : d ≡ 1). ⊎_elim
    (λ (q : e % 2 ≡ 0). rw (p, q) (omega (arith, ⊕-zero 1)))
    (λ (q : e % 2 ≡ 1). rw (p, q) (omega (arith, ⊕-one-one)))
    (bit_cases (e % 2) (mod-two-lt e)))
    (bit_cases d h)

parity_step : (v : ℕ) → ones v % 2 ≡ v % 2 ⊕ ones (v / 2) % 2
parity_step v = ap (λ (x : ℕ). x % 2) (ones_step v) ∙ odd_sum (v % 2) (ones (v / 2)) (mod-two-lt v)

parity_zero : ones 0 % 2 ≡ 0
unfolding ones
parity_zero = refl

parity_⊕ : Linear (λ v. ones v % 2)
parity_⊕ v =
    bin_ind (λ (m : ℕ). (w : ℕ) → ones (m ⊕ w) % 2 ≡ ones m % 2 ⊕ ones w % 2)
    (λ w. rw (zero-⊕ w, parity_zero) (sym (zero-⊕ (ones w % 2))))
    (λ m ih w.
    rw (parity_step (m ⊕ w), parity_step m, parity_step w, ⊕_half m w, ⊕_odd m w, ih (w / 2))
    (⊕-four (m % 2) (w % 2) (ones (m / 2) % 2) (ones (w / 2) % 2)))
    v

parity_power : (c : ℕ) → ones (2 ^ c) % 2 ≡ 1
unfolding ones
parity_power c =
    let s : 1 * 2 ^ c + 0 ≡ 2 ^ c = omega arith in
    ap (λ (x : ℕ). x % 2) (ap ones (sym s) ∙ ones_cat c 1 0 (pow_pos c))

-- ---- the bits of the mask

module _ (f n : ℕ) where
  -- one summand has no bit but its own
  summand_bit : (k c : ℕ) → bit_of (trace f n (2 ^ k) % 2 * 2 ^ k) c ≡ trace f n (2 ^ k) % 2 * bit_of (2 ^ k) c
  summand_bit k c = linear_bit (λ x. bit_of x c) (λ v w. bit_of-⊕ v w c) (trace f n (2 ^ k) % 2) (2 ^ k) (mod-two-lt (trace f n (2 ^ k)))

  mask_past : (k c : ℕ) → k ≤ c → bit_of (mask_to f n k) c ≡ 0
  unfolding mask_to
  mask_past zero c h = bit_of-zero c
  mask_past (suc k) c h =
      rw (bit_of-⊕, mask_past k c (omega arith), summand_bit k c, bit_of-other k c (λ e. omega arith), mul-zero) (⊕-zero 0)

  mask_bit : (k c : ℕ) → c < k → bit_of (mask_to f n k) c ≡ trace f n (2 ^ c) % 2
  unfolding mask_to
  mask_bit zero c h = absurd (not-suc-le-zero h)
  mask_bit (suc k) c h =
      ⊎_elim
      (λ (l : c < k). rw (bit_of-⊕, mask_bit k c l, summand_bit k c, bit_of-other k c (λ e. omega arith), mul-zero) (⊕-zero _))
      (λ (l : k ≤ c).
      let e : c ≡ k = omega arith in
      rw (e, bit_of-⊕, mask_past k k (omega arith), summand_bit k k, bit_of-power k, mul-one) (zero-⊕ _))
      (order c k)

-- ---- the trace by the mask

module _ (f n : ℕ) (deg : Degree f n) where
  -- for every f, as far as the remainder by 2
  parity_trace : (a : ℕ) → a < 2 ^ n → ones (a ∩ trace_mask f n) % 2 ≡ trace f n a % 2
  unfolding trace_mask
  parity_trace =
      let mask : ℕ = mask_to f n n in
      linear_ext (λ v. ones (v ∩ mask) % 2) (λ v. trace f n v % 2)
      (linear_after (λ v. ones v % 2) (λ v. v ∩ mask) parity_⊕ (∩_linear mask))
      (λ v w. ap (λ (x : ℕ). x % 2) (trace-⊕ f n deg v w) ∙ ⊕_odd (trace f n v) (trace f n w))
      n
      (λ c h.
      ap (λ (x : ℕ). ones x % 2) (∩_comm (2 ^ c) mask ∙ ∩-power mask c)
      ∙ linear_bit (λ v. ones v % 2) parity_⊕ (bit_of mask c) (2 ^ c) (bit_of-lt mask c)
      ∙ ap (λ (x : ℕ). bit_of mask c * x) (parity_power c)
      ∙ mul-one (bit_of mask c)
      ∙ mask_bit f n n c h)

module _ (f n : ℕ) (s : FieldOf f n) (a : ℕ) (ha : a < 2 ^ n) where
  pub mask_parity : ones (bit_and a (trace_mask f n)) % 2 ≡ trace f n a
  unfolding ◌∩◌
  mask_parity =
      parity_trace f n s.is_degree a ha
      ∙ ⊎_elim (λ (e : trace f n a ≡ 0). rw e) (λ (e : trace f n a ≡ 1). rw e)
      (trace-bit f n s.is_degree s.two s.irreducible s.returns a ha)

  -- ---- normal elements

  -- a normal element has trace 1: that is needed; whether it is enough, independence decides
  pub no_trace_not_normal : nat_eq (trace f n a) 1 ≡ false → normal f n a ≡ false
  no_trace_not_normal none =
      not_true_false (normal f n a) (λ e. eqb-false (trace f n a) 1 none
      (normal-trace f n s.is_degree s.two s.returns a ha s.irreducible ((normal-means f n a).0 e)))
