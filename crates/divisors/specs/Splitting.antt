-- A polynomial g of level i and of a degree m above i is split by T, the sum of the first i conjugates, at some odd power of x below x ^ m.
--
--   BitsTo g m i k          T is 0 or 1 at every element below 2 ^ k
--   bits_start, bits_next   where the search for a power starts, at x, and one power more
--   sum_of_square           T is the same at an element and at its square
--   bits_even               an even power is the square of a lower one, at which T is 0 or 1: so it is there, and the search passes it over
--   level_no_bits           T is not 0 or 1 at every element: g has two different irreducible divisors p and q. At the multiples of p
--                           T would be 0, and these are all elements modulo q, where T is not 0 everywhere
--   trace_splits            if T is neither 0 nor 1, its greatest common divisor with g is neither 1 nor g
--
-- Assumes nothing.
use Rattle.std.specs.Prelude.{◌≡◌}
use Rattle.std.proofs.Math.Path.{refl, sym, ap, ap₂}
use Rattle.std.proofs.Common.{◌∙◌, ⊎_elim}
use Prim.Native.Nat.{ℕ, zero, suc, ◌+◌, ◌-◌, ◌*◌, ◌/◌, ◌%◌, ◌^◌, ◌≤◌, ◌<◌}
use Rattle.std.proofs.Math.Nat.{pow-suc}
use native.Mathlib.Omega.{arith}
use Rattle.std.proofs.Math.Pow.{pow_pos, pow-add, pow-lt}
use Rattle.gf2.specs.Poly.{◌⊕◌, product, degree, rem, mul_mod, Degree, Divides}
use Rattle.gf2.specs.Numbers.{order, zero-one-more, pow-next, bit_cases}
use Rattle.gf2.specs.Sum.{⊕_comm, ⊕_self, ⊕-zero, ⊕_cancel, ⊕-lt, ⊕-eq-zero, ⊕_top}
use Rattle.gf2.specs.Product.{product-zero_l, product-one_l, product-one_r, product_assoc, product_comm, product-power}
use Rattle.gf2.specs.Degrees.{degree_is, degree-pos}
use Rattle.gf2.specs.Remainder.{rem-small, rem-zero, rem_lt, rem-⊕, rem-product_r, rem_multiple, mul_mod-zero_r}
use Rattle.gf2.specs.Divisors.{divides_trans, divides-rem, rem-divides, divides-pos, divides-le}
use Rattle.gf2.specs.Euclid.{GreatestCommon}
use Rattle.field.specs.Field.{squared, trace_to, Irreducible}
use Rattle.field.specs.Ring.{mul_mod_comm, mul_mod-⊕_r, mul_mod-one_l, mul_mod-square-⊕, one-lt}
use Rattle.field.specs.Frobenius.{squared-zero, squared-bit, squared-mul_mod}
use Rattle.field.specs.Trace.{trace_to-⊕, trace_to-lt, trace_to-square}
use Rattle.field.specs.ConjugateSums.{conjugate_sum, conjugate_sum-zero, conjugate_sum-⊕, conjugate_sum-power, conjugate_sum_not_zero}
use Rattle.field.specs.CommonDivisors.{rem-through, squared-through}
use Rattle.divisors.specs.Smallest.{smallest_divisor, Least, smallest_is, smallest-irreducible}
use Rattle.divisors.specs.Ideals.{coprime_divides, divides-irreducible, inverse_modulo}
use Rattle.divisors.specs.Level.{Level, level_part, level_fixes, level_degree, level_squarefree}

-- ---- the sum of the first k conjugates: modulo a divisor; at 0 and 1; at a square; by a number that selects conjugates

module _ (f n p m : ℕ) (deg : Degree p m) (v : Divides p f) where
  trace_to-through : (k a : ℕ) → rem p m (trace_to f n k a) ≡ trace_to p m k (rem p m a)
  unfolding trace_to
  trace_to-through zero a = rem-zero p m
  trace_to-through (suc k) a =
      rem-⊕ p m deg (trace_to f n k a) (squared f n k a) ∙ ap₂ ◌⊕◌ (trace_to-through k a) (squared-through f n p m deg v k a)

module _ (f n : ℕ) (deg : Degree f n) where
  trace_to-zero : (k : ℕ) → trace_to f n k 0 ≡ 0
  unfolding trace_to
  trace_to-zero zero = refl
  trace_to-zero (suc k) = ap₂ ◌⊕◌ (trace_to-zero k) (squared-zero f n deg k) ∙ ⊕-zero 0

  -- at 0 and 1 every conjugate is the element itself
  trace_to-bit : 2 ≤ n → (k d : ℕ) → d < 2 → trace_to f n k d < 2
  unfolding trace_to
  trace_to-bit big zero d h = omega arith
  trace_to-bit big (suc k) d h =
      ⊕-lt 1 (trace_to f n k d) (squared f n k d) (trace_to-bit big k d h) (rw (squared-bit f n deg big k d h) h)

  -- the sum for a square is the square of the sum
  trace_to_of_square : (k a : ℕ) → trace_to f n k (mul_mod f n a a) ≡ mul_mod f n (trace_to f n k a) (trace_to f n k a)
  unfolding trace_to
  trace_to_of_square zero a = sym (mul_mod-zero_r f n 0)
  trace_to_of_square (suc k) a =
      ap₂ ◌⊕◌ (trace_to_of_square k a) (squared-mul_mod f n deg k a a) ∙ sym (mul_mod-square-⊕ f n deg (trace_to f n k a) (squared f n k a))

  trace_to-sum : (k a : ℕ) → trace_to f n k a ≡ conjugate_sum f n (2 ^ k - 1) a
  unfolding trace_to
  trace_to-sum zero a = sym (conjugate_sum-zero f n deg a)
  trace_to-sum (suc k) a =
      let pos : 1 ≤ 2 ^ k = pow_pos k in
      let low : ℕ = 2 ^ k - 1 in
      let e : low ⊕ 2 ^ k ≡ 2 ^ suc k - 1 = ⊕_comm low (2 ^ k) ∙ ⊕_top k low (omega arith) ∙ rw pow-suc (omega arith) in
      ap₂ ◌⊕◌ (trace_to-sum k a) (sym (conjugate_sum-power f n deg k a))
      ∙ sym (conjugate_sum-⊕ f n deg low (2 ^ k) a) ∙ ap (λ (x : ℕ). conjugate_sum f n x a) e

  trace_to_not_zero : 1 ≤ n → Irreducible f → ((a : ℕ) → a < 2 ^ n → trace_to f n n a ≡ 0) → ⊥
  trace_to_not_zero pos irr z =
      conjugate_sum_not_zero f n deg pos irr (2 ^ n - 1) (omega (arith, one-lt n pos)) (omega (arith, one-lt n pos))
      (λ a h. sym (trace_to-sum n a) ∙ z a h)

-- ---- T is 0 or 1

abbrev pub BitsTo : (g m i k : ℕ) → Type 0
BitsTo g m i k = (a : ℕ) → a < 2 ^ k → trace_to g m i a < 2

module _ (g m : ℕ) (deg : Degree g m) (i : ℕ) where
  pub bits_start : 2 ≤ m → BitsTo g m i 1
  bits_start big a h = trace_to-bit g m deg big i a h

  pub bits_next : (k : ℕ) → BitsTo g m i k → trace_to g m i (2 ^ k) < 2 → BitsTo g m i (k + 1)
  bits_next k bits top a h =
      let l : a < 2 ^ k * 2 = rw pow-next at h in
      ⊎_elim
      (λ (u : a < 2 ^ k). bits a u)
      (λ (u : 2 ^ k ≤ a).
      let b : ℕ = a - 2 ^ k in
      let hb : b < 2 ^ k = omega arith in
      let e : a ≡ 2 ^ k ⊕ b = sym (⊕_top k b hb ∙ omega arith) in
      rw (e, trace_to-⊕ g m deg i (2 ^ k) b) (⊕-lt 1 (trace_to g m i (2 ^ k)) (trace_to g m i b) top (bits b hb)))
      (order a (2 ^ k))

-- ---- T at squares

module _ (i g m : ℕ) (l : Level i g) (deg : Degree g m) (big : 2 ≤ m) where
  -- T is its own square
  trace_idempotent : (a : ℕ) → a < 2 ^ m → mul_mod g m (trace_to g m i a) (trace_to g m i a) ≡ trace_to g m i a
  trace_idempotent a h =
      let t : ℕ = trace_to g m i a in
      let s : ℕ = mul_mod g m t t in
      let e : s ⊕ a ≡ t ⊕ a = trace_to-square g m deg i a ∙ ap (λ (x : ℕ). t ⊕ x) (level_fixes i g l m deg big a h) in
      sym (⊕_cancel a s) ∙ ap (λ (x : ℕ). a ⊕ x) (⊕_comm a s ∙ e ∙ ⊕_comm t a) ∙ ⊕_cancel a t

  sum_of_square : (a : ℕ) → a < 2 ^ m → trace_to g m i (mul_mod g m a a) ≡ trace_to g m i a
  sum_of_square a h = trace_to_of_square g m deg i a ∙ trace_idempotent a h

  square_of_power : (j : ℕ) → j + j < m → mul_mod g m (2 ^ j) (2 ^ j) ≡ 2 ^ (j + j)
  unfolding mul_mod
  square_of_power j h = rw (product-power (2 ^ j) j, ← pow-add 2 j j) (rem-small g m (2 ^ (j + j)) (pow-lt h))

  -- from an odd power to the next
  pub bits_even : (k : ℕ) → k % 2 ≡ 1 → k + 1 < m → BitsTo g m i (k + 1) → BitsTo g m i (k + 2)
  bits_even k odd below bits =
      let j : ℕ = (k + 1) / 2 in
      let s : j + j ≡ k + 1 = omega arith in
      let n : k + 1 + 1 ≡ k + 2 = omega arith in
      let hj : j < k + 1 = omega arith in
      let hm : j < m = omega arith in
      let e : trace_to g m i (2 ^ (k + 1)) ≡ trace_to g m i (2 ^ j) =
      ap (λ (x : ℕ). trace_to g m i (2 ^ x)) (sym s) ∙ ap (trace_to g m i) (sym (square_of_power j (omega arith)))
      ∙ sum_of_square (2 ^ j) (pow-lt hm) in
      rw n at (bits_next g m deg i (k + 1) bits (rw e (bits (2 ^ j) (pow-lt hj))))

-- ---- not at all elements

module _ (g m i : ℕ) (deg : Degree g m) (bits : BitsTo g m i m) where
  -- at a multiple of p T is 0 modulo p, so it is not 1
  multiple_zero : (p j : ℕ) → Degree p j → 1 ≤ j → Divides p g → (b : ℕ) → trace_to g m i (rem g m (product b p)) ≡ 0
  multiple_zero p j dp pos v b =
      let a : ℕ = rem g m (product b p) in
      let t : ℕ = trace_to g m i a in
      let z : rem p j t ≡ 0 =
      trace_to-through g m p j dp v i a
      ∙ ap (trace_to p j i) (rem-through g m p j dp v (product b p) ∙ rem_multiple p j dp b) ∙ trace_to-zero p j dp i in
      ⊎_elim
      (λ (e : t ≡ 0). e)
      (λ (e : t ≡ 1). absurd (let o : ◌≡◌ {A = ℕ} 1 0 = sym (ap (rem p j) e ∙ rem-small p j 1 (one-lt j pos)) ∙ z in omega arith))
      (bit_cases t (bits a (rem_lt g m deg (product b p))))

  module _ (p q j : ℕ) (dp : Degree p (degree p)) (pos : 1 ≤ degree p) (vp : Divides p g)
      (dq : Degree q j) (vq : Divides q g) (u : ℕ) (inv : rem q j (product u p) ≡ rem q j 1) where
    -- every element modulo q is a multiple of p
    reached : (e : ℕ) → e < 2 ^ j → rem q j (product (product e u) p) ≡ e
    reached e h =
        rw (product_assoc, ← rem-product_r q j dq e (product u p), inv, rem-product_r q j dq e 1, product-one_r) (rem-small q j e h)

    zero_modulo : (e : ℕ) → e < 2 ^ j → trace_to q j i e ≡ 0
    zero_modulo e h =
        let b : ℕ = product e u in
        ap (trace_to q j i) (sym (rem-through g m q j dq vq (product b p) ∙ reached e h))
        ∙ sym (trace_to-through g m q j dq vq i (rem g m (product b p)))
        ∙ ap (rem q j) (multiple_zero p (degree p) dp pos vp b) ∙ rem-zero q j

-- g is its smallest divisor p times c, which is not 1 and has a smallest divisor q
module _ (i g m : ℕ) (s : Level i g) (deg : Degree g m) (bits : BitsTo g m i m) where
  apart : (p c : ℕ) → Least g p → Irreducible p → product c p ≡ g → 2 ≤ c → ⊥
  apart p c t irr-p e big =
      let q : ℕ = smallest_divisor c in
      let w = smallest_is c big in
      let irr : Irreducible q = smallest-irreducible c big in
      let j : ℕ = degree q in
      let dq : Degree q j = degree_is q (omega (arith, w.two)) in
      let dp : Degree p (degree p) = degree_is p (omega (arith, t.two)) in
      let pos : 1 ≤ j = degree-pos q j w.two dq in
      let vq : Divides q g = divides_trans q c g w.divides (p, product_comm p c ∙ e) in
      let off : Divides q p → ⊥ = λ v.
      let same : q ≡ p = divides-irreducible p q irr-p w.two v in
      level_squarefree i g s p t.two (square_of p c e (rw same at w.divides)) in
      let u = inverse_modulo q j dq irr p off in
      let lq : Level i q = level_part i g s q w.two vq in
      let n : j ≡ i = level_degree i q lq j dq irr in
      trace_to_not_zero q j dq pos irr
      (λ a h. ap (λ (x : ℕ). trace_to q j x a) n ∙ zero_modulo g m i deg bits p q j dp (degree-pos p (degree p) t.two dp) t.divides dq vq u.0 u.1 a h)
    where
      square_of : (p c : ℕ) → product c p ≡ g → Divides p c → Divides (product p p) g
      square_of p c e v = (v.0, sym (product_assoc v.0 p p) ∙ ap (λ (x : ℕ). product x p) v.1 ∙ e)

  pub level_no_bits : i < m → ⊥
  level_no_bits above =
      let p : ℕ = smallest_divisor g in
      let t = smallest_is g s.two in
      let irr : Irreducible p = smallest-irreducible g s.two in
      let c : ℕ = t.divides.0 in
      let e : product c p ≡ g = t.divides.1 in
      ⊎_elim
      (λ (u : c ≡ 0). let z : 0 ≡ g = sym (product-zero_l p) ∙ ap (λ (x : ℕ). product x p) (sym u) ∙ e in omega (arith, s.two))
      (⊎_elim
      (λ (u : c ≡ 1).
      let same : p ≡ g = sym (product-one_l p) ∙ ap (λ (x : ℕ). product x p) (sym u) ∙ e in
      omega (arith, level_degree i g s m deg (rw same at irr)))
      (λ (u : 2 ≤ c). apart p c t irr e u))
      (zero-one-more c)

-- ---- the greatest common divisor

module _ (i g m : ℕ) (l : Level i g) (deg : Degree g m) (big : 2 ≤ m) (a : ℕ) (h : a < 2 ^ m) where
  -- a multiple of g below 2 ^ m
  multiple_small : (x : ℕ) → x < 2 ^ m → Divides g x → x ≡ 0
  multiple_small x lt v = sym (rem-small g m x lt) ∙ divides-rem g m x deg v

  pub trace_splits : (t d : ℕ) → t ≡ trace_to g m i a → 2 ≤ t → GreatestCommon g t d → (2 ≤ d) × (d < g)
  unfolding mul_mod
  trace_splits t d e two c =
      let lt : t < 2 ^ m = rw e (trace_to-lt g m deg i a h) in
      let one : 1 < 2 ^ m = one-lt m (omega arith) in
      let pos : 0 < g = omega (arith, l.two) in
      let z : rem g m (product t (t ⊕ 1)) ≡ 0 =
      mul_mod-⊕_r g m deg t t 1
      ∙ ap₂ ◌⊕◌ (rw (← e) at (trace_idempotent i g m l deg big a h)) (mul_mod_comm g m deg t 1 ∙ mul_mod-one_l g m deg t lt) ∙ ⊕_self t in
      let le : d ≤ g = divides-le d g pos c.left in
      let not-all : d ≡ g → ⊥ = λ u. let z : t ≡ 0 = multiple_small t lt (rw u at c.right) in omega arith in
      let not-one : d ≡ 1 → ⊥ = λ u.
      let v : Divides g (t ⊕ 1) = coprime_divides g t (t ⊕ 1) pos (rw u at c) (rem-divides g m (product t (t ⊕ 1)) z) in
      let w : t ≡ 1 = ⊕-eq-zero t 1 (multiple_small (t ⊕ 1) (⊕-lt m t 1 lt one) v) in
      omega arith in
      let low : 0 < d = divides-pos d g pos c.left in
      (omega (arith, not-one), omega (arith, not-all))
