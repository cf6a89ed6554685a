-- Laws of the product of polynomials: the recursion over digits; distributing, commuting, associating; powers of x;
-- the square, which is the spread.
-- Assumes nothing.
use Rattle.std.specs.Prelude.{◌≡◌, ℕ, zero, suc, ◌+◌, ◌*◌, ◌/◌, ◌%◌, ◌^◌, ◌<◌, ◌≤◌, ◌⊎◌}
use Rattle.std.proofs.Math.Path.{refl, sym, ap}
use Rattle.std.proofs.Common.{◌∙◌, inl, inr, ⊎_elim, le_refl, not-suc-le-zero, zero-mul, one-mul, mul-zero, mul-one, div-add-mod', mul_assoc, pow-suc, arith, pow-add}
use Rattle.std.proofs.Math.Decide.{le_ind}
use Rattle.std.proofs.Math.Arith.{bin_ind, half_le}
use Rattle.gf2.specs.Poly.{◌⊕◌, digits_from, digits, product, spread}
use Rattle.gf2.specs.Numbers.{bit_cases, mod-two-lt, double_half, double_even}
use Rattle.gf2.specs.Sum.{⊕_half, ⊕_odd, ⊕_comm, zero-⊕, ⊕-zero, ⊕_assoc, ⊕-four, ⊕-double, ⊕-digit, ⊕_cancel, ⊕-low, low-apart, bit-⊕-mul, bit-mul-⊕}

-- ---- the recursion over digits: enough digits are enough

module _ (z : ℕ) (s : ℕ → ℕ → ℕ) where
  more : (k a : ℕ) → a ≤ k → digits_from z s (suc k) a ≡ digits_from z s k a
  unfolding digits_from
  more zero zero h = refl
  more zero (suc a) h = absurd (not-suc-le-zero h)
  more (suc k) zero h = refl
  more (suc k) (suc a) h = ap (s (suc a % 2)) (more k (suc a / 2) (half_le h))

  enough : (k a : ℕ) → a ≤ k → digits_from z s k a ≡ digits_from z s a a
  enough k a h = le_ind (λ (m : ℕ). digits_from z s m a ≡ digits_from z s a a) refl (λ m l e. more m a l ∙ e) k h

  pub digits-zero : digits z s 0 ≡ z
  unfolding digits digits_from
  digits-zero = refl

  pub digits-pos : (a : ℕ) → 0 < a → digits z s a ≡ s (a % 2) (digits z s (a / 2))
  unfolding digits digits_from
  digits-pos zero h = absurd (not-suc-le-zero h)
  digits-pos (suc a) h = ap (s (suc a % 2)) (enough a (suc a / 2) (half_le (le_refl (suc a))))

  -- where a digit 0 above the highest changes nothing
  pub digits_step : s 0 z ≡ z → (a : ℕ) → digits z s a ≡ s (a % 2) (digits z s (a / 2))
  unfolding digits digits_from
  digits_step e zero = sym e
  digits_step e (suc a) = digits-pos (suc a) (omega arith)

-- ---- the low coefficient

pub product-zero_l : (b : ℕ) → product 0 b ≡ 0
unfolding product
product-zero_l b = digits-zero 0 (λ d r. d * b ⊕ r * 2)

pub product-step : (a b : ℕ) → product a b ≡ (a % 2) * b ⊕ product (a / 2) b * 2
unfolding product
product-step a b = digits_step 0 (λ d r. d * b ⊕ r * 2) (simp (zero-mul, zero-⊕)) a

pub product-double_l : (a b : ℕ) → product (a * 2) b ≡ product a b * 2
product-double_l a b = product-step (a * 2) b ∙ simp (double_half, double_even, zero-mul, zero-⊕)

pub product-one_l : (b : ℕ) → product 1 b ≡ b
product-one_l b = product-step 1 b ∙ simp (product-zero_l, one-mul, zero-mul, ⊕-zero)

-- ---- distributing

pub product-⊕_r : (a b c : ℕ) → product a (b ⊕ c) ≡ product a b ⊕ product a c
product-⊕_r a =
    bin_ind (λ (n : ℕ). (b c : ℕ) → product n (b ⊕ c) ≡ product n b ⊕ product n c)
    (λ b c. simp (product-zero_l, zero-⊕))
    (λ n ih b c. rw (product-step n (b ⊕ c), product-step n b, product-step n c, ih b c, bit-mul-⊕ (n % 2) b c (mod-two-lt n), ⊕-double)
    (⊕-four (n % 2 * b) (n % 2 * c) (product (n / 2) b * 2) (product (n / 2) c * 2)))
    a

pub product-⊕_l : (a b c : ℕ) → product (a ⊕ b) c ≡ product a c ⊕ product b c
product-⊕_l a =
    bin_ind (λ (n : ℕ). (b c : ℕ) → product (n ⊕ b) c ≡ product n c ⊕ product b c)
    (λ b c. simp (product-zero_l, zero-⊕))
    (λ n ih b c. rw (product-step (n ⊕ b) c, product-step n c, product-step b c, ⊕_half, ⊕_odd, ih (b / 2) c, bit-⊕-mul (n % 2) (b % 2) c (mod-two-lt n) (mod-two-lt b), ⊕-double)
    (⊕-four (n % 2 * c) (b % 2 * c) (product (n / 2) c * 2) (product (b / 2) c * 2)))
    a

-- ---- the second operand

pub product-zero_r : (a : ℕ) → product a 0 ≡ 0
product-zero_r =
    bin_ind (λ (n : ℕ). product n 0 ≡ 0) (product-zero_l 0)
    (λ n ih. rw (product-step n 0, ih) (simp (mul-zero, ⊕-zero)))

pub product-one_r : (a : ℕ) → product a 1 ≡ a
product-one_r =
    bin_ind (λ (n : ℕ). product n 1 ≡ n) (product-zero_l 1)
    (λ n ih. rw (product-step n 1, ih, mul-one, ⊕_comm, ⊕-digit (n / 2) (n % 2) (mod-two-lt n)) (div-add-mod' n 2))

pub product-double_r : (a b : ℕ) → product a (b * 2) ≡ product a b * 2
product-double_r a =
    bin_ind (λ (n : ℕ). (b : ℕ) → product n (b * 2) ≡ product n b * 2)
    (λ b. simp (product-zero_l, zero-mul))
    (λ n ih b. rw (product-step n (b * 2), product-step n b, ih b, ⊕-double) (ap (λ (x : ℕ). x ⊕ product (n / 2) b * 2 * 2) (sym (mul_assoc (n % 2) b 2))))
    a

product-bit_r : (a d : ℕ) → d < 2 → product a d ≡ d * a
product-bit_r a d h = go (bit_cases d h)
  where
    go : (d ≡ 0) ⊎ (d ≡ 1) → product a d ≡ d * a
    go (inl p) = rw p (simp (product-zero_r, zero-mul))
    go (inr p) = rw p (simp (product-one_r, one-mul))

pub product-step_r : (a b : ℕ) → product a b ≡ (b % 2) * a ⊕ product a (b / 2) * 2
product-step_r a b =
    ap (product a) (sym (low-apart b))
    ∙ rw (product-⊕_r, product-double_r, product-bit_r a (b % 2) (mod-two-lt b)) (⊕_comm (product a (b / 2) * 2) (b % 2 * a))

-- ---- commuting, associating

pub product_comm : (a b : ℕ) → product a b ≡ product b a
product_comm a =
    bin_ind (λ (n : ℕ). (b : ℕ) → product n b ≡ product b n)
    (λ b. product-zero_l b ∙ sym (product-zero_r b))
    (λ n ih b. product-step n b ∙ rw (ih b) (sym (product-step_r b n)))
    a

product-bit-mul : (d b c : ℕ) → d < 2 → product (d * b) c ≡ d * product b c
product-bit-mul d b c h = go (bit_cases d h)
  where
    go : (d ≡ 0) ⊎ (d ≡ 1) → product (d * b) c ≡ d * product b c
    go (inl p) = rw p (simp (product-zero_l, zero-mul))
    go (inr p) = rw p (simp one-mul)

pub product_assoc : (a b c : ℕ) → product (product a b) c ≡ product a (product b c)
product_assoc a =
    bin_ind (λ (n : ℕ). (b c : ℕ) → product (product n b) c ≡ product n (product b c))
    (λ b c. simp product-zero_l)
    (λ n ih b c. rw (product-step n b, product-step n (product b c), product-⊕_l, product-double_l, ih b c, product-bit-mul (n % 2) b c (mod-two-lt n)))
    a

-- ---- powers of x

pub product_shift_l : (a b k : ℕ) → product (a * 2 ^ k) b ≡ product a b * 2 ^ k
product_shift_l a b zero = simp mul-one
product_shift_l a b (suc k) =
    rw (pow-suc, ← mul_assoc a (2 ^ k) 2, product-double_l, product_shift_l a b k, mul_assoc (product a b) (2 ^ k) 2)

pub product_shift_r : (a b k : ℕ) → product a (b * 2 ^ k) ≡ product a b * 2 ^ k
product_shift_r a b k = rw (product_comm a (b * 2 ^ k), product_comm a b) (product_shift_l b a k)

-- a power of x moves the coefficients up
pub product-power : (a k : ℕ) → product a (2 ^ k) ≡ a * 2 ^ k
product-power a k = ap (product a) (sym (one-mul (2 ^ k))) ∙ rw (product_shift_r, product-one_r)

-- ---- squares

pub product-square-⊕ : (a b : ℕ) → product (a ⊕ b) (a ⊕ b) ≡ product a a ⊕ product b b
product-square-⊕ a b =
    rw (product-⊕_l, product-⊕_r, product-⊕_r, product_comm b a)
    (⊕_assoc (product a a) (product a b) (product a b ⊕ product b b) ∙ ap (λ (x : ℕ). product a a ⊕ x) (⊕_cancel (product a b) (product b b)))

-- the square of a number in two parts
pub product-square-parts : (a k b : ℕ) → b < 2 ^ k → product (a * 2 ^ k + b) (a * 2 ^ k + b) ≡ product a a * 2 ^ (k + k) ⊕ product b b
product-square-parts a k b h = rw (← ⊕-low a k b h, product-square-⊕, product_shift_l, product_shift_r, pow-add, mul_assoc)

pub spread-step : (a : ℕ) → spread a ≡ spread (a / 2) * 4 + a % 2
unfolding spread
spread-step a = digits_step 0 (λ d r. r * 4 + d) refl a

pub spread-zero : spread 0 ≡ 0
unfolding spread
spread-zero = digits-zero 0 (λ d r. r * 4 + d)

bit-square : (d : ℕ) → d < 2 → product d d ≡ d
bit-square d h = ⊎_elim (λ (e : d ≡ 0). rw e (product-zero_l 0)) (λ (e : d ≡ 1). rw e (product-one_l 1)) (bit_cases d h)

-- the square has each coefficient at twice its place
pub product-square : (a : ℕ) → product a a ≡ spread a
product-square =
    bin_ind (λ (m : ℕ). product m m ≡ spread m) (product-zero_l 0 ∙ sym spread-zero)
    (λ m ih. ap (λ (x : ℕ). product x x) (sym (div-add-mod' m 2)) ∙ product-square-parts (m / 2) 1 (m % 2) (mod-two-lt m)
    ∙ rw (ih, bit-square (m % 2) (mod-two-lt m)) (⊕-low (spread (m / 2)) 2 (m % 2) (omega arith) ∙ sym (spread-step m)))

-- the spread of a number in two parts
pub spread-parts : (a k b : ℕ) → b < 2 ^ k → spread (a * 2 ^ k + b) ≡ spread a * 2 ^ (k + k) ⊕ spread b
spread-parts a k b h = rw (← product-square (a * 2 ^ k + b), ← product-square a, ← product-square b) (product-square-parts a k b h)
