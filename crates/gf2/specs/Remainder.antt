-- Laws of the remainder modulo f: one step of the division; the remainder is below 2 ^ n, leaves what is below 2 ^ n, is
-- linear, and may be taken of the operands first. `rem-quotient` and `rem_unique`: it is the one number below 2 ^ n that
-- differs from a by a multiple of f.
-- Assumes nothing.
use Rattle.std.specs.Prelude.{◌≡◌, ℕ, ◌+◌, ◌*◌, ◌/◌, ◌%◌, ◌^◌, ◌<◌, ◌≤◌, ◌⊎◌, refl}
use Rattle.std.proofs.Common.{sym, ap, ap₂, ◌∙◌, inl, inr, ⊎_elim, zero-mul, one-mul, div-add-mod', div-lt_iff_lt-mul, add-zero, arith, pow_pos, lt-ltb, le-ltb}
use Rattle.std.proofs.Math.Nat.{div-eq_of_lt, div-eq_of_lt-le}
use Rattle.std.proofs.Math.Arith.{bin_ind}
use Rattle.gf2.specs.Poly.{◌⊕◌, product, reduce, rem, mul_mod, Degree, Element}
use Rattle.gf2.specs.Numbers.{bit_cases, order, mod-two-lt, double_half, double_even, pow-next}
use Rattle.gf2.specs.Sum.{⊕_half, ⊕_odd, ⊕_comm, zero-⊕, ⊕-zero, ⊕_self, ⊕-lt, ⊕-lt-next, ⊕_shr, ⊕-one-one, ⊕_assoc, ⊕-four, ⊕_cancel, ⊕-double, ⊕-digit, low-apart, bit-⊕-mul}
use Rattle.gf2.specs.Product.{digits-zero, digits_step, product-zero_l, product-zero_r, product-one_l, product-step, product-step_r, product_comm, product-⊕_l, product-double_l, product-power}

-- ---- one step of the division

pub reduce-small : (f n y : ℕ) → y < 2 ^ n → reduce f n y ≡ y
unfolding reduce
reduce-small f n y h = rw (lt-ltb y (2 ^ n) h)

pub reduce_large : (f n y : ℕ) → 2 ^ n ≤ y → reduce f n y ≡ y ⊕ f
unfolding reduce
reduce_large f n y h = rw (le-ltb y (2 ^ n) h)

top_one : (n y : ℕ) → 2 ^ n ≤ y → y < 2 ^ n * 2 → y / 2 ^ n ≡ 1
top_one n y l h = div-eq_of_lt-le {k = 1} (2 ^ n) (omega arith) (omega arith)

pub top_lt : (n y : ℕ) → y < 2 ^ n * 2 → y / 2 ^ n < 2
top_lt n y h = (div-lt_iff_lt-mul (pow_pos n)).1 (omega arith)

-- the highest coefficient times f is taken away
pub reduce_is : (f n y : ℕ) → y < 2 ^ n * 2 → reduce f n y ≡ y ⊕ (y / 2 ^ n) * f
reduce_is f n y h = go (order y (2 ^ n))
  where
    go : (y < 2 ^ n) ⊎ (2 ^ n ≤ y) → reduce f n y ≡ y ⊕ (y / 2 ^ n) * f
    go (inl l) = reduce-small f n y l ∙ rw (div-eq_of_lt l) (simp (zero-mul, ⊕-zero))
    go (inr l) = reduce_large f n y l ∙ rw (top_one n y l h) (simp one-mul)

reduce-⊕ : (f n x y : ℕ) → x < 2 ^ n * 2 → y < 2 ^ n * 2 → reduce f n (x ⊕ y) ≡ reduce f n x ⊕ reduce f n y
reduce-⊕ f n x y hx hy =
    rw (reduce_is f n (x ⊕ y) (⊕-lt-next n x y hx hy), reduce_is f n x hx, reduce_is f n y hy, ⊕_shr, bit-⊕-mul (x / 2 ^ n) (y / 2 ^ n) f (top_lt n x hx) (top_lt n y hy))
    (⊕-four x y (x / 2 ^ n * f) (y / 2 ^ n * f))

-- ---- digit by digit

pub rem-zero : (f n : ℕ) → rem f n 0 ≡ 0
unfolding rem
rem-zero f n = digits-zero 0 (λ d r. reduce f n (r * 2 + d))

rem-step : (f n a : ℕ) → rem f n a ≡ reduce f n (rem f n (a / 2) * 2 + a % 2)
unfolding rem
rem-step f n a = digits_step 0 (λ d r. reduce f n (r * 2 + d)) (reduce-small f n 0 (pow_pos n)) a

-- a polynomial of degree below n is its own remainder
pub rem-small : (f n a : ℕ) → a < 2 ^ n → rem f n a ≡ a
rem-small f n =
    bin_ind (λ (m : ℕ). m < 2 ^ n → rem f n m ≡ m) (λ h. rem-zero f n)
    (λ m ih h. rw (rem-step f n m, ih (omega arith), div-add-mod') (reduce-small f n m h))

-- ---- the quotient

module _ (f n : ℕ) where
  quotient-step : (m q : ℕ) → m / 2 ≡ product q f ⊕ rem f n (m / 2) → (y : ℕ) → y ≡ rem f n (m / 2) * 2 + m % 2 → m ≡ product (q * 2) f ⊕ y
  quotient-step m q e y ey =
      sym (low-apart m)
      ∙ ap (λ (x : ℕ). x * 2 ⊕ m % 2) e
      ∙ rw (⊕-double, ⊕_assoc, ⊕-digit (rem f n (m / 2)) (m % 2) (mod-two-lt m), ← ey, ← product-double_l)

  -- a differs from its remainder by a multiple of f
  pub rem-quotient : (a : ℕ) → (q : ℕ) × (a ≡ product q f ⊕ rem f n a)
  rem-quotient =
      bin_ind (λ (m : ℕ). (q : ℕ) × (m ≡ product q f ⊕ rem f n m)) (0, sym (rw (product-zero_l, rem-zero) (zero-⊕ 0)))
      (λ m ih.
      let q = ih.0 in
      let y : ℕ = rem f n (m / 2) * 2 + m % 2 in
      let e : m ≡ product (q * 2) f ⊕ y = quotient-step m q ih.1 y refl in
      ⊎_elim
      (λ (l : y < 2 ^ n). (q * 2, e ∙ ap (λ (x : ℕ). product (q * 2) f ⊕ x) (sym (rem-step f n m ∙ reduce-small f n y l))))
      (λ (l : 2 ^ n ≤ y). (q * 2 ⊕ 1, e ∙ sym (ap (λ (x : ℕ). product (q * 2 ⊕ 1) f ⊕ x) (rem-step f n m ∙ reduce_large f n y l) ∙ rw (product-⊕_l, product-one_l, ⊕_assoc, ⊕_comm y f, ⊕_cancel))))
      (order y (2 ^ n)))

module _ (f n : ℕ) (deg : Degree f n) where
  high : f < 2 ^ n * 2
  high = rw pow-next at deg.high

  -- ---- bounds

  pub reduce-lt : (y : ℕ) → y < 2 ^ n * 2 → reduce f n y < 2 ^ n
  reduce-lt y h = go (order y (2 ^ n))
    where
      go : (y < 2 ^ n) ⊎ (2 ^ n ≤ y) → reduce f n y < 2 ^ n
      go (inl l) = rw (reduce-small f n y l) l
      go (inr l) =
          let e : (y ⊕ f) / 2 ^ n ≡ 0 = rw (⊕_shr, top_one n y l h, top_one n f deg.low high) ⊕-one-one in
          let q : y ⊕ f < 1 * 2 ^ n = (div-lt_iff_lt-mul (pow_pos n)).0 (omega arith) in
          rw (reduce_large f n y l) (omega arith)

  pub rem_lt : (a : ℕ) → rem f n a < 2 ^ n
  rem_lt =
      bin_ind (λ (m : ℕ). rem f n m < 2 ^ n) (rw (rem-zero f n) (pow_pos n))
      (λ m ih. rw (rem-step f n m) (reduce-lt (rem f n (m / 2) * 2 + m % 2) (omega arith)))

  -- modulo 1, the polynomial of degree 0, nothing is left
  pub rem_constant : n ≡ 0 → (a : ℕ) → rem f n a ≡ 0
  rem_constant e a =
      let h : 2 ^ n ≡ 1 = rw e in
      omega (arith, rem_lt a)

  -- ---- linear

  below : (a d : ℕ) → d < 2 → rem f n a * 2 + d < 2 ^ n * 2
  below a d h = omega (arith, rem_lt a)

  pub rem-⊕ : (a b : ℕ) → rem f n (a ⊕ b) ≡ rem f n a ⊕ rem f n b
  rem-⊕ a =
      bin_ind (λ (m : ℕ). (b : ℕ) → rem f n (m ⊕ b) ≡ rem f n m ⊕ rem f n b)
      (λ b. simp (rem-zero, zero-⊕))
      (λ m ih b.
      rem-step f n (m ⊕ b)
      ∙ ap (reduce f n)
      (rw (⊕_half, ⊕_odd, ih (b / 2), ← ⊕-digit (rem f n (m / 2) ⊕ rem f n (b / 2)) (m % 2 ⊕ b % 2) (⊕-lt 1 (m % 2) (b % 2) (mod-two-lt m) (mod-two-lt b)), ⊕-double)
      (⊕-four (rem f n (m / 2) * 2) (rem f n (b / 2) * 2) (m % 2) (b % 2)
      ∙ ap₂ ◌⊕◌ (⊕-digit (rem f n (m / 2)) (m % 2) (mod-two-lt m)) (⊕-digit (rem f n (b / 2)) (b % 2) (mod-two-lt b))))
      ∙ reduce-⊕ f n (rem f n (m / 2) * 2 + m % 2) (rem f n (b / 2) * 2 + b % 2) (below (m / 2) (m % 2) (mod-two-lt m)) (below (b / 2) (b % 2) (mod-two-lt b))
      ∙ sym (ap₂ ◌⊕◌ (rem-step f n m) (rem-step f n b)))
      a

  pub rem-rem : (a : ℕ) → rem f n (rem f n a) ≡ rem f n a
  rem-rem a = rem-small f n (rem f n a) (rem_lt a)

  pub rem-double : (a : ℕ) → rem f n (a * 2) ≡ reduce f n (rem f n a * 2)
  rem-double a = rem-step f n (a * 2) ∙ rw (double_half, double_even, add-zero)

  rem-bit : (d a : ℕ) → d < 2 → rem f n (d * a) ≡ d * rem f n a
  rem-bit d a h = go (bit_cases d h)
    where
      go : (d ≡ 0) ⊎ (d ≡ 1) → rem f n (d * a) ≡ d * rem f n a
      go (inl p) = rw p (simp (rem-zero, zero-mul))
      go (inr p) = rw p (simp one-mul)

  -- what was reduced is an element
  pub rem-element : (a : ℕ) {x : ℕ} → x ≡ rem f n a → Element f n x
  rem-element a e = rw e (record { is_degree = deg; below = rem_lt a })

  -- ---- the operands of a product may be reduced first

  pub rem-product_r : (a b : ℕ) → rem f n (product a (rem f n b)) ≡ rem f n (product a b)
  rem-product_r a =
      bin_ind (λ (m : ℕ). (b : ℕ) → rem f n (product m (rem f n b)) ≡ rem f n (product m b))
      (λ b. simp product-zero_l)
      (λ m ih b.
      rw (product-step m (rem f n b), product-step m b, rem-⊕, rem-⊕, rem-double, rem-double, ih b, rem-bit (m % 2) (rem f n b) (mod-two-lt m), rem-bit (m % 2) b (mod-two-lt m), rem-rem))
      a

  pub rem-product_l : (a b : ℕ) → rem f n (product (rem f n a) b) ≡ rem f n (product a b)
  rem-product_l a b = rw (product_comm (rem f n a) b, product_comm a b) (rem-product_r b a)

  pub mul_mod-rem_r : (a b : ℕ) → mul_mod f n a (rem f n b) ≡ mul_mod f n a b
  unfolding mul_mod
  mul_mod-rem_r a b = rem-product_r a b

  pub mul_mod-rem_l : (a b : ℕ) → mul_mod f n (rem f n a) b ≡ mul_mod f n a b
  unfolding mul_mod
  mul_mod-rem_l a b = rem-product_l a b

  -- a part may be reduced before it is moved up
  pub rem_shift : (a k b : ℕ) → rem f n (rem f n a * 2 ^ k ⊕ b) ≡ rem f n (a * 2 ^ k ⊕ b)
  rem_shift a k b = rw (rem-⊕, rem-⊕, ← product-power (rem f n a) k, ← product-power a k, rem-product_l a (2 ^ k))

  -- ---- multiples of f

  pub rem_self : rem f n f ≡ 0
  rem_self =
      let h : f < 2 ^ n * 2 = high in
      rem-step f n f ∙ rw (rem-small f n (f / 2) (omega arith), div-add-mod') (reduce_large f n f deg.low ∙ ⊕_self f)

  pub rem_multiple : (q : ℕ) → rem f n (product q f) ≡ 0
  rem_multiple q = sym (rem-product_r q f) ∙ rw (rem_self, product-zero_r) (rem-zero f n)

  -- what differs by a multiple of f has the same remainder
  pub rem-same : (q a : ℕ) → rem f n (product q f ⊕ a) ≡ rem f n a
  rem-same q a = rw (rem-⊕, rem_multiple q) (zero-⊕ _)

  -- the remainder is the one number below 2 ^ n that differs from a by a multiple of f
  pub rem_unique : (a q r : ℕ) → a ≡ product q f ⊕ r → r < 2 ^ n → r ≡ rem f n a
  rem_unique a q r e h = sym (rw e (rem-same q r) ∙ rem-small f n r h)

  -- one turn of the product: the low coefficient of b, and the rest of b times x * a
  pub mul_mod-step : (a b : ℕ) → a < 2 ^ n → mul_mod f n a b ≡ (b % 2) * a ⊕ mul_mod f n (reduce f n (a * 2)) (b / 2)
  unfolding mul_mod
  mul_mod-step a b h =
      rw (product-step_r a b, rem-⊕, rem-bit (b % 2) a (mod-two-lt b), ← product-double_l a (b / 2), ← rem-product_l (a * 2) (b / 2), rem-double a, rem-small f n a h)

pub mul_mod-zero_l : (f n b : ℕ) → mul_mod f n 0 b ≡ 0
unfolding mul_mod
mul_mod-zero_l f n b = rw product-zero_l (rem-zero f n)

pub mul_mod-zero_r : (f n a : ℕ) → mul_mod f n a 0 ≡ 0
unfolding mul_mod
mul_mod-zero_r f n a = rw product-zero_r (rem-zero f n)
