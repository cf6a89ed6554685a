-- Laws of the sum `◌⊕◌` of polynomials: halves and low digits; it commutes, associates and cancels; bounds, shifts and
-- doubling; a single coefficient times a sum.
-- Assumes nothing.
use Rattle.std.specs.Prelude.{◌≡◌, ℕ, suc, ◌+◌, ◌*◌, ◌/◌, ◌%◌, ◌^◌, ◌<◌, ◌≤◌, ◌⊎◌, refl}
use Rattle.std.proofs.Common.{sym, ap, ◌∙◌, inl, inr, add-zero, zero-mul, one-mul, div-add-mod', pow-suc, le-div_iff_mul-le, arith, pow_pos}
use Rattle.std.proofs.Math.Nat.{div-eq_of_lt}
use Rattle.std.proofs.Math.Arith.{bin_ind}
use Rattle.std.proofs.lemmas.Nat.{xor_comm, xor_lt, xor_shr, xor_mod, xor_block}
use Rattle.std.specs.Int.Bits.{xor_zero_r, xor_self, xor_shifted}
use Rattle.gf2.specs.Poly.{◌⊕◌}
use Rattle.gf2.specs.Numbers.{bit_cases, mod-two-lt, by_digits}

-- ---- digits of a sum

pub ⊕_half : (a b : ℕ) → (a ⊕ b) / 2 ≡ a / 2 ⊕ b / 2
unfolding ◌⊕◌
⊕_half a b = xor_shr a b 1

pub ⊕_odd : (a b : ℕ) → (a ⊕ b) % 2 ≡ a % 2 ⊕ b % 2
unfolding ◌⊕◌
⊕_odd a b = xor_mod a b 1

pub ⊕_shr : (a b k : ℕ) → (a ⊕ b) / 2 ^ k ≡ a / 2 ^ k ⊕ b / 2 ^ k
unfolding ◌⊕◌
⊕_shr a b k = xor_shr a b k

-- ---- the group

pub ⊕_comm : (a b : ℕ) → a ⊕ b ≡ b ⊕ a
unfolding ◌⊕◌
⊕_comm a b = xor_comm a b

pub zero-⊕ : (a : ℕ) → 0 ⊕ a ≡ a
unfolding ◌⊕◌
zero-⊕ a = refl

pub ⊕-zero : (a : ℕ) → a ⊕ 0 ≡ a
unfolding ◌⊕◌
⊕-zero a = xor_zero_r a

pub ⊕_self : (a : ℕ) → a ⊕ a ≡ 0
unfolding ◌⊕◌
⊕_self a = xor_self a

pub ⊕-one-one : 1 ⊕ 1 ≡ 0
unfolding ◌⊕◌
⊕-one-one = refl

bit_assoc : (x y z : ℕ) → (x ≡ 0) ⊎ (x ≡ 1) → (y ≡ 0) ⊎ (y ≡ 1) → (z ≡ 0) ⊎ (z ≡ 1) → (x ⊕ y) ⊕ z ≡ x ⊕ (y ⊕ z)
bit_assoc x y z (inl p) (_) (_) = rw p (simp zero-⊕)
bit_assoc x y z (inr p) (inl q) (_) = rw (p, q) (simp (zero-⊕, ⊕-zero))
bit_assoc x y z (inr p) (inr q) (inl r) = rw (p, q, r) (simp (zero-⊕, ⊕-zero))
bit_assoc x y z (inr p) (inr q) (inr r) = rw (p, q, r) (simp (⊕-one-one, zero-⊕, ⊕-zero))

pub ⊕_assoc : (a b c : ℕ) → (a ⊕ b) ⊕ c ≡ a ⊕ (b ⊕ c)
⊕_assoc a =
    bin_ind (λ (n : ℕ). (b c : ℕ) → (n ⊕ b) ⊕ c ≡ n ⊕ (b ⊕ c))
    (λ b c. simp zero-⊕)
    (λ n ih b c. by_digits
    (simp ⊕_half (ih (b / 2) (c / 2)))
    (simp ⊕_odd (bit_assoc (n % 2) (b % 2) (c % 2) (bit_cases (n % 2) (mod-two-lt n)) (bit_cases (b % 2) (mod-two-lt b)) (bit_cases (c % 2) (mod-two-lt c)))))
    a

pub ⊕-left_comm : (a b c : ℕ) → a ⊕ (b ⊕ c) ≡ b ⊕ (a ⊕ c)
⊕-left_comm a b c = sym (⊕_assoc a b c) ∙ ap (λ (x : ℕ). x ⊕ c) (⊕_comm a b) ∙ ⊕_assoc b a c

pub ⊕-four : (a b c d : ℕ) → (a ⊕ b) ⊕ (c ⊕ d) ≡ (a ⊕ c) ⊕ (b ⊕ d)
⊕-four a b c d = ⊕_assoc a b (c ⊕ d) ∙ ap (λ (x : ℕ). a ⊕ x) (⊕-left_comm b c d) ∙ sym (⊕_assoc a c (b ⊕ d))

pub ⊕_cancel : (a b : ℕ) → a ⊕ (a ⊕ b) ≡ b
⊕_cancel a b = sym (⊕_assoc a a b) ∙ ap (λ (x : ℕ). x ⊕ b) (⊕_self a) ∙ zero-⊕ b

pub ⊕_middle : (u v w : ℕ) → (u ⊕ v) ⊕ (v ⊕ w) ≡ u ⊕ w
⊕_middle u v w = ⊕_assoc u v (v ⊕ w) ∙ ap (λ (x : ℕ). u ⊕ x) (⊕_cancel v w)

pub ⊕-eq-zero : (a b : ℕ) → a ⊕ b ≡ 0 → a ≡ b
⊕-eq-zero a b h = sym (⊕-zero a) ∙ ap (λ (x : ℕ). a ⊕ x) (sym h) ∙ ⊕_cancel a b

-- ---- bounds, shifts, doubling

pub ⊕-lt : (k a b : ℕ) → a < 2 ^ k → b < 2 ^ k → a ⊕ b < 2 ^ k
unfolding ◌⊕◌
⊕-lt k a b = xor_lt k a b

pub ⊕-lt-next : (n x y : ℕ) → x < 2 ^ n * 2 → y < 2 ^ n * 2 → x ⊕ y < 2 ^ n * 2
⊕-lt-next n x y hx hy = rw pow-suc at (⊕-lt (suc n) x y (rw pow-suc hx) (rw pow-suc hy))

-- what is added below the highest coefficient leaves it
pub ⊕-high : (k x y : ℕ) → 2 ^ k ≤ x → y < 2 ^ k → 2 ^ k ≤ x ⊕ y
⊕-high k x y hx hy =
    let e : (x ⊕ y) / 2 ^ k ≡ x / 2 ^ k = ⊕_shr x y k ∙ rw (div-eq_of_lt hy) (⊕-zero _) in
    let g : 1 ≤ x / 2 ^ k = (le-div_iff_mul-le (pow_pos k)).1 (omega arith) in
    omega (arith, (le-div_iff_mul-le {k = 2 ^ k} {x = 1} {y = x ⊕ y} (pow_pos k)).0 (omega arith))

pub ⊕_shl : (a b k : ℕ) → (a ⊕ b) * 2 ^ k ≡ a * 2 ^ k ⊕ b * 2 ^ k
unfolding ◌⊕◌
⊕_shl a b k = sym (simp add-zero at (xor_block k a b 0 0 (pow_pos k) (pow_pos k)))

pub ⊕-double : (a b : ℕ) → (a ⊕ b) * 2 ≡ a * 2 ⊕ b * 2
⊕-double a b = ⊕_shl a b 1

-- parts that do not overlap are added as numbers are
pub ⊕-low : (a k b : ℕ) → b < 2 ^ k → a * 2 ^ k ⊕ b ≡ a * 2 ^ k + b
unfolding ◌⊕◌
⊕-low a k b h = xor_shifted a k b h

pub ⊕_top : (k b : ℕ) → b < 2 ^ k → 2 ^ k ⊕ b ≡ 2 ^ k + b
⊕_top k b h = rw one-mul at (⊕-low 1 k b h)

pub ⊕-digit : (a d : ℕ) → d < 2 → a * 2 ⊕ d ≡ a * 2 + d
⊕-digit a d h = ⊕-low a 1 d h

-- the low digit apart
pub low-apart : (a : ℕ) → a / 2 * 2 ⊕ a % 2 ≡ a
low-apart a = ⊕-digit (a / 2) (a % 2) (mod-two-lt a) ∙ div-add-mod' a 2

-- ---- a coefficient times a sum

pub bit-⊕-mul : (x y b : ℕ) → x < 2 → y < 2 → (x ⊕ y) * b ≡ x * b ⊕ y * b
bit-⊕-mul x y b hx hy = go (bit_cases x hx) (bit_cases y hy)
  where
    go : (x ≡ 0) ⊎ (x ≡ 1) → (y ≡ 0) ⊎ (y ≡ 1) → (x ⊕ y) * b ≡ x * b ⊕ y * b
    go (inl p) q = rw p (simp (zero-⊕, zero-mul))
    go (inr p) (inl q) = rw (p, q) (simp (⊕-zero, zero-mul))
    go (inr p) (inr q) = rw (p, q) (simp (⊕-one-one, ⊕_self, zero-mul))

pub bit-mul-⊕ : (x b c : ℕ) → x < 2 → x * (b ⊕ c) ≡ x * b ⊕ x * c
bit-mul-⊕ x b c hx = go (bit_cases x hx)
  where
    go : (x ≡ 0) ⊎ (x ≡ 1) → x * (b ⊕ c) ≡ x * b ⊕ x * c
    go (inl p) = rw p (simp (zero-⊕, zero-mul))
    go (inr p) = rw p (simp one-mul)
