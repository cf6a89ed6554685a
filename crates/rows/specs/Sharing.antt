-- Laws of single bits and of the bits that two numbers share.
--
-- In order: bits of a sum; digits of what is shared; sharing with a sum, with a power of two, with all n bits; bounds.
-- Assumes nothing.
use Rattle.std.specs.Prelude.{◌≡◌, refl, ℕ, ◌+◌, ◌-◌, ◌*◌, ◌/◌, ◌%◌, ◌^◌, ◌≤◌, ◌<◌}
use Rattle.std.proofs.Common.{sym, ap, ap₂, ◌∙◌, ⊎_elim, zero-mul, one-mul, pow-suc, mod-eq_of_lt, lt_of_le_of_lt, one-add, arith, pow_pos, pow_mono}
use Rattle.std.proofs.Math.Nat.{zero-div, div-eq_of_lt}
use Rattle.std.proofs.Math.Arith.{bin_ind}
use Rattle.std.specs.Int.Bits.{bit_and, and_zero_r, and_self, and_shifted}
use Rattle.std.proofs.lemmas.Nat.{and_comm, and_le_r, and_mask, and_shr, and_mod, shl-shr}
use Rattle.std.proofs.lemmas.Nat.Bits.{and_high}
use Rattle.std.proofs.Math.Pow.{pow-lt}
use Rattle.gf2.specs.Poly.{◌⊕◌}
use Rattle.gf2.specs.Numbers.{bit_cases, order, mod-two-lt, by_digits, pow-next}
use Rattle.gf2.specs.Sum.{⊕_half, ⊕_odd, ⊕_shr, zero-⊕, ⊕-lt, bit-⊕-mul}
use Rattle.rows.specs.Linear.{Linear}
use Rattle.rows.specs.Bits.{bit_of, ◌∩◌}

-- ---- bits

pub bit_of-lt : (a k : ℕ) → bit_of a k < 2
unfolding bit_of
bit_of-lt a k = mod-two-lt (a / 2 ^ k)

pub bit_of-⊕ : (a b k : ℕ) → bit_of (a ⊕ b) k ≡ bit_of a k ⊕ bit_of b k
unfolding bit_of
bit_of-⊕ a b k = ap (λ (x : ℕ). x % 2) (⊕_shr a b k) ∙ ⊕_odd (a / 2 ^ k) (b / 2 ^ k)

pub bit_of-zero : (k : ℕ) → bit_of 0 k ≡ 0
unfolding bit_of
bit_of-zero k = rw zero-div

-- a number below 2 ^ n has its set bits below n
pub bit_of-below : (n a k : ℕ) → a < 2 ^ n → bit_of a k ≡ 1 → k < n
unfolding bit_of
bit_of-below n a k h e =
    ⊎_elim
    (λ (l : k < n). l)
    (λ (l : n ≤ k). let z : a / 2 ^ k ≡ 0 = div-eq_of_lt (omega (arith, pow_mono l)) in absurd (omega arith))
    (order k n)

-- ---- what is shared, digit by digit

pub ∩_half : (a b : ℕ) → (a ∩ b) / 2 ≡ a / 2 ∩ b / 2
unfolding ◌∩◌
∩_half a b = and_shr a b 1

pub ∩_odd : (a b : ℕ) → (a ∩ b) % 2 ≡ a % 2 ∩ b % 2
unfolding ◌∩◌
∩_odd a b = and_mod a b 1

pub ∩_comm : (a b : ℕ) → a ∩ b ≡ b ∩ a
unfolding ◌∩◌
∩_comm a b = and_comm a b

pub ∩-zero : (a : ℕ) → a ∩ 0 ≡ 0
unfolding ◌∩◌
∩-zero a = and_zero_r a

pub zero-∩ : (a : ℕ) → 0 ∩ a ≡ 0
unfolding ◌∩◌
zero-∩ a = refl

pub ∩_self : (a : ℕ) → a ∩ a ≡ a
unfolding ◌∩◌
∩_self a = and_self a

pub bit-∩ : (d e : ℕ) → d < 2 → e < 2 → d ∩ e ≡ d * e
bit-∩ d e hd he =
    ⊎_elim
    (λ (p : d ≡ 0). rw (p, zero-mul) (zero-∩ e))
    (λ (p : d ≡ 1). ⊎_elim (λ (q : e ≡ 0). rw (p, q) (∩-zero 1)) (λ (q : e ≡ 1). rw (p, q) (∩_self 1)) (bit_cases e he))
    (bit_cases d hd)

pub bit_of-∩ : (a b k : ℕ) → bit_of (a ∩ b) k ≡ bit_of a k * bit_of b k
unfolding bit_of ◌∩◌
bit_of-∩ a b k =
    ap (λ (x : ℕ). x % 2) (and_shr a b k)
    ∙ and_mod (a / 2 ^ k) (b / 2 ^ k) 1
    ∙ bit-∩ (a / 2 ^ k % 2) (b / 2 ^ k % 2) (mod-two-lt (a / 2 ^ k)) (mod-two-lt (b / 2 ^ k))

-- ---- shared with a sum

bit-⊕-∩ : (d e u : ℕ) → d < 2 → e < 2 → u < 2 → (d ⊕ e) ∩ u ≡ d ∩ u ⊕ e ∩ u
bit-⊕-∩ d e u hd he hu = rw (bit-∩ (d ⊕ e) u (⊕-lt 1 d e hd he) hu, bit-∩ d u hd hu, bit-∩ e u he hu) (bit-⊕-mul d e u hd he)

pub ⊕-∩ : (a b u : ℕ) → (a ⊕ b) ∩ u ≡ a ∩ u ⊕ b ∩ u
⊕-∩ a =
    bin_ind (λ (m : ℕ). (b u : ℕ) → (m ⊕ b) ∩ u ≡ m ∩ u ⊕ b ∩ u)
    (λ b u. rw (zero-⊕ b, zero-∩ u) (sym (zero-⊕ (b ∩ u))))
    (λ m ih b u.
    let hm = mod-two-lt m in
    let hb = mod-two-lt b in
    let hu = mod-two-lt u in
    by_digits
    (rw (∩_half (m ⊕ b) u, ⊕_half m b, ⊕_half (m ∩ u) (b ∩ u), ∩_half m u, ∩_half b u) (ih (b / 2) (u / 2)))
    (rw (∩_odd (m ⊕ b) u, ⊕_odd m b, ⊕_odd (m ∩ u) (b ∩ u), ∩_odd m u, ∩_odd b u) (bit-⊕-∩ (m % 2) (b % 2) (u % 2) hm hb hu)))
    a

pub ∩-⊕ : (u a b : ℕ) → u ∩ (a ⊕ b) ≡ u ∩ a ⊕ u ∩ b
∩-⊕ u a b = ∩_comm u (a ⊕ b) ∙ ⊕-∩ a b u ∙ ap₂ ◌⊕◌ (∩_comm a u) (∩_comm b u)

pub ∩_linear : (u : ℕ) → Linear (λ a. a ∩ u)
∩_linear u a b = ⊕-∩ a b u

-- ---- shared with a power of two, with all n bits

pub ∩-power : (a c : ℕ) → a ∩ 2 ^ c ≡ bit_of a c * 2 ^ c
unfolding bit_of ◌∩◌
∩-power a c =
    let e : 2 ^ (1 + c) - 2 ^ c ≡ 2 ^ c = rw (one-add, pow-suc) (omega arith) in
    ap (bit_and a) (sym e) ∙ and_high a 1 c

pub power-apart : (i c : ℕ) → (i ≡ c → ⊥) → 2 ^ i ∩ 2 ^ c ≡ 0
unfolding ◌∩◌
power-apart i c ne =
    ⊎_elim
    (λ (l : i < c). and_comm (2 ^ i) (2 ^ c) ∙ rw one-mul at (and_shifted 1 c (2 ^ i) (pow-lt l)))
    (λ (l : c ≤ i). let g : c < i = omega (arith, ne) in rw one-mul at (and_shifted 1 i (2 ^ c) (pow-lt g)))
    (order i c)

pub power-past : (n i a : ℕ) → n ≤ i → a < 2 ^ n → 2 ^ i ∩ a ≡ 0
unfolding ◌∩◌
power-past n i a l h = rw one-mul at (and_shifted 1 i a (omega (arith, pow_mono l)))

pub bit_of-power : (c : ℕ) → bit_of (2 ^ c) c ≡ 1
unfolding bit_of
bit_of-power c = ap (λ (x : ℕ). x / 2 ^ c % 2) (sym (one-mul (2 ^ c))) ∙ rw (shl-shr 1 c)

pub bit_of-other : (i c : ℕ) → (i ≡ c → ⊥) → bit_of (2 ^ i) c ≡ 0
bit_of-other i c ne =
    let z : bit_of (2 ^ i) c * 2 ^ c ≡ 0 = sym (∩-power (2 ^ i) c) ∙ power-apart i c ne in
    ⊎_elim
    (λ (e : bit_of (2 ^ i) c ≡ 0). e)
    (λ (e : bit_of (2 ^ i) c ≡ 1). absurd (omega (arith, sym (ap (λ (x : ℕ). x * 2 ^ c) e ∙ one-mul (2 ^ c)) ∙ z, pow_pos c)))
    (bit_cases (bit_of (2 ^ i) c) (bit_of-lt (2 ^ i) c))

pub ∩-all : (n a : ℕ) → a < 2 ^ n → a ∩ (2 ^ n - 1) ≡ a
unfolding ◌∩◌
∩-all n a h = and_mask a n ∙ mod-eq_of_lt h

-- ---- bounds

pub ∩-lt : (n a u : ℕ) → u < 2 ^ n → a ∩ u < 2 ^ n
unfolding ◌∩◌
∩-lt n a u h = lt_of_le_of_lt (and_le_r a u) h

-- w binary digits are at most m where the number is below 2 ^ m
pub width-le : (a w m : ℕ) → 2 ^ w ≤ 2 * a + 1 → a < 2 ^ m → w ≤ m
width-le a w m l h =
    ⊎_elim
    (λ (q : w < m + 1). omega arith)
    (λ (q : m + 1 ≤ w). absurd (omega (arith, pow_mono q, pow-next m)))
    (order w (m + 1))

-- where a and u share nothing, u lacks the bits of a
pub apart-bit : (a u c : ℕ) → a ∩ u ≡ 0 → bit_of a c ≡ 1 → bit_of u c ≡ 0
apart-bit a u c e h =
    sym (one-mul (bit_of u c)) ∙ ap (λ (x : ℕ). x * bit_of u c) (sym h) ∙ sym (bit_of-∩ a u c) ∙ ap (λ (x : ℕ). bit_of x c) e ∙ bit_of-zero c
