-- The pivot of a row, its lowest set bit; and how many columns have a pivot, counted by the bits of a number.
--
-- `count_trailing_zeros k a` and `ones_in n a`, the number of zeros below the lowest set bit of a, and the number of set bits among the
-- n lowest, are the machine's own (`lib.Count`); here are the laws that it does not have.
-- Assumes nothing.
use Rattle.std.specs.Prelude.{◌≡◌, refl, ℕ, zero, suc, ◌+◌, ◌-◌, ◌*◌, ◌/◌, ◌%◌, ◌^◌, ◌≤◌, ◌<◌}
use Rattle.std.proofs.Common.{sym, ◌∙◌, ⊎_elim, pow-suc, one-add, arith, pow_pos, shr-shr}
use Rattle.std.proofs.Math.Arith.{lt-one}
use Rattle.std.specs.Int.Count.{count_trailing_zeros, ones_in}
use Rattle.gf2.specs.Poly.{◌⊕◌}
use Rattle.gf2.specs.Numbers.{bit_cases, mod-two-lt}
use Rattle.gf2.specs.Sum.{⊕_half, ⊕_odd, zero-⊕, ⊕-zero}
use Rattle.rows.specs.Bits.{bit_of}

bit_of_half : (a k : ℕ) → bit_of (a / 2) k ≡ bit_of a (suc k)
unfolding bit_of
bit_of_half a k = rw (shr-shr a 1 k, one-add)

bit_of-first : (a : ℕ) → bit_of a 0 ≡ a % 2
unfolding bit_of
bit_of-first a = omega arith

-- ---- the lowest set bit

pub lowest_set : (k a : ℕ) → 0 < a → a < 2 ^ k → bit_of a (count_trailing_zeros k a) ≡ 1
unfolding count_trailing_zeros
lowest_set zero a p h = absurd (omega arith)
lowest_set (suc k) a p h =
    let u : a < 2 ^ k * 2 = rw pow-suc at h in
    ⊎_elim
    (λ (e : a % 2 ≡ 0). rw (e, ← bit_of_half a (count_trailing_zeros k (a / 2))) (lowest_set k (a / 2) (omega arith) (omega arith)))
    (λ (e : a % 2 ≡ 1). rw e (bit_of-first a ∙ e))
    (bit_cases (a % 2) (mod-two-lt a))

-- ---- the number of set bits

pub ones_none : (n : ℕ) → ones_in n 0 ≡ 0
unfolding ones_in
ones_none zero = refl
ones_none (suc n) = rw (ones_none n)

ones-most : (n a : ℕ) → ones_in n a ≤ n
unfolding ones_in
ones-most zero a = omega arith
ones-most (suc n) a = omega (arith, ones-most n (a / 2))

-- n set bits below n are all
pub ones-all : (n a : ℕ) → a < 2 ^ n → ones_in n a ≡ n → a ≡ 2 ^ n - 1
unfolding ones_in
ones-all zero a h e = lt-one h
ones-all (suc n) a h e =
    let p : a < 2 ^ n * 2 = rw pow-suc at h in
    let l = ones-most n (a / 2) in
    let i : a / 2 ≡ 2 ^ n - 1 = ones-all n (a / 2) (omega arith) (omega arith) in
    rw pow-suc (omega (arith, pow_pos n))

-- one set bit more
pub ones-more : (n c a : ℕ) → c < n → bit_of a c ≡ 0 → ones_in n (a ⊕ 2 ^ c) ≡ ones_in n a + 1
unfolding ones_in
ones-more zero c a h e = absurd (omega arith)
ones-more (suc n) zero a h e =
    let z : a % 2 ≡ 0 = sym (bit_of-first a) ∙ e in
    rw (⊕_odd a 1, ⊕_half a 1, ⊕-zero, z, zero-⊕) (omega arith)
ones-more (suc n) (suc c) a h e =
    let half : 2 ^ suc c / 2 ≡ 2 ^ c = omega (arith, pow-suc 2 c) in
    let even : 2 ^ suc c % 2 ≡ 0 = omega (arith, pow-suc 2 c) in
    rw (⊕_odd a (2 ^ suc c), ⊕_half a (2 ^ suc c), half, even, ⊕-zero, ones-more n c (a / 2) (omega arith) (bit_of_half a c ∙ e)) (omega arith)
