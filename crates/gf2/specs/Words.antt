-- What the machine's operations on 64-bit words come to where nothing is lost: masks, shifts, the count of leading zeros.
-- Assumes nothing.
use Rattle.std.specs.Prelude.{◌≡◌, ℕ, suc, ◌+◌, ◌-◌, ◌*◌, ◌%◌, ◌^◌, ◌<◌, ◌≤◌, ◌⊎◌, bit_and}
use Rattle.std.proofs.Common.{◌∙◌, inl, inr, zero-mul, one-mul, mod-eq_of_lt, add-one, arith}
use Rattle.std.proofs.lemmas.Nat.{and_comm, and_mask, leading_top}
use Rattle.std.specs.Int.Count.{count_leading_zeros}
use Rattle.gf2.specs.Poly.{degree}
use Rattle.gf2.specs.Numbers.{bit_cases}
use Rattle.gf2.specs.Degrees.{degree-eq}

-- the mask m that bit added to wraps to 0 picks a row or nothing
pub mask_picks : (m bit row : ℕ) → bit < 2 → m < 2 ^ 64 → row < 2 ^ 64 → (m + bit) % 2 ^ 64 ≡ 0 → bit_and m row ≡ bit * row
mask_picks m bit row h lm lr e = go (bit_cases bit h)
  where
    go : (bit ≡ 0) ⊎ (bit ≡ 1) → bit_and m row ≡ bit * row
    go (inl p) =
        let z : m ≡ 0 = omega arith in
        rw (z, p, zero-mul)
    go (inr p) =
        let z : m ≡ 2 ^ 64 - 1 = omega arith in
        rw (p, z, one-mul) (and_comm (2 ^ 64 - 1) row ∙ and_mask row 64 ∙ mod-eq_of_lt lr)

-- the count of leading zeros gives the degree
pub leading-degree : (a : ℕ) → 0 < a → a < 2 ^ 64 → (count_leading_zeros 64 a ≤ 63) × (63 - count_leading_zeros 64 a ≡ degree a)
leading-degree a h l =
    let t = leading_top 64 a h l in
    let j : ℕ = t.0 in
    let s : count_leading_zeros 64 a + suc j ≡ 64 = t.1 in
    let d : degree a ≡ j = degree-eq a j (record { low = t.2; high = rw add-one t.3 }) in
    (omega arith, omega arith)
