-- `gf2::squaring::spread_half` meets its contract: the goals that the check leaves. Its loop is told in `Invariants.antt`. Assumes nothing.
use Rattle.std.proofs.Common.{◌≡◌, ℕ, zero, suc, ◌+◌, ◌-◌, ◌*◌, ◌/◌, ◌%◌, ◌^◌, ◌<◌, ◌≤◌, refl, get_or, sym, ap, ◌∙◌, div-one, arith, pow_mono, shl_exact, shr_lt}
use Rattle.std.specs.Int.{bytes_high_first}
use native.Mathlib.Nat.{div-eq_of_lt}
use lib.Bits.{bit_xor}
use Rattle.gf2.specs.Poly.{◌⊕◌, spread}
use Rattle.gf2.specs.Product.{spread-zero}
use Rattle.gf2.specs.Degrees.{spread-lt}
use Rattle.gf2.specs.Steps.{spread_turn}
use Rattle.gf2.proofs.squaring.spread_half.Goals as goal

start : (a : ℕ) → a < 2 ^ 32 → 0 ≡ spread (a / 2 ^ 32)
start a h = sym (ap spread (div-eq_of_lt h) ∙ spread-zero)

-- the bytes of half a word, from the highest down
high_byte : (a i : ℕ) → i < 4 → get_or (bytes_high_first 4 a) i 0 ≡ a / 2 ^ (8 * (4 - i) - 8) % 256
high_byte a zero h = refl
high_byte a (suc zero) h = refl
high_byte a (suc (suc zero)) h = refl
high_byte a (suc (suc (suc zero))) h = ap (λ (x : ℕ). x % 256) (sym (div-one a))
high_byte a (suc (suc (suc (suc i)))) h = absurd (omega arith)

module _ (a k sum s : ℕ) (small : a < 2 ^ 32) (h : 8 ≤ k) (inv : sum ≡ spread (a / 2 ^ k)) where
  -- three bytes are in at most, so none is shifted out
  sum_lt : sum < 2 ^ 48
  sum_lt =
      let l : 32 ≤ 24 + k = omega arith in
      let b : a < 2 ^ (24 + k) = omega (arith, pow_mono l) in
      rw inv (spread-lt 24 (a / 2 ^ k) (shr_lt 24 k b))

  turn : s ≡ spread (a / 2 ^ (k - 8) % 256) → bit_xor (sum * 2 ^ 16 % 2 ^ 64) s ≡ spread (a / 2 ^ (k - 8))
  unfolding ◌⊕◌
  turn es = ap (λ (x : ℕ). bit_xor x s) (shl_exact 48 16 64 sum_lt (omega arith)) ∙ spread_turn a k sum s h inv es

pub loop-byte-init : goal.loop-byte-init
loop-byte-init c = start c.args.half c.ranges.half.fits

pub loop-byte-preserved : goal.loop-byte-preserved
loop-byte-preserved c =
    let i : ℕ = c.loop-byte.byte-index in
    let k : ℕ = 8 * (4 - i) in
    let more : i < 4 = c.loop-byte-test.true in
    let next : 8 * (4 - (i + 1)) ≡ k - 8 = omega arith in
    let byte : get_or c.to_be_bytes-byte-items.result i 0 ≡ c.args.half / 2 ^ (k - 8) % 256 =
    ap (λ xs. get_or xs i 0) c.to_be_bytes-byte-items.ensures ∙ high_byte c.args.half i more in
    let entry = c.of_byte.ensures ∙ ap spread byte in
    rw next (turn c.args.half k c.loop-byte.sum c.of_byte.result c.ranges.half.fits (omega arith) c.loop-byte.invariant entry)
