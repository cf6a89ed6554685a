-- The spread, bit by bit, for every number; the rule of the table of 256 byte spreads, and the one test over all entries that
-- shows it (document 01, "Two notations": "The table's rule is proved over all entries at once").
--
--   spread-bit       bit i of a stands at bit 2 * i of its spread; `spread_odd`: the odd bits are 0
--   entry-bit        the same of an entry; `entry_odd`
--   spreads_from      the test; `tested_table`: what passes it has the rule
--
-- Assumes nothing.
use Rattle.std.specs.Prelude.{◌≡◌, ℕ, zero, suc, ◌+◌, ◌*◌, ◌/◌, ◌%◌, ◌^◌, ◌<◌, Bool, true, false, ◌&&◌, T, List, [], ◌∷◌, length, ◌==◌, slice_index}
use Rattle.std.proofs.Common.{sym, ap, ◌∙◌, add-zero, zero-add, add-suc, suc-add, div-one, le_of_suc-le-suc, not-suc-le-zero, one-add, arith, eqb→eq, shr-shr}
use Rattle.gf2.specs.Poly.{spread}
use Rattle.gf2.specs.Product.{spread-step}
use Rattle.gf2.specs.Spread.{SpreadTable}

-- ---- bits

-- what stands from place i upward stands from place 2 * i upward once it is spread
spread-high : (a i : ℕ) → spread a / 2 ^ (2 * i) ≡ spread (a / 2 ^ i)
spread-high a zero = rw (div-one, div-one)
spread-high a (suc i) =
    let e : 2 * suc i ≡ 2 + 2 * i = omega arith in
    let quarter : spread a / 2 ^ 2 ≡ spread (a / 2) = omega (arith, spread-step a) in
    ap (λ (k : ℕ). spread a / 2 ^ k) e
    ∙ sym (shr-shr (spread a) 2 (2 * i))
    ∙ ap (λ (x : ℕ). x / 2 ^ (2 * i)) quarter
    ∙ spread-high (a / 2) i
    ∙ ap spread (shr-shr a 1 i ∙ ap (λ (k : ℕ). a / 2 ^ k) (one-add i))

pub spread-bit : (a i : ℕ) → spread a / 2 ^ (2 * i) % 2 ≡ a / 2 ^ i % 2
spread-bit a i = ap (λ (x : ℕ). x % 2) (spread-high a i) ∙ (omega (arith, spread-step (a / 2 ^ i)))

pub spread_odd : (a i : ℕ) → spread a / 2 ^ (2 * i + 1) % 2 ≡ 0
spread_odd a i =
    ap (λ (x : ℕ). x % 2) (sym (shr-shr (spread a) (2 * i) 1) ∙ ap (λ (x : ℕ). x / 2) (spread-high a i))
    ∙ (omega (arith, spread-step (a / 2 ^ i)))

-- "entry b carrying bit i of b at bit 2i", and nothing else
module _ (t : List ℕ) (table : SpreadTable t) (b : ℕ) (h : b < 256) where
  pub entry-bit : (i : ℕ) → slice_index t b / 2 ^ (2 * i) % 2 ≡ b / 2 ^ i % 2
  entry-bit i = rw (table.rule b h) (spread-bit b i)

  pub entry_odd : (i : ℕ) → slice_index t b / 2 ^ (2 * i + 1) % 2 ≡ 0
  entry_odd i = rw (table.rule b h) (spread_odd b i)

-- ---- the test

-- the entries are the spreads of i, i + 1 and so on
unfoldable pub spreads_from : ℕ → List ℕ → Bool
spreads_from i [] = true
spreads_from i (x ∷ xs) = x == spread i && spreads_from (suc i) xs

both_left : (a b : Bool) → T (a && b) → T a
both_left true b t = tt
both_left false b t = t

both_right : (a b : Bool) → T (a && b) → T b
both_right true b t = t
both_right false b t = absurd t

spreads_at : (xs : List ℕ) (i : ℕ) → T (spreads_from i xs) → (k : ℕ) → k < length xs → slice_index xs k ≡ spread (i + k)
unfolding spreads_from
spreads_at [] i t k h = absurd (not-suc-le-zero h)
spreads_at (x ∷ xs) i t zero h = rw add-zero (eqb→eq x (spread i) (both_left (x == spread i) (spreads_from (suc i) xs) t))
spreads_at (x ∷ xs) i t (suc k) h =
    let e : i + suc k ≡ suc i + k = add-suc i k ∙ sym (suc-add i k) in
    rw e (spreads_at xs (suc i) (both_right (x == spread i) (spreads_from (suc i) xs) t) k (le_of_suc-le-suc h))

-- a table that passes the test has the rule
pub tested_table : (t : List ℕ) → T (spreads_from 0 t) → length t ≡ 256 → SpreadTable t
tested_table t ok long =
    record { long = long; rule = λ b h. rw zero-add at (spreads_at t 0 ok b (rw long h)) }
