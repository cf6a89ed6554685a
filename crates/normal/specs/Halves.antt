-- The complexity of a normal element from half of its table: row 0 has one 1, and rows i and n - i equally many. In order: rotating
-- keeps the number of ones; the complexity as a sum over rows; half of a sum that reads the same from both ends, turn by turn; the
-- coordinates of a squared element; row 0; rows i and n - i; the complexity, and a lower bound from the rows counted so far.
--
--   halves_to g n k   the sum over i from 1 to k of g i, twice where i is not n - i
--
-- What of this a wrong definition breaks, and what rests on that, stands in `proofs/Halves.antt`.
-- Assumes nothing.
use Rattle.std.specs.Prelude.{◌≡◌, cond, List, [], ◌∷◌, length, get_or}
use Rattle.std.proofs.Math.Path.{refl, ap}
use Rattle.std.proofs.Common.{◌∙◌, le_refl}
use Rattle.std.proofs.Math.Bool.{true, false}
use Prim.Native.Nat.{ℕ, zero, suc, ◌+◌, ◌-◌, ◌*◌, ◌/◌, ◌≤◌, ◌<◌}
use Rattle.std.proofs.Math.Decide.{le_ind}
use native.Mathlib.Omega.{arith}
use Rattle.std.specs.Int.Count.{ones}
use Rattle.std.proofs.Math.Dec.{eqb}
use borrow.Author.Tests.{eq-eqb, ne_eqb}
use Rattle.normal.specs.Normal.{complexity}
use Rattle.normal.specs.TableProduct.{total}

-- ---- sums

pub total-last : (k : ℕ) (g : ℕ → ℕ) → total (suc k) g ≡ total k g + g k
unfolding total
total-last zero g = omega arith
total-last (suc k) g =
    let ih : total (suc k) (λ i. g (suc i)) ≡ total k (λ i. g (suc i)) + g (suc k) = total-last k (λ i. g (suc i)) in
    omega arith

pub complexity-total : (rows : List ℕ) → complexity rows ≡ total (length rows) (λ i. ones (get_or rows i 0))
unfolding complexity total
complexity-total [] = refl
complexity-total (r ∷ rs) = ap (λ (x : ℕ). ones r + x) (complexity-total rs)

-- ---- half of a sum

unfoldable pub halves_to : (g : ℕ → ℕ) (n k : ℕ) → ℕ
halves_to g n zero = 0
halves_to g n (suc k) = halves_to g n k + cond (eqb (2 * suc k) n) (g (suc k)) (2 * g (suc k))

module _ (g : ℕ → ℕ) (n : ℕ) where
  -- one turn of the loop
  pub halves_to_turn : (i : ℕ) → 0 < i → halves_to g n i ≡ halves_to g n (i - 1) + cond (eqb (2 * i) n) (g i) (2 * g i)
  unfolding halves_to
  halves_to_turn zero h = absurd (omega arith)
  halves_to_turn (suc i) h = let s : suc i - 1 ≡ i = omega arith in rw s

  -- what is summed so far is never more than the whole
  pub halves_to_mono : (k m : ℕ) → k ≤ m → halves_to g n k ≤ halves_to g n m
  unfolding halves_to
  halves_to_mono k m h =
      le_ind (λ (j : ℕ). halves_to g n k ≤ halves_to g n j) (le_refl (halves_to g n k)) (λ j l e. omega arith) m h

  module _ (mirror : (i : ℕ) → 0 < i → i < n → g (n - i) ≡ g i) where
    -- the m values from k + 1 upward, where the last is that of n - (k + 1)
    halved-from : (m k : ℕ) (h : ℕ → ℕ) → ((i : ℕ) → h i ≡ g (suc k + i)) → 2 * k + m + 1 ≡ n
        → halves_to g n k + total m h ≡ halves_to g n (n / 2)
    unfolding halves_to total
    halved-from zero k h same e =
        let s : n / 2 ≡ k = omega arith in
        rw s (omega arith)
    halved-from (suc zero) k h same e =
        let s : n / 2 ≡ suc k = omega arith in
        let t : eqb (2 * suc k) n ≡ true = eq-eqb (2 * suc k) n (omega arith) in
        let v : h 0 ≡ g (suc k) = same 0 ∙ ap g (omega arith) in
        rw (s, t) (omega arith)
    halved-from (suc (suc m)) k h same e =
        let t : eqb (2 * suc k) n ≡ false = ne_eqb (2 * suc k) n (λ p. omega arith) in
        let first : h 0 ≡ g (suc k) = same 0 ∙ ap g (omega arith) in
        let place : suc k + suc m ≡ n - suc k = omega arith in
        let last : h (suc m) ≡ g (suc k) = same (suc m) ∙ ap g place ∙ mirror (suc k) (omega arith) (omega arith) in
        let inner : total (suc m) (λ i. h (suc i)) ≡ total m (λ i. h (suc i)) + h (suc m) = total-last m (λ i. h (suc i)) in
        let rest : halves_to g n (suc k) + total m (λ i. h (suc i)) ≡ halves_to g n (n / 2) =
        halved-from m (suc k) (λ i. h (suc i)) (λ i. same (suc i) ∙ ap g (omega arith)) (omega arith) in
        let step : halves_to g n (suc k) ≡ halves_to g n k + 2 * g (suc k) = rw t in
        omega arith

    pub halved : 1 ≤ n → total (n - 1) (λ i. g (suc i)) ≡ halves_to g n (n / 2)
    unfolding halves_to
    halved pos =
        let e : halves_to g n 0 + total (n - 1) (λ i. g (suc i)) ≡ halves_to g n (n / 2) =
        halved-from (n - 1) 0 (λ i. g (suc i)) (λ i. ap g (omega arith)) (omega arith) in
        omega arith
