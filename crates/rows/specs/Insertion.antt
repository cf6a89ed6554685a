-- Inversion by insertion: the rows of C are taken in order from 0. A row is reduced by the rows taken so far; what is left of it
-- either is zero, and names a dependency, or has a set bit, which becomes its pivot, and goes in at the place of the pivot's
-- column. Each reduced row is kept with its name, the number whose bits pick the rows of C that sum to it.
--
--   Inserted C n k a b p    k rows of C are in: a has the reduced rows, b their names, p the columns of the pivots
--   Reduced C n k b p x t   x, with the name t, is what is left of row k of C
--
-- In order: the pivot; the start; sums of what is in; a row is reduced; what is left is zero.
-- Not here: what is left goes in, and the end (`Placing`).
-- What of this a wrong definition breaks, and what rests on that, stands in `proofs/Insertion.antt`.
-- Assumes nothing.
use Rattle.std.specs.Prelude.{◌≡◌, List, ℕ, ◌*◌, ◌^◌, ◌≤◌, ◌<◌, get_or, replicate}
use Rattle.std.proofs.Common.{sym, ap, ◌∙◌, arith, pow_pos, pow_mono}
use Rattle.std.specs.Int.Count.{ones_in, count_trailing_zeros}
use Rattle.gf2.specs.Poly.{◌⊕◌}
use Rattle.rows.specs.Rows.{comb}
use Rattle.rows.specs.Sums.{comb-zero, zeros-at}
use Rattle.rows.specs.Bits.{bit_of, ◌∩◌}
use Rattle.rows.specs.Sharing.{bit_of-below, ∩-zero}
use Rattle.rows.specs.Pivots.{lowest_set, ones_none}

pub record Inserted (C : List ℕ) (n k : ℕ) (a b : List ℕ) (p : ℕ) : Type 0 where
  -- b has the names of the rows in a
  pub sums : (i : ℕ) → get_or a i 0 ≡ comb C (get_or b i 0)
  -- of the pivots' columns, the row at place i has at most its own
  pub own : (i : ℕ) → i < n → get_or a i 0 ∩ p ≡ 2 ^ i ∩ p
  -- at other places nothing stands
  pub idle : (i : ℕ) → 2 ^ i ∩ p ≡ 0 → get_or b i 0 ≡ 0
  -- the names bring back the rows that are in
  pub back : (j : ℕ) → j < k → comb b (get_or C j 0) ≡ 2 ^ j
  -- names pick rows that are in, and columns are columns
  pub names : (i : ℕ) → get_or b i 0 < 2 ^ k
  pub columns : p < 2 ^ n
  pub count : ones_in n p ≡ k

pub record Reduced (C : List ℕ) (n k : ℕ) (b : List ℕ) (p x t : ℕ) : Type 0 where
  pub name : x ≡ comb C t
  -- it has none of the pivots' columns
  pub clear : x ∩ p ≡ 0
  -- the name picks row k, and of the others only rows before it
  pub low : 2 ^ k ≤ t
  pub high : t < 2 ^ k * 2
  -- row k is what is left of it, and rows that are in
  pub split : comb b (get_or C k 0) ⊕ t ≡ 2 ^ k
  pub small : x < 2 ^ n

-- ---- the pivot

-- the lowest set bit of what is left, in words of w bits, is one of the n columns
pub pivot_set : {C : List ℕ} {n k : ℕ} {b : List ℕ} {p x t : ℕ} (w : ℕ) → Reduced C n k b p x t → (x ≡ 0 → ⊥) → n ≤ w → bit_of x (count_trailing_zeros w x) ≡ 1
pivot_set {x} w r ne l = lowest_set w x (omega (arith, ne)) (omega (arith, r.small, pow_mono l))

pub pivot_lt : {C : List ℕ} {n k : ℕ} {b : List ℕ} {p x t : ℕ} (w : ℕ) → Reduced C n k b p x t → (x ≡ 0 → ⊥) → n ≤ w → count_trailing_zeros w x < n
pivot_lt {n} {x} w r ne l = bit_of-below n x (count_trailing_zeros w x) r.small (pivot_set w r ne l)

-- ---- the start

pub insertion_start : (C : List ℕ) (n m : ℕ) → Inserted C n 0 (replicate m 0) (replicate m 0) 0
insertion_start C n m =
    record {
      sums = λ i. zeros-at m i ∙ sym (ap (comb C) (zeros-at m i) ∙ comb-zero C);
      own = λ i h. ∩-zero (get_or (replicate m 0) i 0) ∙ sym (∩-zero (2 ^ i));
      idle = λ i h. zeros-at m i;
      back = λ j h. absurd (omega arith);
      names = λ i. rw zeros-at (omega arith);
      columns = pow_pos n;
      count = ones_none n;
    }
