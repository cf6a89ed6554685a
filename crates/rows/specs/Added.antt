-- A number is added to those of the first rows of a list that a column of another list picks: what clears a column.
--
--   added m c y heads rows    y is added to each of the first m rows at whose place heads has the bit c
--
--   Placed c y heads rows out    so it was done, and then y was put at place c
--
-- In order: length; the rows at each place; a turn of the loop that adds; what was placed.
-- Assumes nothing.
use Rattle.std.specs.Prelude.{◌≡◌, length, set}
use Rattle.std.proofs.Math.Path.{refl, ap}
use Rattle.std.proofs.Common.{sym, ◌∙◌, zero-mul, add-one, get_or-set_same}
use Rattle.std.proofs.Math.Logic.{⊎_elim}
use mathlib.Core.List.{List}
use Prim.Native.Nat.{ℕ, zero, suc, ◌+◌, ◌*◌, ◌≤◌, ◌<◌}
use native.Mathlib.Omega.{arith}
use Rattle.std.proofs.Math.ListN.{get_or, length-set}
use Rattle.std.proofs.Math.Seq.{get_or-set_other}
use Rattle.gf2.specs.Poly.{◌⊕◌}
use Rattle.gf2.specs.Numbers.{order}
use Rattle.gf2.specs.Sum.{⊕-zero}
use Rattle.rows.specs.Bits.{bit_of}
use Rattle.rows.specs.Sharing.{bit_of-zero}

unfoldable pub added : (m c y : ℕ) (heads rows : List ℕ) → List ℕ
added zero c y heads rows = rows
added (suc m) c y heads rows = set (added m c y heads rows) m (get_or rows m 0 ⊕ bit_of (get_or heads m 0) c * y)

pub record Placed (c y : ℕ) (heads rows out : List ℕ) : Type 0 where
  pub new : get_or out c 0 ≡ y
  pub old : (i : ℕ) → (i ≡ c → ⊥) → get_or out i 0 ≡ get_or rows i 0 ⊕ bit_of (get_or heads i 0) c * y

module _ (c y : ℕ) (heads rows : List ℕ) where
  length-added : (m : ℕ) → length (added m c y heads rows) ≡ length rows
  unfolding added
  length-added zero = refl
  length-added (suc m) = length-set (added m c y heads rows) m _ ∙ length-added m

  -- the rows from m upward stay
  pub added-past : (m i : ℕ) → m ≤ i → get_or (added m c y heads rows) i 0 ≡ get_or rows i 0
  unfolding added
  added-past zero i h = refl
  added-past (suc m) i h = get_or-set_other (added m c y heads rows) m i _ 0 (λ e. omega arith) ∙ added-past m i (omega arith)

  added-first : (m i : ℕ) → m ≤ length rows → i < m → get_or (added m c y heads rows) i 0 ≡ get_or rows i 0 ⊕ bit_of (get_or heads i 0) c * y
  unfolding added
  added-first zero i l h = absurd (omega arith)
  added-first (suc m) i l h =
      ⊎_elim
      (λ (q : i < m). get_or-set_other (added m c y heads rows) m i _ 0 (λ e. omega arith) ∙ added-first m i (omega arith) q)
      (λ (q : m ≤ i).
      let e : i ≡ m = omega arith in
      rw e (get_or-set_same (added m c y heads rows) m _ 0 (rw length-added (omega arith))))
      (order i m)

  -- where the heads from m upward are zero, no place is an exception
  pub added-at : (m : ℕ) → m ≤ length rows → ((i : ℕ) → m ≤ i → get_or heads i 0 ≡ 0)
      → (i : ℕ) → get_or (added m c y heads rows) i 0 ≡ get_or rows i 0 ⊕ bit_of (get_or heads i 0) c * y
  added-at m l z i =
      ⊎_elim
      (λ (q : i < m). added-first m i l q)
      (λ (q : m ≤ i). added-past m i q ∙ sym (rw (z i q, bit_of-zero, zero-mul) (⊕-zero (get_or rows i 0))))
      (order i m)

  -- a turn: part is what the head of row m picks of y
  pub added_turn : (m : ℕ) (out : List ℕ) (head part : ℕ) → out ≡ added m c y heads rows → head ≡ get_or heads m 0 → part ≡ bit_of head c * y
      → set out m (get_or out m 0 ⊕ part) ≡ added (m + 1) c y heads rows
  unfolding added
  added_turn m out head part o h e =
      let s : get_or out m 0 ≡ get_or rows m 0 = ap (λ (l : List ℕ). get_or l m 0) o ∙ added-past m m (omega arith) in
      rw (add-one, s, e, o, h)

  -- ---- what was placed

  pub length-placed : (m : ℕ) → length (set (added m c y heads rows) c y) ≡ length rows
  length-placed m = length-set (added m c y heads rows) c y ∙ length-added m

  pub added-placed : (m : ℕ) → m ≤ length rows → c < length rows → ((i : ℕ) → m ≤ i → get_or heads i 0 ≡ 0) → Placed c y heads rows (set (added m c y heads rows) c y)
  added-placed m l h z =
      record {
        new = get_or-set_same (added m c y heads rows) c y 0 (rw length-added h);
        old = λ i ne. get_or-set_other (added m c y heads rows) c i y 0 ne ∙ added-at m l z i;
      }
