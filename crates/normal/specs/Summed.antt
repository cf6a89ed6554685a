-- Byte sums as products take them: whose rows they are.
--
--   summed_rows n sums   the n rows: row i is the sum that the byte with bit i % 8 alone picks in table i / 8
--   Summed n sums       at a degree within the limit, the tables pick what these rows pick, and the rows are below 2^n
--
-- In order: the byte sums of a matrix are of its rows (`summed-rows`, `summed_matrix`).
-- Assumes nothing.
use Rattle.std.specs.Prelude.{◌≡◌, List, ℕ, ◌+◌, ◌*◌, ◌/◌, ◌%◌, ◌^◌, ◌≤◌, ◌<◌, length, drop}
use Rattle.std.proofs.Math.Path.{sym}
use Rattle.std.proofs.Common.{ap, ◌∙◌, arith, pow_mono, ext_get_or, get_or-drop}
use Rattle.std.proofs.Math.ListN.{get_or}
use Rattle.std.proofs.Math.Pow.{pow-lt}
use Rattle.gf2.specs.Limit.{limit}
use Rattle.rows.specs.Rows.{comb, Matrix}
use Rattle.rows.specs.Sums.{comb-power}
use Rattle.rows.specs.ByteSums.{bytes, byte_sums, picked_bytes, byte_sums-at, bytes_pick}
use Rattle.normal.specs.Normal.{listed, padded}
use Rattle.normal.specs.Coordinates.{listed_at, listed-length}
use Rattle.normal.specs.Filling.{padded-at, padded-comb}

unfoldable pub summed_rows : (n : ℕ) (sums : List ℕ) → List ℕ
summed_rows n sums = listed n (λ i. get_or sums (256 * (i / 8) + 2 ^ (i % 8)) 0)

pub record Summed (n : ℕ) (sums : List ℕ) : Type 0 where
  pub one : 1 ≤ n
  pub most : n ≤ limit
  pub picks : (v : ℕ) → v < 2 ^ n → picked_bytes bytes sums v ≡ comb (summed_rows n sums) v
  pub row_lt : (i : ℕ) → i < n → get_or (summed_rows n sums) i 0 < 2 ^ n

pub summed_rows-length : (n : ℕ) (sums : List ℕ) → length (summed_rows n sums) ≡ n
unfolding summed_rows
summed_rows-length n sums = listed-length n (λ i. get_or sums (256 * (i / 8) + 2 ^ (i % 8)) 0)

module _ (n : ℕ) (most : n ≤ limit) (rows : List ℕ) (size : length rows ≡ n) (sums : List ℕ) (is : sums ≡ byte_sums bytes (padded rows)) where
  entry_is : (i : ℕ) → i < n → get_or (byte_sums bytes (padded rows)) (256 * (i / 8) + 2 ^ (i % 8)) 0 ≡ get_or rows i 0
  entry_is i h =
      let low : i % 8 < 8 = omega arith in
      let e : 8 * (i / 8) + i % 8 ≡ i = omega arith in
      byte_sums-at bytes (padded rows) (i / 8) (2 ^ (i % 8)) (omega arith) (pow-lt low)
      ∙ comb-power (drop (8 * (i / 8)) (padded rows)) (i % 8)
      ∙ get_or-drop (8 * (i / 8)) (padded rows) (i % 8) 0
      ∙ ap (λ (k : ℕ). get_or (padded rows) k 0) e
      ∙ padded-at rows i

  pub summed-rows : summed_rows n sums ≡ rows
  unfolding summed_rows
  summed-rows =
      rw is
      (ext_get_or 0 (summed_rows n (byte_sums bytes (padded rows))) rows (summed_rows-length n (byte_sums bytes (padded rows)) ∙ sym size)
      (λ i l.
      let h : i < n = rw (summed_rows-length n (byte_sums bytes (padded rows))) at l in
      listed_at n (λ j. get_or (byte_sums bytes (padded rows)) (256 * (j / 8) + 2 ^ (j % 8)) 0) i h ∙ entry_is i h))

  pub summed_matrix : 1 ≤ n → Matrix rows n → Summed n sums
  summed_matrix pos m =
      record {
        one = pos;
        most = most;
        picks = λ v h.
            let w : v < 2 ^ 48 = omega (arith, pow_mono most) in
            ap (λ (s : List ℕ). picked_bytes bytes s v) is ∙ bytes_pick bytes (padded rows) v w ∙ padded-comb rows v
            ∙ ap (λ (r : List ℕ). comb r v) (sym summed-rows);
        row_lt = λ i h. rw summed-rows (m.row_lt i);
      }
