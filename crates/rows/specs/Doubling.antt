-- How the tables of `ByteSums` are filled: a table of the sums of t rows becomes one of t + 1 rows when it is copied behind itself with the
-- new row added. It starts as the empty sum alone, 0.
--
--   doubled m at count row sums   the first m of the count entries from at on, copied behind the count with row added
--   tabled t at rows sums         what stands at place at, doubled by the first t rows
--   tables m rows sums            m tables, each of eight rows
--
-- In order: what doubling keeps and what it adds; a table's entries; the tables are `byte_sums` (`tables-sums`), and those of the rows that are
-- not zero alone are too, where zeros stand past them (`tables-enough`).
-- Assumes nothing.
use Rattle.std.specs.Prelude.{◌≡◌, List, [], drop}
use Rattle.std.proofs.Math.Path.{refl, ap}
use Rattle.std.proofs.Common.{sym, ◌∙◌, not-suc-le-zero, add-zero, add-one, get_or-drop, ext_get_or}
use Rattle.std.proofs.Math.Logic.{⊎_elim}
use Prim.Native.Nat.{ℕ, zero, suc, ◌+◌, ◌-◌, ◌*◌, ◌/◌, ◌%◌, ◌^◌, ◌≤◌, ◌<◌}
use Rattle.std.proofs.Math.Nat.{pow-suc}
use native.Mathlib.Omega.{arith}
use Rattle.std.proofs.Math.Arith.{lt-one}
use Rattle.std.proofs.Math.ListN.{length, get_or, set, length-set}
use Rattle.std.proofs.Math.Seq.{get_or-set_same, get_or-set_other}
use Rattle.gf2.specs.Poly.{◌⊕◌}
use Rattle.gf2.specs.Numbers.{order}
use Rattle.gf2.specs.Sum.{⊕_comm, ⊕_top}
use Rattle.rows.specs.Rows.{comb}
use Rattle.rows.specs.Sums.{comb-⊕, comb-zero, comb-power, comb-same, comb-nil}
use Rattle.rows.specs.ByteSums.{byte_sums, byte_sums-at, byte_sums-length}

unfoldable pub doubled : (m at count row : ℕ) (sums : List ℕ) → List ℕ
doubled zero at count row sums = sums
doubled (suc m) at count row sums = set (doubled m at count row sums) (at + count + m) (get_or (doubled m at count row sums) (at + m) 0 ⊕ row)

unfoldable pub tabled : (t at : ℕ) (rows sums : List ℕ) → List ℕ
tabled zero at rows sums = sums
tabled (suc t) at rows sums = doubled (2 ^ t) at (2 ^ t) (get_or rows t 0) (tabled t at rows sums)

unfoldable pub tables : (m : ℕ) (rows sums : List ℕ) → List ℕ
tables zero rows sums = sums
tables (suc m) rows sums = tabled 8 (256 * m) (drop (8 * m) rows) (set (tables m rows sums) (256 * m) 0)

-- ---- doubling

module _ (at count row : ℕ) (sums : List ℕ) where
  pub doubled-length : (m : ℕ) → length (doubled m at count row sums) ≡ length sums
  unfolding doubled
  doubled-length zero = refl
  doubled-length (suc m) = length-set (doubled m at count row sums) (at + count + m) _ ∙ doubled-length m

  -- what stands before the copy stays
  doubled-below : (m k : ℕ) → k < at + count → get_or (doubled m at count row sums) k 0 ≡ get_or sums k 0
  unfolding doubled
  doubled-below zero k h = refl
  doubled-below (suc m) k h = get_or-set_other (doubled m at count row sums) (at + count + m) k _ 0 (λ e. omega arith) ∙ doubled-below m k h

  -- and what stands past it
  doubled-above : (m k : ℕ) → at + count + m ≤ k → get_or (doubled m at count row sums) k 0 ≡ get_or sums k 0
  unfolding doubled
  doubled-above zero k h = refl
  doubled-above (suc m) k h = get_or-set_other (doubled m at count row sums) (at + count + m) k _ 0 (λ e. omega arith) ∙ doubled-above m k (omega arith)

  doubled-at : (m b : ℕ) → m ≤ count → at + count + m ≤ length sums → b < m → get_or (doubled m at count row sums) (at + count + b) 0 ≡ get_or sums (at + b) 0 ⊕ row
  unfolding doubled
  doubled-at zero b c l h = absurd (not-suc-le-zero h)
  doubled-at (suc m) b c l h =
      ⊎_elim
      (λ (q : b < m). get_or-set_other (doubled m at count row sums) (at + count + m) (at + count + b) _ 0 (λ e. omega arith) ∙ doubled-at m b (omega arith) (omega arith) q)
      (λ (q : m ≤ b).
      let e : b ≡ m = omega arith in
      rw e
      (get_or-set_same (doubled m at count row sums) (at + count + m) _ 0 (rw (doubled-length m) (omega arith))
      ∙ ap (λ (x : ℕ). x ⊕ row) (doubled-below m (at + m) (omega arith))))
      (order b m)

  -- a turn of the loop that doubles
  pub doubled_turn : (m : ℕ) (out : List ℕ) → out ≡ doubled m at count row sums → set out (at + count + m) (get_or out (at + m) 0 ⊕ row) ≡ doubled (m + 1) at count row sums
  unfolding doubled
  doubled_turn m out e = rw (add-one, e)

-- ---- a table

module _ (at : ℕ) (rows sums : List ℕ) where
  pub tabled-length : (t : ℕ) → length (tabled t at rows sums) ≡ length sums
  unfolding tabled
  tabled-length zero = refl
  tabled-length (suc t) = doubled-length at (2 ^ t) (get_or rows t 0) (tabled t at rows sums) (2 ^ t) ∙ tabled-length t

  -- what stands before the table stays
  tabled-below : (t k : ℕ) → k < at → get_or (tabled t at rows sums) k 0 ≡ get_or sums k 0
  unfolding tabled
  tabled-below zero k h = refl
  tabled-below (suc t) k h = doubled-below at (2 ^ t) (get_or rows t 0) (tabled t at rows sums) (2 ^ t) k (omega arith) ∙ tabled-below t k h

  -- and what stands past it
  tabled-above : (t k : ℕ) → at + 2 ^ t ≤ k → get_or (tabled t at rows sums) k 0 ≡ get_or sums k 0
  unfolding tabled
  tabled-above zero k h = refl
  tabled-above (suc t) k h =
      let w : at + 2 ^ t * 2 ≤ k = rw pow-suc at h in
      doubled-above at (2 ^ t) (get_or rows t 0) (tabled t at rows sums) (2 ^ t) k (omega arith) ∙ tabled-above t k (omega arith)

  -- a number with the bit t picks row t beside what the bits below pick
  comb-next : (t b : ℕ) → b < 2 ^ t → comb rows b ⊕ get_or rows t 0 ≡ comb rows (2 ^ t + b)
  comb-next t b h =
      let apart : 2 ^ t ⊕ b ≡ 2 ^ t + b = ⊕_top t b h in
      ap (λ (x : ℕ). comb rows b ⊕ x) (sym (comb-power rows t))
      ∙ ⊕_comm (comb rows b) (comb rows (2 ^ t))
      ∙ sym (comb-⊕ rows (2 ^ t) b)
      ∙ ap (comb rows) apart

  tabled-at : (t b : ℕ) → get_or sums at 0 ≡ 0 → at + 2 ^ t ≤ length sums → b < 2 ^ t → get_or (tabled t at rows sums) (at + b) 0 ≡ comb rows b
  unfolding tabled
  tabled-at zero b z l h = rw (lt-one h, comb-zero rows) (ap (λ (k : ℕ). get_or sums k 0) (add-zero at) ∙ z)
  tabled-at (suc t) b z l h =
      let w : at + 2 ^ t * 2 ≤ length sums = rw pow-suc at l in
      let g : b < 2 ^ t * 2 = rw pow-suc at h in
      let s = tabled t at rows sums in
      ⊎_elim
      (λ (q : b < 2 ^ t). doubled-below at (2 ^ t) (get_or rows t 0) s (2 ^ t) (at + b) (omega arith) ∙ tabled-at t b z (omega arith) q)
      (λ (q : 2 ^ t ≤ b).
      let low : b - 2 ^ t < 2 ^ t = omega arith in
      let place : at + b ≡ at + 2 ^ t + (b - 2 ^ t) = omega arith in
      let back : 2 ^ t + (b - 2 ^ t) ≡ b = omega arith in
      ap (λ (k : ℕ). get_or (doubled (2 ^ t) at (2 ^ t) (get_or rows t 0) s) k 0) place
      ∙ doubled-at at (2 ^ t) (get_or rows t 0) s (2 ^ t) (b - 2 ^ t) (omega arith) (rw (tabled-length t) (omega arith)) low
      ∙ ap (λ (x : ℕ). x ⊕ get_or rows t 0) (tabled-at t (b - 2 ^ t) z (omega arith) low)
      ∙ comb-next t (b - 2 ^ t) low
      ∙ ap (comb rows) back)
      (order b (2 ^ t))

  -- a turn of the loop over the rows
  pub tabled_turn : (t : ℕ) (out next : List ℕ) (count row : ℕ) → count ≡ 2 ^ t → row ≡ get_or rows t 0 → out ≡ tabled t at rows sums → next ≡ doubled count at count row out
      → next ≡ tabled (t + 1) at rows sums
  unfolding tabled
  tabled_turn t out next count row c r e d = d ∙ rw (add-one, c, r, e)

-- ---- the tables

module _ (rows sums : List ℕ) where
  pub tables-length : (m : ℕ) → length (tables m rows sums) ≡ length sums
  unfolding tables
  tables-length zero = refl
  tables-length (suc m) =
      tabled-length (256 * m) (drop (8 * m) rows) (set (tables m rows sums) (256 * m) 0) 8
      ∙ length-set (tables m rows sums) (256 * m) 0
      ∙ tables-length m

  tables-at : (m j b : ℕ) → 256 * m ≤ length sums → j < m → b < 256 → get_or (tables m rows sums) (256 * j + b) 0 ≡ comb (drop (8 * j) rows) b
  unfolding tables
  tables-at zero j b l h g = absurd (not-suc-le-zero h)
  tables-at (suc m) j b l h g =
      let start = set (tables m rows sums) (256 * m) 0 in
      let size : length start ≡ length sums = length-set (tables m rows sums) (256 * m) 0 ∙ tables-length m in
      ⊎_elim
      (λ (q : j < m).
      tabled-below (256 * m) (drop (8 * m) rows) start 8 (256 * j + b) (omega arith)
      ∙ get_or-set_other (tables m rows sums) (256 * m) (256 * j + b) 0 0 (λ e. omega arith)
      ∙ tables-at m j b (omega arith) q g)
      (λ (q : m ≤ j).
      let e : j ≡ m = omega arith in
      let empty : get_or start (256 * m) 0 ≡ 0 = get_or-set_same (tables m rows sums) (256 * m) 0 0 (rw (tables-length m) (omega arith)) in
      rw e (tabled-at (256 * m) (drop (8 * m) rows) start 8 b empty (omega arith) g))
      (order j m)

  -- a turn of the loop over the tables
  pub tables_turn : (m : ℕ) (out next : List ℕ) → out ≡ tables m rows sums → next ≡ tabled 8 (256 * m) (drop (8 * m) rows) (set out (256 * m) 0)
      → next ≡ tables (m + 1) rows sums
  unfolding tables
  tables_turn m out next e d = d ∙ rw (add-one, e)

  -- whatever stood there before, the tables are the sums that bytes pick
  pub tables-sums : (m : ℕ) → length sums ≡ 256 * m → tables m rows sums ≡ byte_sums m rows
  tables-sums m l =
      ext_get_or 0 (tables m rows sums) (byte_sums m rows)
      (tables-length m ∙ l ∙ sym (byte_sums-length m rows))
      (λ k h.
      let j : ℕ = k / 256 in
      let b : ℕ = k % 256 in
      let whole : 256 * j + b ≡ k = omega arith in
      let inside : j < m = omega (arith, tables-length m) in
      let small : b < 256 = omega arith in
      ap (λ (i : ℕ). get_or (tables m rows sums) i 0) (sym whole)
      ∙ tables-at m j b (omega arith) inside small
      ∙ sym (byte_sums-at m rows j b inside small)
      ∙ ap (λ (i : ℕ). get_or (byte_sums m rows) i 0) whole)

  -- ---- where only the first rows are not zero

  tables-above : (m k : ℕ) → 256 * m ≤ k → get_or (tables m rows sums) k 0 ≡ get_or sums k 0
  unfolding tables
  tables-above zero k h = refl
  tables-above (suc m) k h =
      tabled-above (256 * m) (drop (8 * m) rows) (set (tables m rows sums) (256 * m) 0) 8 k (omega arith)
      ∙ get_or-set_other (tables m rows sums) (256 * m) k 0 0 (λ e. omega arith)
      ∙ tables-above m k (omega arith)

  -- m of k tables are enough, if the rows past them are zero and so are the entries past them
  pub tables-enough : (m k : ℕ) → m ≤ k → length sums ≡ 256 * k → ((i : ℕ) → get_or sums i 0 ≡ 0) → ((i : ℕ) → 8 * m ≤ i → get_or rows i 0 ≡ 0)
      → tables m rows sums ≡ byte_sums k rows
  tables-enough m k few l none rest =
      ext_get_or 0 (tables m rows sums) (byte_sums k rows)
      (tables-length m ∙ l ∙ sym (byte_sums-length k rows))
      (λ i h.
      let j : ℕ = i / 256 in
      let b : ℕ = i % 256 in
      let whole : 256 * j + b ≡ i = omega arith in
      let inside : j < k = omega (arith, tables-length m) in
      let small : b < 256 = omega arith in
      rw (sym whole)
      (⊎_elim
      (λ (q : j < m). tables-at m j b (omega arith) q small ∙ sym (byte_sums-at k rows j b inside small))
      (λ (q : m ≤ j).
      tables-above m (256 * j + b) (omega arith)
      ∙ none (256 * j + b)
      ∙ sym (byte_sums-at k rows j b inside small ∙ comb-same (drop (8 * j) rows) [] (λ t. get_or-drop (8 * j) rows t 0 ∙ rest (8 * j + t) (omega arith)) b ∙ comb-nil b))
      (order j m)))
