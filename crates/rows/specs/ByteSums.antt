-- The sums of rows that bytes pick, laid down in tables: a number of m bytes then picks its sum by m lookups.
--
--   bytes                     the number of bytes that a number below 2 ^ limit has; `word_bytes`: that any word has
--   sums_from rows v count     the sums that the numbers v, v + 1, .. pick, count of them
--   byte_sums m rows           m tables of 256 sums each: what a byte picks of the rows, of the rows from 8 on, of those from 16 on, ..
--   picked_bytes m sums v      the sum of one entry of each of m tables: that at the table's byte of v
--
-- In order: the entry of a table, and the number of entries (`byte_sums-at`, `byte_sums-length`); the law (`bytes_pick`): by m bytes a number
-- below 2 ^ (8 * m) picks what its bits pick; turns of the loop that picks.
-- How the tables are filled stands in `Doubling`.
-- Assumes nothing.
use Rattle.std.specs.Prelude.{◌≡◌, refl, List, [], ◌++◌, ◌∷◌, ℕ, zero, suc, ◌+◌, ◌-◌, ◌*◌, ◌/◌, ◌%◌, ◌^◌, ◌≤◌, ◌<◌, length, drop}
use Rattle.std.proofs.Common.{sym, ap₂, ◌∙◌, not-suc-le-zero, zero-add, arith, pow-add, length-append, get_or-drop, drop-drop}
use Rattle.std.proofs.Math.Path.{ap}
use Rattle.std.proofs.Math.Arith.{lt-one}
use Rattle.std.proofs.Math.ListN.{get_or, get_or-append}
use Rattle.std.proofs.Math.Seq.{get_or-append-add, drop_at}
use Rattle.gf2.specs.Poly.{◌⊕◌}
use Rattle.gf2.specs.Limit.{limit}
use Rattle.gf2.specs.Sum.{⊕_assoc, ⊕_comm, ⊕-zero}
use Rattle.rows.specs.Rows.{comb}
use Rattle.rows.specs.Linear.{high-apart}
use Rattle.rows.specs.Sums.{comb-⊕, comb-zero, comb-drop}

abbrev pub bytes : ℕ
bytes = (limit + 7) / 8

abbrev pub word_bytes : ℕ
word_bytes = 8

unfoldable pub sums_from : (rows : List ℕ) (v count : ℕ) → List ℕ
sums_from rows v zero = []
sums_from rows v (suc count) = comb rows v ∷ sums_from rows (v + 1) count

unfoldable pub byte_sums : (m : ℕ) (rows : List ℕ) → List ℕ
byte_sums zero rows = []
byte_sums (suc m) rows = sums_from rows 0 256 ++ byte_sums m (drop 8 rows)

unfoldable pub picked_bytes : (m : ℕ) (sums : List ℕ) (v : ℕ) → ℕ
picked_bytes zero sums v = 0
picked_bytes (suc m) sums v = get_or sums (v % 256) 0 ⊕ picked_bytes m (drop 256 sums) (v / 256)

-- ---- the entries

sums_from-length : (rows : List ℕ) (v count : ℕ) → length (sums_from rows v count) ≡ count
unfolding sums_from
sums_from-length rows v zero = refl
sums_from-length rows v (suc count) = ap suc (sums_from-length rows (v + 1) count)

sums_from-at : (rows : List ℕ) (v count i : ℕ) → i < count → get_or (sums_from rows v count) i 0 ≡ comb rows (v + i)
unfolding sums_from
sums_from-at rows v zero i h = absurd (not-suc-le-zero h)
sums_from-at rows v (suc count) zero h = ap (comb rows) (omega arith)
sums_from-at rows v (suc count) (suc i) h = sums_from-at rows (v + 1) count i (omega arith) ∙ ap (comb rows) (omega arith)

-- the first table, and those behind it
module _ (m : ℕ) (rows : List ℕ) where
  first-at : (b : ℕ) → b < 256 → get_or (byte_sums (suc m) rows) b 0 ≡ comb rows b
  unfolding byte_sums
  first-at b h =
      get_or-append (sums_from rows 0 256) (byte_sums m (drop 8 rows)) 0 b (rw (sums_from-length rows 0 256) h)
      ∙ sums_from-at rows 0 256 b h
      ∙ ap (comb rows) (zero-add b)

  rest_at : (k : ℕ) → get_or (byte_sums (suc m) rows) (256 + k) 0 ≡ get_or (byte_sums m (drop 8 rows)) k 0
  unfolding byte_sums
  rest_at k =
      ap (λ (n : ℕ). get_or (byte_sums (suc m) rows) (n + k) 0) (sym (sums_from-length rows 0 256))
      ∙ get_or-append-add (sums_from rows 0 256) (byte_sums m (drop 8 rows)) k 0

  rest-drop : drop 256 (byte_sums (suc m) rows) ≡ byte_sums m (drop 8 rows)
  unfolding byte_sums
  rest-drop = drop_at (sums_from rows 0 256) (byte_sums m (drop 8 rows)) 256 (sums_from-length rows 0 256)

pub byte_sums-length : (m : ℕ) (rows : List ℕ) → length (byte_sums m rows) ≡ 256 * m
unfolding byte_sums
byte_sums-length zero rows = refl
byte_sums-length (suc m) rows =
    length-append (sums_from rows 0 256) (byte_sums m (drop 8 rows)) ∙ rw (sums_from-length rows 0 256, byte_sums-length m (drop 8 rows)) (omega arith)

-- entry 256 * j + b is the sum of the rows that the byte b picks of the rows from 8 * j on, and so among eight of them
pub byte_sums-at : (m : ℕ) (rows : List ℕ) (j b : ℕ) → j < m → b < 256 → get_or (byte_sums m rows) (256 * j + b) 0 ≡ comb (drop (8 * j) rows) b
byte_sums-at zero rows j b h l = absurd (not-suc-le-zero h)
byte_sums-at (suc m) rows zero b h l = ap (λ (k : ℕ). get_or (byte_sums (suc m) rows) k 0) (zero-add b) ∙ first-at m rows b l
byte_sums-at (suc m) rows (suc j) b h l =
    let e : 256 * suc j + b ≡ 256 + (256 * j + b) = omega arith in
    let d : 8 + 8 * j ≡ 8 * suc j = omega arith in
    ap (λ (k : ℕ). get_or (byte_sums (suc m) rows) k 0) e
    ∙ rest_at m rows (256 * j + b)
    ∙ byte_sums-at m (drop 8 rows) j b (omega arith) l
    ∙ ap (λ (r : List ℕ). comb r b) (drop-drop (8 * j) 8 rows ∙ ap (λ (k : ℕ). drop k rows) d)

-- ---- what bytes pick is what bits pick

-- the low byte picks of the rows, the bytes above it of the rows from 8 on
comb-bytes : (rows : List ℕ) (v : ℕ) → comb rows (v % 256) ⊕ comb (drop 8 rows) (v / 256) ≡ comb rows v
comb-bytes rows v =
    ⊕_comm (comb rows (v % 256)) (comb (drop 8 rows) (v / 256))
    ∙ ap (λ (x : ℕ). x ⊕ comb rows (v % 256)) (sym (comb-drop 8 rows (v / 256)))
    ∙ sym (comb-⊕ rows (v / 256 * 256) (v % 256))
    ∙ ap (comb rows) (high-apart 8 v)

pub bytes_pick : (m : ℕ) (rows : List ℕ) (v : ℕ) → v < 2 ^ (8 * m) → picked_bytes m (byte_sums m rows) v ≡ comb rows v
unfolding picked_bytes
bytes_pick zero rows v h = rw (lt-one h) (sym (comb-zero rows))
bytes_pick (suc m) rows v h =
    let e : 8 * suc m ≡ 8 + 8 * m = omega arith in
    let l : v < 256 * 2 ^ (8 * m) = rw (e, pow-add 2 8 (8 * m)) at h in
    ap₂ ◌⊕◌
    (first-at m rows (v % 256) (omega arith))
    (ap (λ (s : List ℕ). picked_bytes m s (v / 256)) (rest-drop m rows) ∙ bytes_pick m (drop 8 rows) (v / 256) (omega arith))
    ∙ comb-bytes rows v

-- ---- the loop that picks: what is summed, and what the bytes that are left pick of the tables that are left

pub bytes_turn : (m j : ℕ) (sums : List ℕ) (sum left whole : ℕ) → j < m → sum ⊕ picked_bytes (m - j) (drop (256 * j) sums) left ≡ whole
    → (sum ⊕ get_or sums (256 * j + left % 256) 0) ⊕ picked_bytes (m - (j + 1)) (drop (256 * (j + 1)) sums) (left / 256) ≡ whole
unfolding picked_bytes
bytes_turn m j sums sum left whole h e =
    let one : m - j ≡ suc (m - (j + 1)) = omega arith in
    let next : 256 * j + 256 ≡ 256 * (j + 1) = omega arith in
    let step : picked_bytes (m - j) (drop (256 * j) sums) left ≡ get_or sums (256 * j + left % 256) 0 ⊕ picked_bytes (m - (j + 1)) (drop (256 * (j + 1)) sums) (left / 256) =
    rw (one, get_or-drop (256 * j) sums (left % 256) 0, drop-drop 256 (256 * j) sums, next) in
    ⊕_assoc sum (get_or sums (256 * j + left % 256) 0) (picked_bytes (m - (j + 1)) (drop (256 * (j + 1)) sums) (left / 256))
    ∙ ap (λ (x : ℕ). sum ⊕ x) (sym step)
    ∙ e

pub bytes-end : (m j : ℕ) (sums : List ℕ) (sum left whole : ℕ) → m ≤ j → sum ⊕ picked_bytes (m - j) (drop (256 * j) sums) left ≡ whole → sum ≡ whole
unfolding picked_bytes
bytes-end m j sums sum left whole h e =
    let none : m - j ≡ 0 = omega arith in
    let last : picked_bytes (m - j) (drop (256 * j) sums) left ≡ 0 = rw none in
    sym (ap (λ (x : ℕ). sum ⊕ x) last ∙ ⊕-zero sum) ∙ e
