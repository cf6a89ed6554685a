-- The columns of a sheet that was written: each holds the number that was put there.
-- Assumes nothing.
use Rattle.std.specs.Prelude.{◌≡◌, List, [], ◌∷◌, ◌++◌, ℕ, zero, suc, ◌+◌, ◌*◌, ◌^◌, ◌≤◌, ◌<◌, length, get_or, take, drop}
use Rattle.std.proofs.Math.Path.{refl}
use Rattle.std.proofs.Common.{sym, ap, ◌∙◌, ⊎_elim, append-nil, zero-add, arith, take_at, drop_at, take-take, drop-drop}
use Rattle.gf2.specs.Numbers.{order}
use Rattle.sheet.specs.Record.{record_size, degree_at, row_at, tail_at, conjugate_at, inverse_at, table_at, byte_size, tail_size, word_size, bytes_of, number_in, record_bytes, records_to, record_at, column_in}
use Rattle.sheet.specs.Bytes.{number_in-bytes_of}
use Rattle.sheet.specs.Writing.{record_bytes-length, records_to-length}
use Rattle.sheet.specs.Reading.{record_at-front}

-- ---- a record of a written sheet

record_at-last : (xs rest : List ℕ) (k : ℕ) → length xs ≡ record_size * k → length rest ≡ record_size → record_at (xs ++ rest) k ≡ rest
unfolding record_at
record_at-last xs rest k ex er =
    rw (drop_at xs rest (record_size * k) ex)
    (ap (take record_size) (sym (append-nil rest)) ∙ take_at rest [] record_size er)

pub record_at_written : (m k n tail : ℕ) (C I T : List ℕ) → k < m → record_at (records_to m n tail C I T) k ≡ record_bytes n k tail (get_or C k 0) (get_or I k 0) (get_or T k 0)
unfolding records_to
record_at_written zero k n tail C I T h = absurd (omega arith)
record_at_written (suc m) k n tail C I T h =
    let xs : List ℕ = records_to m n tail C I T in
    let last : List ℕ = record_bytes n m tail (get_or C m 0) (get_or I m 0) (get_or T m 0) in
    let size : length xs ≡ record_size * m = records_to-length m n tail C I T in
    ⊎_elim
    (λ (u : k < m). record_at-front xs k last (omega arith) ∙ record_at_written m k n tail C I T u)
    (λ (u : m ≤ k).
    let e : k ≡ m = omega arith in
    rw e (record_at-last xs last m size (record_bytes-length n m tail (get_or C m 0) (get_or I m 0) (get_or T m 0))))
    (order k m)

-- ---- a column of a record

take-drop-take : (l : List ℕ) (at size : ℕ) → at + size ≤ record_size → take size (drop at (take record_size l)) ≡ take size (drop at l)
take-drop-take l at size h = go at record_size l h
  where
    go : (at m : ℕ) (l : List ℕ) → at + size ≤ m → take size (drop at (take m l)) ≡ take size (drop at l)
    go zero m l h = take-take size m l (rw zero-add at h)
    go (suc at) zero l h = absurd (omega arith)
    go (suc at) (suc m) [] h = refl
    go (suc at) (suc m) (x ∷ l) h = go at m l (omega arith)

pub column_record : (sheet : List ℕ) (i at size : ℕ) → at + size ≤ record_size → column_in sheet i at size ≡ number_in (take size (drop at (record_at sheet i)))
unfolding column_in record_at
column_record sheet i at size h =
    ap (λ (l : List ℕ). number_in (take size l)) (sym (drop-drop at (record_size * i) sheet))
    ∙ sym (ap number_in (take-drop-take (drop (record_size * i) sheet) at size h))

module _ (n i tail c v t : ℕ) where
  -- the record with each column in turn in the middle
  record_columns : (take byte_size (drop degree_at (record_bytes n i tail c v t)) ≡ bytes_of byte_size n)
      × (take byte_size (drop row_at (record_bytes n i tail c v t)) ≡ bytes_of byte_size i)
      × (take tail_size (drop tail_at (record_bytes n i tail c v t)) ≡ bytes_of tail_size tail)
      × (take word_size (drop conjugate_at (record_bytes n i tail c v t)) ≡ bytes_of word_size c)
      × (take word_size (drop inverse_at (record_bytes n i tail c v t)) ≡ bytes_of word_size v)
      × (take word_size (drop table_at (record_bytes n i tail c v t)) ≡ bytes_of word_size t)
  unfolding record_bytes bytes_of
  record_columns = (refl, refl, refl, refl, refl, refl)

-- ---- the columns of a written sheet

module _ (m k n tail : ℕ) (C I T : List ℕ) (h : k < m) where
  abbrev whole : List ℕ
  whole = records_to m n tail C I T

  at_record : (at size v : ℕ) → at + size ≤ record_size → v < 256 ^ size
      → take size (drop at (record_bytes n k tail (get_or C k 0) (get_or I k 0) (get_or T k 0))) ≡ bytes_of size v → column_in whole k at size ≡ v
  at_record at size v fits small e =
      column_record whole k at size fits
      ∙ ap (λ (l : List ℕ). number_in (take size (drop at l))) (record_at_written m k n tail C I T h)
      ∙ ap number_in e ∙ number_in-bytes_of size v small

  pub degree_written : n < 256 ^ byte_size → column_in whole k degree_at byte_size ≡ n
  degree_written b = at_record degree_at byte_size n (omega arith) b (record_columns n k tail (get_or C k 0) (get_or I k 0) (get_or T k 0)).0

  pub row_written : k < 256 ^ byte_size → column_in whole k row_at byte_size ≡ k
  row_written b = at_record row_at byte_size k (omega arith) b (record_columns n k tail (get_or C k 0) (get_or I k 0) (get_or T k 0)).1

  pub tail_written : tail < 256 ^ tail_size → column_in whole k tail_at tail_size ≡ tail
  tail_written b = at_record tail_at tail_size tail (omega arith) b (record_columns n k tail (get_or C k 0) (get_or I k 0) (get_or T k 0)).2

  pub conjugate_written : get_or C k 0 < 256 ^ word_size → column_in whole k conjugate_at word_size ≡ get_or C k 0
  conjugate_written b = at_record conjugate_at word_size (get_or C k 0) (omega arith) b (record_columns n k tail (get_or C k 0) (get_or I k 0) (get_or T k 0)).3

  pub inverse_written : get_or I k 0 < 256 ^ word_size → column_in whole k inverse_at word_size ≡ get_or I k 0
  inverse_written b = at_record inverse_at word_size (get_or I k 0) (omega arith) b (record_columns n k tail (get_or C k 0) (get_or I k 0) (get_or T k 0)).4

  pub table_written : get_or T k 0 < 256 ^ word_size → column_in whole k table_at word_size ≡ get_or T k 0
  table_written b = at_record table_at word_size (get_or T k 0) (omega arith) b (record_columns n k tail (get_or C k 0) (get_or I k 0) (get_or T k 0)).5
