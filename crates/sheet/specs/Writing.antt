-- Writing a sheet: column after column a record, record after record the sheet.
-- Assumes nothing.
use Rattle.std.specs.Prelude.{◌≡◌, refl, List, ◌++◌, ℕ, zero, suc, ◌+◌, ◌*◌, ◌≤◌, length, get_or}
use Rattle.std.proofs.Common.{◌∙◌, add-zero, add-one, arith, length-append}
use Rattle.sheet.specs.Record.{record_size, degree_at, row_at, tail_at, conjugate_at, inverse_at, table_at, byte_size, tail_size, word_size, bytes_of, record_bytes, records_to}
use Rattle.sheet.specs.Bytes.{pasted, pasted-none, pasted-next, bytes_of-length}

-- ---- a column after what is written

module _ (start : List ℕ) (at : ℕ) where
  column_next : (done : List ℕ) (k size v : ℕ) (b c : List ℕ) → length done ≡ k → at + k ≤ length start
      → b ≡ pasted start at done → c ≡ pasted b (at + k) (bytes_of size v)
      → (c ≡ pasted start at (done ++ bytes_of size v)) × (length (done ++ bytes_of size v) ≡ k + size)
  column_next done k size v b c e fits eb ec = (
    ec ∙ rw (eb, ← e) (pasted-next start at done (bytes_of size v) (rw e fits)),
    length-append done (bytes_of size v) ∙ rw (e, bytes_of-length),
  )

-- the six columns of a record, each written after the one before
pub record_put : (b0 b1 b2 b3 b4 b5 b6 : List ℕ) (n i tail conjugate inverse table : ℕ) → record_size * i + record_size ≤ length b0
    → b1 ≡ pasted b0 (record_size * i + degree_at) (bytes_of byte_size n)
    → b2 ≡ pasted b1 (record_size * i + row_at) (bytes_of byte_size i)
    → b3 ≡ pasted b2 (record_size * i + tail_at) (bytes_of tail_size tail)
    → b4 ≡ pasted b3 (record_size * i + conjugate_at) (bytes_of word_size conjugate)
    → b5 ≡ pasted b4 (record_size * i + inverse_at) (bytes_of word_size inverse)
    → b6 ≡ pasted b5 (record_size * i + table_at) (bytes_of word_size table)
    → b6 ≡ pasted b0 (record_size * i) (record_bytes n i tail conjugate inverse table)
unfolding record_bytes
record_put b0 b1 b2 b3 b4 b5 b6 n i tail conjugate inverse table fits e1 e2 e3 e4 e5 e6 =
    let at : ℕ = record_size * i in
    let s1 : b1 ≡ pasted b0 at (bytes_of byte_size n) = rw add-zero at e1 in
    let s2 = column_next b0 at (bytes_of byte_size n) row_at byte_size i b1 b2 (bytes_of-length byte_size n) (omega arith) s1 e2 in
    let s3 = column_next b0 at _ tail_at tail_size tail b2 b3 s2.1 (omega arith) s2.0 e3 in
    let s4 = column_next b0 at _ conjugate_at word_size conjugate b3 b4 s3.1 (omega arith) s3.0 e4 in
    let s5 = column_next b0 at _ inverse_at word_size inverse b4 b5 s4.1 (omega arith) s4.0 e5 in
    (column_next b0 at _ table_at word_size table b5 b6 s5.1 (omega arith) s5.0 e6).0

-- ---- sizes

pub record_bytes-length : (n i tail conjugate inverse table : ℕ) → length (record_bytes n i tail conjugate inverse table) ≡ record_size
unfolding record_bytes
record_bytes-length n i tail conjugate inverse table = simp (length-append, bytes_of-length)

pub records_to-length : (k n tail : ℕ) (C I T : List ℕ) → length (records_to k n tail C I T) ≡ record_size * k
unfolding records_to
records_to-length zero n tail C I T = refl
records_to-length (suc k) n tail C I T =
    let ih : length (records_to k n tail C I T) ≡ record_size * k = records_to-length k n tail C I T in
    length-append (records_to k n tail C I T) (record_bytes n k tail (get_or C k 0) (get_or I k 0) (get_or T k 0))
    ∙ rw (ih, record_bytes-length n k tail (get_or C k 0) (get_or I k 0) (get_or T k 0)) (omega arith)

-- ---- record after record

pub sheet_start : (buffer : List ℕ) (n tail : ℕ) (C I T : List ℕ) → buffer ≡ pasted buffer 0 (records_to 0 n tail C I T)
unfolding records_to
sheet_start buffer n tail C I T = pasted-none buffer 0

pub sheet_turn : (start b c : List ℕ) (k n tail : ℕ) (C I T : List ℕ) → record_size * k + record_size ≤ length start
    → b ≡ pasted start 0 (records_to k n tail C I T)
    → c ≡ pasted b (record_size * k) (record_bytes n k tail (get_or C k 0) (get_or I k 0) (get_or T k 0))
    → c ≡ pasted start 0 (records_to (k + 1) n tail C I T)
unfolding records_to
sheet_turn start b c k n tail C I T fits eb ec =
    let done : List ℕ = records_to k n tail C I T in
    let e : 0 + length done ≡ record_size * k = rw (records_to-length k n tail C I T) (omega arith) in
    ec ∙ rw (eb, ← e, add-one) (pasted-next start 0 done (record_bytes n k tail (get_or C k 0) (get_or I k 0) (get_or T k 0)) (rw e (omega arith)))
