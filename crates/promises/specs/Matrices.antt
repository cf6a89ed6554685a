-- The full set of matrices (document 02, §4), sentence by sentence, through the answers of the public calls and of every run of them. A
-- sheet that reading accepts is one that build wrote (`read_exactly` in `Demand2`). That the calls give these answers: `Demand1`; what they
-- refuse, in which order: `Refused`.
--
--   figure_is_n-times        "Document 000 counts all n matrices T_k, so its figure is n times ours" (document 01, "What a sheet holds")
--   entry-from-table         entry (i,j) of T_k is t((j-i) mod n, (k-i) mod n)
--   line_of_matrix           where in the text line i of T_k stands
--   text_written             what writing leaves: the text, and the bytes past it unchanged
--   ones_written             "the ones written number n times our complexity"
--   accepts_exactly, -whole  "reading accepts exactly what writing gives for them": on the sheet that build writes
--   as_build, refused_as_build, written_as_build   "answering as build does"
--   placed_exactly           "14, text does not match, place the first wrong, missing or extra line counted from 0"
--   shared_beginning         that place counts the bytes 10 of the longest beginning that the two texts share
--   .._runs                  of the calls themselves, for every run of them: what writing leaves, its ones, that it is read back, what
--                            reading accepts, and where it places 14
--
-- Assumes nothing.
use Rattle.std.specs.Prelude.{◌≡◌, refl, ◌↔◌, List, ◌++◌, ℕ, ◌+◌, ◌-◌, ◌*◌, ◌%◌, ◌≤◌, ◌<◌, length, take, drop}
use Rattle.std.proofs.Common.{sym, ap, ◌∙◌}
use Rattle.gf2.specs.Poly.{degree}
use Rattle.refusals.specs.Answers.{refusal_at}
use Rattle.refusals.specs.declared.answer.Refusal.{Refusal}
use Rattle.normal.specs.Normal.{table_rows, complexity}
use Rattle.normal.specs.TableProduct.{entry}
use Rattle.sheet.specs.Record.{record_size, record_count, conjugate_in, polynomial_in, table_rows_in}
use Rattle.sheet.specs.Answers.{build_answer, built_buffer, read_answer}
use Rattle.sheet.proofs.Held.{table-rows}
use Rattle.sheet.specs.Sheets.{Based}
use Rattle.sheet.specs.declared.answer.Summary.{Summary}
use Rattle.matrices.specs.Matrices.{matrix_entry, line_end, line_bytes, matrices_text, matrix_size, text_size}
use Rattle.matrices.specs.Orders.{count_of, common}
use Rattle.matrices.specs.Answers.{text_in, write_text_answer, written_text, read_text_answer}
use Rattle.matrices.proofs.Blocks.{text_line}
use Rattle.matrices.specs.CommonLines.{common-left, common-right, common_longest}
use Rattle.matrices.specs.Counting.{one_byte}
use Rattle.matrices.specs.Entries.{entry-table}
use Rattle.matrices.specs.Exact.{text_given, GivenFor, built_sheet}
use Rattle.matrices.proofs.Exact.{written_front, given-degree, given-ones, reading_accepts, write_built, reading_built, reading_whole}
use Rattle.matrices.specs.Figure as figure
use Rattle.matrices.specs.Figure.{matrix_ones_lem}
use Rattle.matrices.specs.Judging.{text_done_as_build, text_refused_as_build}
use Rattle.matrices.proofs.Places.{text_differs_exactly}
use Rattle.promises.specs.Calls.{Run, build, write_matrices, read-matrices}
use Rattle.promises.specs.Demand1.{build_is, write_matrices_is, read-matrices_is}
use Rattle.promises.specs.Demand2.{accepted-sheet}
use Rattle.std.specs.Prelude.{Ok, Err}
use Rattle.refusals.specs.declared.fault.Fault.TheVariants as faults

-- ---- the matrices

pub figure_is_n-times : (f n a : ℕ) → Based f n a → matrix_ones_lem f n a ≡ n * complexity (table_rows f n a)
figure_is_n-times f n a b = figure.figure_is_n-times f n a b

module _ (sheet : List ℕ) (t : Summary) (r : read_answer sheet ≡ Ok t) where
  abbrev f : ℕ
  f = polynomial_in sheet

  abbrev n : ℕ
  n = record_count sheet

  abbrev a : ℕ
  a = conjugate_in sheet 0

  -- by the table of the sheet: what the code takes an entry from
  pub entry-from-table : (k i j : ℕ) → k < record_count sheet → i < record_count sheet → j < record_count sheet
      → matrix_entry (polynomial_in sheet) (record_count sheet) (conjugate_in sheet 0) k i j
      ≡ entry (table_rows_in sheet) ((j + (record_count sheet - i)) % record_count sheet) ((k + (record_count sheet - i)) % record_count sheet)
  entry-from-table k i j hk hi hj =
      let s = accepted-sheet sheet t r in
      entry-table f n a s.based k i j hk hi hj
      ∙ ap (λ (rows : List ℕ). entry rows ((j + (n - i)) % n) ((k + (n - i)) % n)) (sym (table-rows f n a sheet s))

  -- "each row a line of n digits, .., matrices in order of k, an empty line after each"
  pub line_of_matrix : (k i : ℕ) → k < record_count sheet → i < record_count sheet
      → take (record_count sheet + 1) (drop (k * matrix_size (record_count sheet) + i * (record_count sheet + 1)) (text_in sheet))
      ≡ line_bytes (record_count sheet) (matrix_entry (polynomial_in sheet) (record_count sheet) (conjugate_in sheet 0) k i)
  unfolding matrices_text
  line_of_matrix k i hk hi = text_line n (matrix_entry f n a) k i hk hi

-- ---- writing

module _ (sheet buffer : List ℕ) (t : Summary) (e : write_text_answer sheet (length buffer) ≡ Ok t) where
  -- the text at the front, and the bytes past it unchanged
  pub text_written : written_text sheet buffer ≡ text_in sheet ++ drop (text_size (record_count sheet)) buffer
  text_written = written_front sheet buffer t e

  -- "the ones written number n times our complexity": n and the complexity that the call answers
  pub ones_written : count_of one_byte (text_given sheet buffer) ≡ t.degree * t.complexity
  ones_written = given-ones sheet buffer t e ∙ ap (λ (n : ℕ). n * t.complexity) (sym (given-degree sheet buffer t e))

-- ---- reading

-- "reading accepts exactly what writing gives for them", and answers as build did
module _ (f a : ℕ) (buffer : List ℕ) (t : Summary) (built : build_answer f a (length buffer) ≡ Ok t) (lent : List ℕ) (fits : text_size (degree f) ≤ length lent) where
  pub written_as_build : write_text_answer (built_sheet f a buffer) (length lent) ≡ Ok t
  written_as_build = write_built f a buffer t built lent fits

  pub accepts_exactly : (text : List ℕ) → (read_text_answer f a text ≡ Ok t) ↔ (text ≡ text_given (built_sheet f a buffer) lent)
  accepts_exactly = reading_built f a buffer t built lent fits

-- the same over buffers that the sheet and the text fill
pub accepts_whole : (f a : ℕ) (buffer : List ℕ) (t : Summary) → build_answer f a (length buffer) ≡ Ok t → length buffer ≡ record_size * degree f
    → (lent : List ℕ) → length lent ≡ text_size (degree f) → (text : List ℕ) → (read_text_answer f a text ≡ Ok t) ↔ (text ≡ written_text (built_buffer f a buffer) lent)
accepts_whole f a buffer t built filled lent fits text = reading_whole f a buffer t built filled lent fits text

-- "answering as build does", to which a buffer of 32n bytes is lent
module _ (f a room : ℕ) (fits : record_size * degree f ≤ room) (text : List ℕ) where
  pub as_build : (t : Summary) → read_text_answer f a text ≡ Ok t → build_answer f a room ≡ Ok t
  as_build = text_done_as_build f a room fits text

  pub refused_as_build : (r : Refusal) → build_answer f a room ≡ Err r → read_text_answer f a text ≡ Err r
  refused_as_build = text_refused_as_build f a room fits text

-- 14 exactly for a text that differs where nothing before it applies, and its place
pub placed_exactly : (f a : ℕ) (text : List ℕ) (p : ℕ)
    → (read_text_answer f a text ≡ Err (refusal_at faults.OtherText p))
    ↔ (Based f (degree f) a × (text ≡ matrices_text f (degree f) a → ⊥) × (p ≡ count_of line_end (common text (matrices_text f (degree f) a))))
placed_exactly = text_differs_exactly

-- both lists begin with it, and no longer beginning is shared
pub shared_beginning : (x y : List ℕ)
    → (x ≡ common x y ++ drop (length (common x y)) x) × (y ≡ common x y ++ drop (length (common x y)) y)
    × ((front u v : List ℕ) → x ≡ front ++ u → y ≡ front ++ v → length front ≤ length (common x y))
shared_beginning x y = (common-left x y, common-right x y, λ front u v ex ey. rw (ex, ey) (common_longest front u v))

-- ---- of the calls themselves

module _ (c : Run write_matrices) (t : Summary) (e : c.result ≡ Ok t) where
  pub writes_runs : c.exit.1.0.now ≡ text_in c.args.0.now ++ drop (text_size (record_count c.args.0.now)) c.args.1.0.now
  writes_runs = (write_matrices_is c).1 ∙ text_written c.args.0.now c.args.1.0.now t (sym (write_matrices_is c).0 ∙ e)

  pub ones_runs : count_of one_byte (take (text_size (record_count c.args.0.now)) c.exit.1.0.now) ≡ t.degree * t.complexity
  ones_runs = rw (write_matrices_is c).1 (ones_written c.args.0.now c.args.1.0.now t (sym (write_matrices_is c).0 ∙ e))

  -- what writing left is accepted, for the polynomial and the element that the sheet names, with the same answer
  pub read-back_runs : (d : Run read-matrices) → d.args.0 ≡ polynomial_in c.args.0.now → d.args.1.0 ≡ conjugate_in c.args.0.now 0
      → d.args.1.1.0.now ≡ take (text_size (record_count c.args.0.now)) c.exit.1.0.now → d.result ≡ Ok t
  read-back_runs d ef ea et =
      let sheet : List ℕ = c.args.0.now in
      let buffer : List ℕ = c.args.1.0.now in
      let g : GivenFor (polynomial_in sheet) (conjugate_in sheet 0) d.args.1.1.0.now t =
      record { sheet = sheet; buffer = buffer; polynomial = refl; element = refl; answer = sym (write_matrices_is c).0 ∙ e; front = et ∙ ap (take (text_size (record_count sheet))) (write_matrices_is c).1 } in
      read-matrices_is d ∙ rw (ef, ea) ((reading_accepts (polynomial_in sheet) (conjugate_in sheet 0) d.args.1.1.0.now t).1 g)

-- `accepts_exactly` of runs: build is done, writing has its sheet and room, and reading has f and the element of build
pub accepts_exactly_runs : (b : Run build) (w : Run write_matrices) (d : Run read-matrices) (t : Summary) → b.result ≡ Ok t
    → w.args.0.now ≡ take (record_size * degree b.args.0) b.exit.1.1.0.now → text_size (degree b.args.0) ≤ length w.args.1.0.now
    → d.args.0 ≡ b.args.0 → d.args.1.0 ≡ b.args.1.0
    → (d.result ≡ Ok t) ↔ (d.args.1.1.0.now ≡ take (text_size (record_count w.args.0.now)) w.exit.1.0.now)
accepts_exactly_runs b w d t e es fits ef ea =
    let f : ℕ = b.args.0 in
    let a : ℕ = b.args.1.0 in
    let buffer : List ℕ = b.args.1.1.0.now in
    let lent : List ℕ = w.args.1.0.now in
    let sheet : w.args.0.now ≡ built_sheet f a buffer = es ∙ ap (take (record_size * degree f)) (build_is b).1 in
    let left : take (text_size (record_count w.args.0.now)) w.exit.1.0.now ≡ text_given (built_sheet f a buffer) lent =
    ap (take (text_size (record_count w.args.0.now))) (write_matrices_is w).1 ∙ ap (λ (l : List ℕ). text_given l lent) sheet in
    rw (read-matrices_is d, ef, ea, left) (accepts_exactly f a buffer t (sym (build_is b).0 ∙ e) lent fits d.args.1.1.0.now)

-- a run of reading is done exactly if writing gave the text, from some sheet of f and the element
pub accepts_runs : (c : Run read-matrices) (t : Summary) → (c.result ≡ Ok t) ↔ GivenFor c.args.0 c.args.1.0 c.args.1.1.0.now t
accepts_runs c t = rw (read-matrices_is c) (reading_accepts c.args.0 c.args.1.0 c.args.1.1.0.now t)

pub placed_runs : (c : Run read-matrices) (p : ℕ)
    → (c.result ≡ Err (refusal_at faults.OtherText p))
    ↔ (Based c.args.0 (degree c.args.0) c.args.1.0 × (c.args.1.1.0.now ≡ matrices_text c.args.0 (degree c.args.0) c.args.1.0 → ⊥)
    × (p ≡ count_of line_end (common c.args.1.1.0.now (matrices_text c.args.0 (degree c.args.0) c.args.1.0))))
placed_runs c p = rw (read-matrices_is c) (placed_exactly c.args.0 c.args.1.0 c.args.1.1.0.now p)
