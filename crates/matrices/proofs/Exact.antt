-- The laws of `specs/Exact.antt` that a wrong definition breaks, and what rests on them. The head there tells of both files.
-- Assumes nothing.
use Rattle.std.specs.Prelude.{◌≡◌, ◌↔◌, take}
use Rattle.std.proofs.Math.Path.{refl, sym, ap}
use Rattle.std.proofs.Common.{ap₂, ◌∙◌, arith, drop_of_length-le, take_at}
use mathlib.Core.List.{List, ◌++◌, append-nil}
use Prim.Native.Nat.{ℕ, ◌*◌, ◌≤◌}
use Rattle.std.proofs.Math.ListN.{length, drop}
use Rattle.gf2.specs.Poly.{degree}
use Rattle.refusals.specs.Verdicts.{Verdict, first_of}
use Rattle.refusals.specs.Answers.{left}
use Rattle.sheet.specs.Record.{record_size, record_count, conjugate_in, polynomial_in, sheet_bytes}
use Rattle.sheet.specs.Answers.{summary_of, summary_in, at_front, build_answer, built_buffer}
use Rattle.sheet.specs.Answered.{done-clear}
use Rattle.sheet.proofs.Held.{held-count, held-polynomial, held-element}
use Rattle.sheet.proofs.IssuedLaws.{answered_based, build-buffer, build-sheet, read_answered, answered_sheet}
use Rattle.sheet.specs.Sheets.{Based, SheetOf}
use Rattle.sheet.specs.declared.answer.Summary.{Summary}
use Rattle.matrices.specs.Matrices.{matrix_entry, matrices_text, text_size}
use Rattle.matrices.specs.Orders.{count_of, write_text_order, read_text_order}
use Rattle.matrices.specs.Answers.{text_in, write_text_answer, written_text, read_text_answer}
use Rattle.matrices.proofs.Blocks.{text_length}
use Rattle.matrices.specs.Counting.{one_byte}
use Rattle.matrices.proofs.Counting.{ones_written}
use Rattle.matrices.specs.Judging.{text_right, text_done_exactly}
use Rattle.matrices.proofs.Judging.{write_as_read, write_done_exactly}
use Rattle.matrices.specs.Exact.{GivenFor, built_sheet, text_given}
use Rattle.std.specs.Prelude.{Ok}

-- ---- the lent text

pub matrices-size : (f n a : ℕ) → length (matrices_text f n a) ≡ text_size n
unfolding matrices_text
matrices-size f n a = text_length n (matrix_entry f n a)

module _ (sheet buffer : List ℕ) (t : Summary) (e : write_text_answer sheet (length buffer) ≡ Ok t) where
  whole : length (text_in sheet) ≡ text_size (record_count sheet)
  whole = matrices-size (polynomial_in sheet) (record_count sheet) (conjugate_in sheet 0)

  -- the text at the front, and the bytes past it unchanged
  pub written_front : written_text sheet buffer ≡ text_in sheet ++ drop (text_size (record_count sheet)) buffer
  unfolding written_text write_text_answer left
  written_front =
      ap (λ (v : Verdict). left v (at_front (text_in sheet) buffer) buffer) (done-clear (first_of (write_text_order sheet (length buffer))) (summary_in sheet) t e)
      ∙ ap (λ (k : ℕ). text_in sheet ++ drop k buffer) whole

  pub given_text : text_given sheet buffer ≡ text_in sheet
  given_text =
      ap (take (text_size (record_count sheet))) written_front
      ∙ take_at (text_in sheet) (drop (text_size (record_count sheet)) buffer) (text_size (record_count sheet)) whole

  read : SheetOf (polynomial_in sheet) (record_count sheet) (conjugate_in sheet 0) sheet × (summary_in sheet ≡ t)
  read = answered_sheet sheet t ((write_done_exactly sheet (length buffer) t).0 e).0

  pub given-degree : t.degree ≡ record_count sheet
  unfolding summary_of
  given-degree = sym (ap (λ (s : Summary). s.degree) read.1)

  -- "the ones written number n times our complexity": the complexity that the call answers
  pub given-ones : count_of one_byte (text_given sheet buffer) ≡ record_count sheet * t.complexity
  unfolding summary_of
  given-ones =
      ap (count_of one_byte) given_text ∙ ones_written (polynomial_in sheet) (record_count sheet) (conjugate_in sheet 0) read.0.based
      ∙ ap (λ (s : Summary). record_count sheet * s.complexity) read.1

-- ---- "reading accepts exactly what writing gives for them"

module _ (f a : ℕ) (sheet : List ℕ) (s : SheetOf f (degree f) a sheet) (buffer : List ℕ) (fits : text_size (degree f) ≤ length buffer) where
  sheet_text : text_in sheet ≡ matrices_text f (degree f) a
  sheet_text = rw (held-polynomial f (degree f) a sheet s, held-count f (degree f) a sheet s, held-element f (degree f) a sheet s) refl

  -- on the sheet of f and a writing answers what build answers
  pub sheet_writes : write_text_answer sheet (length buffer) ≡ Ok (summary_of f (degree f) a)
  sheet_writes =
      write_as_read sheet (length buffer) (rw (held-count f (degree f) a sheet s) fits) ∙ read_answered f (degree f) a sheet s

  pub sheet_gives : text_given sheet buffer ≡ matrices_text f (degree f) a
  sheet_gives = given_text sheet buffer (summary_of f (degree f) a) sheet_writes ∙ sheet_text

module _ (f a : ℕ) (text : List ℕ) (t : Summary) where
  accepted-given : read_text_answer f a text ≡ Ok t → GivenFor f a text t
  unfolding read_text_answer
  accepted-given e =
      let r = text_right f a text (done-clear (first_of (read_text_order f a text)) (summary_of f (degree f) a) t e) in
      let sheet : List ℕ = sheet_bytes f (degree f) a in
      let s : SheetOf f (degree f) a sheet = record { based = r.0; bytes = refl } in
      let fits : text_size (degree f) ≤ length text = omega (arith, ap length r.1 ∙ matrices-size f (degree f) a) in
      record {
        sheet = sheet;
        buffer = text;
        polynomial = held-polynomial f (degree f) a sheet s;
        element = held-element f (degree f) a sheet s;
        answer = sheet_writes f a sheet s text fits ∙ sym ((text_done_exactly f a text).1 r) ∙ e;
        front = r.1 ∙ sym (sheet_gives f a sheet s text fits);
      }

  given-accepted : GivenFor f a text t → read_text_answer f a text ≡ Ok t
  given-accepted g =
      let x = answered_sheet g.sheet t ((write_done_exactly g.sheet (length g.buffer) t).0 g.answer).0 in
      let s : SheetOf f (record_count g.sheet) a g.sheet = rw (g.polynomial, g.element) at x.0 in
      let d : degree f ≡ record_count g.sheet = s.based.has_degree in
      let right : text ≡ matrices_text f (record_count g.sheet) a =
      g.front ∙ given_text g.sheet g.buffer t g.answer ∙ ap₂ (λ (u v : ℕ). matrices_text u (record_count g.sheet) v) g.polynomial g.element in
      let same : summary_of f (record_count g.sheet) a ≡ t = rw (g.polynomial, g.element) at x.1 in
      (text_done_exactly f a text).1 (rw d s.based, rw d right) ∙ ap Ok (rw d same)

  pub reading_accepts : (read_text_answer f a text ≡ Ok t) ↔ GivenFor f a text t
  reading_accepts = (accepted-given, given-accepted)

-- ---- over the sheet that build wrote

module _ (f a : ℕ) (buffer : List ℕ) (t : Summary) (built : build_answer f a (length buffer) ≡ Ok t) where
  based : Based f (degree f) a × (record_size * degree f ≤ length buffer) × (summary_of f (degree f) a ≡ t)
  based = answered_based f a (length buffer) t built

  -- a text is accepted, with the answer of build, exactly if it is the right one
  accepted-right : (text : List ℕ) → (read_text_answer f a text ≡ Ok t) ↔ (text ≡ matrices_text f (degree f) a)
  accepted-right text = (
    λ e. ((text_done_exactly f a text).0 (e ∙ ap Ok (sym based.2))).1,
    λ e. (text_done_exactly f a text).1 (based.0, e) ∙ ap Ok based.2,
  )

  module _ (lent : List ℕ) (fits : text_size (degree f) ≤ length lent) where
    sheet_of : SheetOf f (degree f) a (built_sheet f a buffer)
    sheet_of = build-sheet f a based.0 buffer based.1

    -- writing from it is done, and answers as build did
    pub write_built : write_text_answer (built_sheet f a buffer) (length lent) ≡ Ok t
    write_built = sheet_writes f a (built_sheet f a buffer) sheet_of lent fits ∙ ap Ok based.2

    -- reading is done, and answers as build did, exactly on what writing gave
    pub reading_built : (text : List ℕ) → (read_text_answer f a text ≡ Ok t) ↔ (text ≡ text_given (built_sheet f a buffer) lent)
    reading_built text =
        let e = sheet_gives f a (built_sheet f a buffer) sheet_of lent fits in
        (λ p. (accepted-right text).0 p ∙ sym e, λ p. (accepted-right text).1 (p ∙ e))

  -- a buffer of 32n bytes holds the sheet alone, and one of n(n(n+1)+1) bytes the text alone
  module _ (filled : length buffer ≡ record_size * degree f) (lent : List ℕ) (fits : length lent ≡ text_size (degree f)) where
    sheet-alone : SheetOf f (degree f) a (built_buffer f a buffer)
    sheet-alone =
        let none = drop_of_length-le buffer {i = record_size * degree f} (omega (arith, filled)) in
        record {
          based = based.0;
          bytes =
              build-buffer f a based.0 buffer based.1 ∙ ap (λ (l : List ℕ). sheet_bytes f (degree f) a ++ l) none
              ∙ append-nil (sheet_bytes f (degree f) a);
        }

    text_alone : written_text (built_buffer f a buffer) lent ≡ matrices_text f (degree f) a
    text_alone =
        let sheet : List ℕ = built_buffer f a buffer in
        let n : ℕ = text_size (record_count sheet) in
        let room : text_size (degree f) ≤ length lent = omega (arith, fits) in
        let size : length lent ≤ n = rw (held-count f (degree f) a sheet sheet-alone) (omega (arith, fits)) in
        written_front sheet lent (summary_of f (degree f) a) (sheet_writes f a sheet sheet-alone lent room)
        ∙ ap (λ (l : List ℕ). text_in sheet ++ l) (drop_of_length-le lent {i = n} size) ∙ append-nil (text_in sheet)
        ∙ sheet_text f a sheet sheet-alone lent room

    pub reading_whole : (text : List ℕ) → (read_text_answer f a text ≡ Ok t) ↔ (text ≡ written_text (built_buffer f a buffer) lent)
    reading_whole text = (λ p. (accepted-right text).0 p ∙ sym text_alone, λ p. (accepted-right text).1 (p ∙ text_alone))
