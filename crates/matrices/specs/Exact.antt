-- What writing leaves in the lent buffer, and that reading accepts exactly that (document 02, §4): "Prove that the ones written number n
-- times our complexity, and that reading accepts exactly what writing gives for them."
--
--   matrices-size                 the bytes of the text
--   text_given sheet buffer        the text at the front of the buffer, once it is written
--   written_front, written_kept   what the buffer holds: the text, and the bytes past it unchanged; on a refusal it is unchanged
--   given_text, given-ones        that text, and its ones; `given-degree`: the n of that count
--   GivenFor f a text t           writing gave the text, and answered t, from a sheet of f and a
--   sheet_writes, sheet_gives     from the sheet of f and a: the answer, and the text
--   reading_accepts               "reading accepts exactly what writing gives for them", with the same answer
--   built_sheet f a buffer         the sheet at the front of the buffer, once it is built
--   write_built, reading_built    the same over the sheet that build wrote, with the answer that build gave
--   reading_whole                 and over buffers that the sheet and the text fill
--
-- When the two calls are done: `Judging`. Texts that are not right: `Places`.
-- What of this a wrong definition breaks, and what rests on that, stands in `proofs/Exact.antt`.
-- Assumes nothing.
use Rattle.std.specs.Prelude.{◌≡◌, take}
use Rattle.std.proofs.Math.Path.{refl}
use mathlib.Core.List.{List}
use Prim.Native.Nat.{ℕ, ◌*◌}
use Rattle.std.proofs.Math.ListN.{length}
use Rattle.gf2.specs.Poly.{degree}
use Rattle.refusals.specs.Verdicts.{Verdict, clear, refuse, first_of}
use Rattle.refusals.specs.Answers.{answer_of, left}
use Rattle.refusals.specs.declared.answer.Refusal.{Refusal}
use Rattle.sheet.specs.Record.{record_size, record_count, conjugate_in, polynomial_in}
use Rattle.sheet.specs.Answers.{summary_in, built_buffer}
use Rattle.sheet.specs.declared.answer.Summary.{Summary}
use Rattle.matrices.specs.Matrices.{text_size}
use Rattle.matrices.specs.Orders.{write_text_order}
use Rattle.matrices.specs.Answers.{write_text_answer, written_text}
use Rattle.matrices.specs.Judging.{not_refused}
use Rattle.std.specs.Prelude.{Ok, Err}

-- ---- the lent text

-- the first n(n(n+1)+1) bytes of what writing leaves
abbrev pub text_given : (sheet buffer : List ℕ) → List ℕ
text_given sheet buffer = take (text_size (record_count sheet)) (written_text sheet buffer)

-- on a refusal the buffer is unchanged
pub written_kept : (sheet buffer : List ℕ) (r : Refusal) → write_text_answer sheet (length buffer) ≡ Err r → written_text sheet buffer ≡ buffer
unfolding written_text write_text_answer left answer_of
written_kept sheet buffer r e = go (first_of (write_text_order sheet (length buffer))) refl
  where
    go : (v : Verdict) → first_of (write_text_order sheet (length buffer)) ≡ v → written_text sheet buffer ≡ buffer
    go clear c = absurd (not_refused (summary_in sheet) r (rw c at e))
    go (refuse k p) c = rw c refl

-- ---- "reading accepts exactly what writing gives for them"

-- a text that writing gave, answering t, from a sheet whose polynomial is f and whose element is a
pub record GivenFor (f a : ℕ) (text : List ℕ) (t : Summary) : Type 0 where
  pub sheet : List ℕ
  pub buffer : List ℕ
  pub polynomial : polynomial_in sheet ≡ f
  pub element : conjugate_in sheet 0 ≡ a
  pub answer : write_text_answer sheet (length buffer) ≡ Ok t
  pub front : text ≡ text_given sheet buffer

-- ---- over the sheet that build wrote

abbrev pub built_sheet : (f a : ℕ) (buffer : List ℕ) → List ℕ
built_sheet f a buffer = take (record_size * degree f) (built_buffer f a buffer)
