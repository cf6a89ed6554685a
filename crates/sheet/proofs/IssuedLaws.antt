-- What the calls answer where a sheet is issued: build for what is based, and the other calls on the sheet of f and a. Each is done, and
-- says what `Through` computes.
--
--   build_answered, answered_based, build-buffer   build: its answer, what a done answer says, and the lent buffer
--   read_answered, answered_sheet                  reading: the same
--   polynomial_answered, normal_answered, times_answered, list-.._answered   the calls on the sheet
--   list-normal, list-polynomial                   the lent list
--
-- Assumes nothing.
use Rattle.std.specs.Prelude.{◌≡◌, List, [], ◌∷◌, ◌++◌, map, ℕ, ◌*◌, ◌^◌, ◌≤◌, ◌<◌, length, take}
use Rattle.std.proofs.Math.Path.{refl, ap}
use Rattle.std.proofs.Common.{sym, ◌∙◌, arith}
use Rattle.std.proofs.Math.ListN.{drop}
use Rattle.std.proofs.Math.Seq.{take-append_seam}
use Rattle.gf2.specs.Poly.{degree}
use Rattle.refusals.specs.Answers.{answer_of, left, value_of, checked_of}
use Rattle.refusals.specs.Verdicts.{Verdict, clear, refuse, first_of}
use Rattle.sheet.specs.Record.{record_size, record_count, conjugate_in, polynomial_in, sheet_bytes}
use Rattle.sheet.specs.Orders.{build_order, read_order, list_limit, Small}
use Rattle.sheet.specs.Answers.{issued_of, summary_of, summary_in, build_answer, at_front, built_buffer, read_answer, to_polynomial, polynomial_answer, to_normal, normal_answer, through_table, times_answer, polynomial_list_answer, polynomial_list, normal_list_answer, normal_list}
use Rattle.sheet.specs.Answered.{done-clear}
use Rattle.sheet.proofs.Held.{held-shape, held_summary}
use Rattle.sheet.proofs.Issuing.{build_issues, build-based, read-sheet, sheet-reads}
use Rattle.sheet.specs.Rebuilding.{sheet_bytes-length}
use Rattle.sheet.specs.Sheets.{Based, SheetOf}
use Rattle.sheet.specs.Through.{value-small, values-small}
use Rattle.sheet.proofs.Through.{values-clear, list-clear, coordinates-clear}
use Rattle.sheet.specs.declared.answer.Summary.{Summary}
use Rattle.std.specs.Prelude.{Ok}
use Rattle.refusals.specs.Answers.{passed}

done_is : (v : Verdict) (s t : Summary) → issued_of v s ≡ Ok t → s ≡ t
unfolding answer_of
done_is clear s t e = cc
done_is (refuse k p) s t e = let z : ◌≡◌ {A = ℕ} 0 1 = cc in absurd (omega arith)

-- ---- build

module _ (f a : ℕ) where
  pub build_answered : (room : ℕ) → Based f (degree f) a → record_size * degree f ≤ room → build_answer f a room ≡ Ok (summary_of f (degree f) a)
  unfolding build_answer answer_of
  build_answered room b fits = ap (λ (v : Verdict). issued_of v (summary_of f (degree f) a)) (build_issues f a room b fits)

  pub answered_based : (room : ℕ) (t : Summary) → build_answer f a room ≡ Ok t
      → Based f (degree f) a × (record_size * degree f ≤ room) × (summary_of f (degree f) a ≡ t)
  unfolding build_answer
  answered_based room t e =
      let v : Verdict = first_of (build_order f a room) in
      let s : Summary = summary_of f (degree f) a in
      let b = build-based f a room (done-clear v s t e) in
      (b.0, b.1, done_is v s t e)

  module _ (b : Based f (degree f) a) (buffer : List ℕ) (fits : record_size * degree f ≤ length buffer) where
    -- the sheet stands at the buffer's front, and the rest is as it came
    pub build-buffer : built_buffer f a buffer ≡ sheet_bytes f (degree f) a ++ drop (record_size * degree f) buffer
    unfolding built_buffer left
    build-buffer =
        ap (λ (v : Verdict). left v (at_front (sheet_bytes f (degree f) a) buffer) buffer) (build_issues f a (length buffer) b fits)
        ∙ ap (λ (k : ℕ). sheet_bytes f (degree f) a ++ drop k buffer) (sheet_bytes-length f (degree f) a)

    pub build-sheet : SheetOf f (degree f) a (take (record_size * degree f) (built_buffer f a buffer))
    build-sheet =
        let s : List ℕ = sheet_bytes f (degree f) a in
        record {
          based = b;
          bytes =
              ap (take (record_size * degree f)) build-buffer
              ∙ ap (λ (k : ℕ). take k (s ++ drop (record_size * degree f) buffer)) (sym (sheet_bytes-length f (degree f) a)) ∙ take-append_seam s _;
        }

-- ---- reading

pub answered_sheet : (sheet : List ℕ) (t : Summary) → read_answer sheet ≡ Ok t
    → SheetOf (polynomial_in sheet) (record_count sheet) (conjugate_in sheet 0) sheet × (summary_in sheet ≡ t)
unfolding read_answer
answered_sheet sheet t e =
    let v : Verdict = first_of (read_order sheet) in
    let s : Summary = summary_in sheet in
    (read-sheet sheet (done-clear v s t e), done_is v s t e)

module _ (f n a : ℕ) (sheet : List ℕ) (s : SheetOf f n a sheet) where
  pub read_answered : read_answer sheet ≡ Ok (summary_of f n a)
  unfolding read_answer answer_of
  read_answered =
      ap (λ (v : Verdict). issued_of v (summary_in sheet)) (sheet-reads f n a sheet s)
      ∙ ap Ok (held_summary f n a sheet s)

  -- ---- converting and multiplying

  pub polynomial_answered : (v : ℕ) → v < 2 ^ n → polynomial_answer sheet v ≡ Ok (to_polynomial sheet v)
  unfolding polynomial_answer answer_of
  polynomial_answered v h =
      ap (λ (w : Verdict). value_of w (to_polynomial sheet v)) (values-clear f n a sheet s (v ∷ []) (value-small n v h))

  pub normal_answered : (word : ℕ) → normal_answer sheet word ≡ Ok (to_normal sheet word)
  unfolding normal_answer answer_of
  normal_answered word = ap (λ (w : Verdict). value_of w (to_normal sheet word)) (held-shape f n a sheet s)

  pub times_answered : (u v : ℕ) → u < 2 ^ n → v < 2 ^ n → times_answer sheet u v ≡ Ok (through_table sheet u v)
  unfolding times_answer answer_of
  times_answered u v hu hv =
      ap (λ (w : Verdict). value_of w (through_table sheet u v)) (values-clear f n a sheet s (u ∷ v ∷ []) (values-small n u v hu hv))

  -- ---- lists

  module _ (from : List ℕ) (short : length from ≤ list_limit) where
    pub list-normal_answered : normal_list_answer sheet from (length from) ≡ passed
    unfolding normal_list_answer answer_of
    list-normal_answered = ap checked_of (list-clear f n a sheet s from short)

    pub list-normal : (into : List ℕ) → length into ≡ length from → normal_list sheet from into ≡ map (to_normal sheet) from
    unfolding normal_list left
    list-normal into e = rw (e, list-clear f n a sheet s from short) refl

    module _ (all : Small n from) where
      pub list-polynomial_answered : polynomial_list_answer sheet from (length from) ≡ passed
      unfolding polynomial_list_answer answer_of
      list-polynomial_answered = ap checked_of (coordinates-clear f n a sheet s from short all)

      pub list-polynomial : (into : List ℕ) → length into ≡ length from → polynomial_list sheet from into ≡ map (to_polynomial sheet) from
      unfolding polynomial_list left
      list-polynomial into e = rw (e, coordinates-clear f n a sheet s from short all) refl
