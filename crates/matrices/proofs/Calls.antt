-- The laws of `specs/Calls.antt` that a wrong definition breaks, and what rests on them. The head there tells of both files.
-- Assumes nothing.
use Rattle.std.specs.Prelude.{◌≡◌, false, Ok, ℕ, ◌+◌, ◌≤◌, ◌<◌}
use Rattle.std.proofs.Math.Path.{sym, ap}
use Rattle.std.proofs.Common.{◌∙◌, zero-add, le-ltb}
use mathlib.Core.List.{List, [], ◌∷◌, ◌++◌}
use Rattle.std.proofs.Math.ListN.{length, drop}
use Rattle.gf2.specs.Limit.{limit}
use Rattle.gf2.specs.Degrees.{degree-eq}
use Rattle.gf2.specs.Poly.{degree}
use Rattle.refusals.specs.Verdicts.{clear, first_of}
use Rattle.refusals.specs.Orders.{first-none, part-clear}
use Rattle.refusals.specs.Answers.{refusal_at, checked_of}
use Rattle.refusals.specs.declared.answer.Refusal.{Refusal}
use Rattle.field.specs.Accepted.{Operand, degree_outside}
use Rattle.field.specs.Refusals.{field_order}
use Rattle.normal.specs.Basis.{built_of}
use Rattle.normal.specs.Normal.{table_rows, padded}
use Rattle.normal.specs.declared.basis.Basis.{Basis}
use Rattle.sheet.specs.Record.{record_count, conjugate_in, polynomial_in, table_rows_in}
use Rattle.sheet.specs.Orders.{normal_rule}
use Rattle.sheet.specs.Bytes.{pasted}
use Rattle.sheet.specs.Basis.{normal_passed, normal-rows}
use Rattle.sheet.specs.Answers.{issued_report, summary_in, read_answer}
use Rattle.sheet.specs.Answered.{issued_promised}
use Rattle.sheet.proofs.IssuedLaws.{answered_sheet}
use Rattle.sheet.proofs.Issuing.{clear-based}
use Rattle.sheet.proofs.Held.{table-rows}
use Rattle.sheet.specs.Sheets.{Based}
use Rattle.sheet.specs.declared.answer.Summary.{Summary}
use Rattle.matrices.specs.Matrices.{text_bytes, matrices_text, text_size}
use Rattle.matrices.specs.Orders.{match_rule, write_text_order, match_order}
use Rattle.matrices.specs.Answers.{text_in, write_text_answer, write_text_report, written_text}
use Rattle.matrices.specs.Turned.{Twice, turned}
use Rattle.matrices.proofs.Turned.{turned_text}
use Rattle.matrices.proofs.Judging.{write_done_exactly, write_room_exactly}
use Rattle.matrices.specs.Exact.{written_kept}
use Rattle.matrices.proofs.Exact.{matrices-size, written_front}
use Rattle.std.specs.Prelude.{Result, Ok, Err}
use Rattle.refusals.specs.Answers.{Checked}
use Rattle.refusals.specs.declared.fault.Fault.TheVariants as faults

-- ---- reading

-- f is accepted and the element normal
built_based : (f n a : ℕ) → Operand f n a → first_of (field_order f) ≡ clear → first_of (normal_rule f n a ∷ []) ≡ clear → Based f n a
unfolding degree_outside
built_based f n a o accepts normal =
    let d = o.in_range in
    let size : degree f ≡ n = degree-eq f n d.is_degree in
    let inside : degree_outside f ≡ false = rw (size, le-ltb n 2 d.two, le-ltb limit n d.most) in
    clear-based f n a inside size o.small (part-clear (field_order f) (normal_rule f n a ∷ []) accepts ∙ normal)

-- the verdict on a text, compared with the matrices of the basis that was built
pub built_verdict : (f n a : ℕ) → Operand f n a → first_of (field_order f) ≡ clear → {basis : Basis} → Ok basis ≡ built_of f n a
    → (rows text : List ℕ) → Twice n basis.table rows → {c : Checked} → c ≡ checked_of (first_of (match_rule text (text_bytes n (turned n rows)) ∷ []))
    → c ≡ checked_of (first_of (match_order f n a text))
built_verdict f n a o accepts {basis} built rows text twice {c} ec =
    let b : Based f n a = built_based f n a o accepts (normal_passed f n a [] built ∙ first-none) in
    let held : basis.table ≡ padded (table_rows f n a) = ap (λ (x : Basis). x.table) (normal-rows f n a built) in
    ec ∙ ap (λ (right : List ℕ). checked_of (first_of (match_rule text right ∷ []))) (turned_text f n a b basis.table rows held twice)
    ∙ ap checked_of (sym (normal_passed f n a (match_rule text (matrices_text f n a) ∷ []) built))

-- ---- writing

module _ (sheet text : List ℕ) where
  -- the clauses of the promise, from the answer and the text
  promised : {r : Result Summary Refusal} {last : List ℕ} → r ≡ write_text_answer sheet (length text) → last ≡ written_text sheet text
      → (r ≡ write_text_answer sheet (length text)) × ((issued_report r ≡ write_text_report sheet (length text)) × (last ≡ written_text sheet text))
  unfolding write_text_answer write_text_report
  promised er el = let p = issued_promised (first_of (write_text_order sheet (length text))) (summary_in sheet) er in (p.0, (p.1, el))

  pub write_refused : {r : Refusal} → write_text_answer sheet (length text) ≡ Err r
      → (Err r ≡ write_text_answer sheet (length text)) × ((issued_report (Err r) ≡ write_text_report sheet (length text)) × (text ≡ written_text sheet text))
  write_refused {r} e = promised (sym e) (sym (written_kept sheet text r e))

  module _ (s : Summary) (e : read_answer sheet ≡ Ok s) where
    pub write_short : length text < text_size (record_count sheet) → write_text_answer sheet (length text) ≡ Err (refusal_at faults.NoRoom 0)
    write_short h = (write_room_exactly sheet (length text)).1 (e ∙ ap Ok (sym (answered_sheet sheet s e).1), h)

    -- the text that was put is made of the table's rows twice over
    pub write_done : text_size (record_count sheet) ≤ length text → (table rows last : List ℕ) → table ≡ padded (table_rows_in sheet) → Twice (record_count sheet) table rows
        → last ≡ pasted text 0 (text_bytes (record_count sheet) (turned (record_count sheet) rows))
        → (Ok s ≡ write_text_answer sheet (length text)) × ((issued_report (Ok s) ≡ write_text_report sheet (length text)) × (last ≡ written_text sheet text))
    unfolding pasted
    write_done h table rows last et twice el =
        let f = polynomial_in sheet in
        let n = record_count sheet in
        let a = conjugate_in sheet 0 in
        let own = (answered_sheet sheet s e).0 in
        let answer = (write_done_exactly sheet (length text) s).1 (e, h) in
        let right : text_bytes n (turned n rows) ≡ text_in sheet = turned_text f n a own.based table rows (et ∙ ap padded (table-rows f n a sheet own)) twice in
        let put : last ≡ text_in sheet ++ drop (text_size n) text =
        el ∙ ap (λ (l : List ℕ). l ++ drop (0 + length l) text) right ∙ ap (λ (k : ℕ). text_in sheet ++ drop k text) (zero-add _ ∙ matrices-size f n a) in
        promised (sym answer) (put ∙ sym (written_front sheet text s answer))
