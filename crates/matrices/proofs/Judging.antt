-- The laws of `specs/Judging.antt` that a wrong definition breaks, and what rests on them. The head there tells of both files.
-- Assumes nothing.
use Rattle.std.specs.Prelude.{◌≡◌, ◌↔◌, false, ℕ, zero, suc, ◌+◌, ◌≤◌, ◌<◌}
use Rattle.std.proofs.Math.Path.{refl, ap}
use Rattle.std.proofs.Common.{sym, ◌∙◌, ⊎_elim, arith}
use mathlib.Core.List.{List, [], ◌∷◌, ◌++◌}
use borrow.Author.Tests.{lt-ltb, le-ltb, ltb-false}
use Rattle.gf2.specs.Numbers.{order}
use Rattle.refusals.specs.Verdicts.{Rule, Verdict, clear, refuse, first_of}
use Rattle.refusals.specs.Answers.{refusal_at, answer_of}
use Rattle.refusals.specs.Orders.{first-applies, first_passes, first-none, first-clear, part-refused, part-clear, parts-clear}
use Rattle.refusals.specs.Told.{Every}
use Rattle.refusals.specs.Telling.{first_found, every_first, every_append}
use Rattle.refusals.specs.declared.answer.Refusal.{Refusal}
use Rattle.sheet.specs.Record.{record_count}
use Rattle.sheet.specs.Orders.{record_rules, differ_rules, shape_order, rebuilt_from, rebuild_order, read_order}
use Rattle.sheet.specs.Answers.{issued_of, summary_in, read_answer}
use Rattle.sheet.specs.Answered.{done-clear}
use Rattle.sheet.specs.declared.answer.Summary.{Summary}
use Rattle.matrices.specs.Matrices.{text_size}
use Rattle.matrices.specs.Orders.{text_room_rule, write_text_order}
use Rattle.matrices.specs.Answers.{write_text_answer}
use Rattle.matrices.specs.Judging.{not_refused}
use Rattle.std.specs.Prelude.{Ok, Err}
use Rattle.refusals.specs.declared.fault.Fault.TheVariants as faults
use Rattle.refusals.specs.declared.fault.Fault.{Fault}

-- ---- writing, by its verdict

-- a last condition that does not apply changes nothing
last-passes : (xs : List Rule) (r : Rule) → r.applies ≡ false → first_of (xs ++ (r ∷ [])) ≡ first_of xs
last-passes xs r e = go (first_of xs) refl
  where
    go : (v : Verdict) → first_of xs ≡ v → first_of (xs ++ (r ∷ [])) ≡ first_of xs
    go clear c = part-clear xs (r ∷ []) c ∙ first_passes r [] e ∙ first-none ∙ sym c
    go (refuse k p) c = part-refused xs (r ∷ []) k p c ∙ sym c

-- reading a sheet has no 6
abbrev NotSix : ℕ → ℕ → Type 0
NotSix k p = k ≡ 6 → ⊥

records_not_six : (sheet : List ℕ) (i k : ℕ) → Every NotSix (record_rules sheet i k)
unfolding record_rules
records_not_six sheet i zero = tt
records_not_six sheet i (suc k) = (λ e. omega arith, (λ e. omega arith, records_not_six sheet (i + 1) k))

differ_not_six : (sheet rebuilt : List ℕ) (i k : ℕ) → Every NotSix (differ_rules sheet rebuilt i k)
unfolding differ_rules
differ_not_six sheet rebuilt i zero = tt
differ_not_six sheet rebuilt i (suc k) = (λ e. omega arith, differ_not_six sheet rebuilt (i + 1) k)

read_not_six : (sheet : List ℕ) (p : ℕ) → first_of (read_order sheet) ≡ refuse faults.NoRoom p → ⊥
read_not_six sheet p e =
    let n : ℕ = record_count sheet in
    every_first NotSix (read_order sheet) 6 p
    (every_append NotSix (shape_order sheet) (rebuild_order sheet) (λ e. omega arith, records_not_six sheet 0 n)
    (λ e. omega arith, (λ e. omega arith, (λ e. omega arith, differ_not_six sheet (rebuilt_from sheet) 0 n))))
    (first_found (read_order sheet) faults.NoRoom p e) refl

module _ (sheet : List ℕ) (room : ℕ) where
  abbrev size : ℕ
  size = text_size (record_count sheet)

  -- "6 for a buffer below n(n(n+1)+1) bytes" comes last, so with room enough writing judges as reading the sheet does
  pub write_as_read : text_size (record_count sheet) ≤ room → write_text_answer sheet room ≡ read_answer sheet
  unfolding write_text_answer read_answer
  write_as_read fits =
      ap (λ (v : Verdict). issued_of v (summary_in sheet))
      (last-passes (read_order sheet) (text_room_rule (record_count sheet) room) (le-ltb room size fits))

  -- "writing has those of reading a sheet", whatever the room
  pub write_refused_as_read : (r : Refusal) → read_answer sheet ≡ Err r → write_text_answer sheet room ≡ Err r
  unfolding write_text_answer read_answer answer_of
  write_refused_as_read r e = go (first_of (read_order sheet)) refl
    where
      go : (v : Verdict) → first_of (read_order sheet) ≡ v → write_text_answer sheet room ≡ Err r
      go clear c = absurd (not_refused (summary_in sheet) r (rw c at e))
      go (refuse k p) c = rw (part-refused (read_order sheet) (text_room_rule (record_count sheet) room ∷ []) k p c) (rw c at e)

  -- done exactly if reading the sheet is and there is room, and with the same answer
  pub write_done_exactly : (t : Summary) → (write_text_answer sheet room ≡ Ok t) ↔ ((read_answer sheet ≡ Ok t) × (text_size (record_count sheet) ≤ room))
  unfolding write_text_answer
  write_done_exactly t = (
    λ e.
        let x = parts-clear (read_order sheet) (text_room_rule (record_count sheet) room ∷ []) (done-clear (first_of (write_text_order sheet room)) (summary_in sheet) t e) in
        let fits : text_size (record_count sheet) ≤ room = ltb-false room size (first-clear (text_room_rule (record_count sheet) room) [] x.1).0 in
        (sym (write_as_read fits) ∙ e, fits),
    λ x. write_as_read x.1 ∙ x.0,
  )

  -- 6 exactly if reading accepts the sheet and the room is less
  pub write_room_exactly : (write_text_answer sheet room ≡ Err (refusal_at faults.NoRoom 0))
      ↔ ((read_answer sheet ≡ Ok (summary_in sheet)) × (room < text_size (record_count sheet)))
  unfolding write_text_answer read_answer answer_of
  write_room_exactly = (λ e. few e (first_of (read_order sheet)) refl, λ x. short x.1 (done-clear (first_of (read_order sheet)) (summary_in sheet) (summary_in sheet) x.0))
    where
      short : room < text_size (record_count sheet) → first_of (read_order sheet) ≡ clear → write_text_answer sheet room ≡ Err (refusal_at faults.NoRoom 0)
      short h c =
          rw (part-clear (read_order sheet) (text_room_rule (record_count sheet) room ∷ []) c, first-applies (text_room_rule (record_count sheet) room) [] (lt-ltb room (text_size (record_count sheet)) h)) refl

      few : write_text_answer sheet room ≡ Err (refusal_at faults.NoRoom 0) → (v : Verdict) → first_of (read_order sheet) ≡ v
          → (read_answer sheet ≡ Ok (summary_in sheet)) × (room < text_size (record_count sheet))
      few e clear c = (
        rw c refl,
        ⊎_elim
            (λ (h : room < text_size (record_count sheet)). h)
            (λ (h : text_size (record_count sheet) ≤ room).
            absurd (not_refused (summary_in sheet) (refusal_at faults.NoRoom 0) (rw (last-passes (read_order sheet) (text_room_rule (record_count sheet) room) (le-ltb room (text_size (record_count sheet)) h), c) at e)))
            (order room (text_size (record_count sheet))),
      )
      few e (refuse k p) c =
          let q : Err (refusal_at k p) ≡ Err (refusal_at faults.NoRoom 0) = rw (part-refused (read_order sheet) (text_room_rule (record_count sheet) room ∷ []) k p c) at e in
          let y : refusal_at k p ≡ refusal_at faults.NoRoom 0 = cc in
          absurd (read_not_six sheet p (c ∙ ap (λ (m : Fault). refuse m p) (ap (λ (r : Refusal). r.fault) y)))
