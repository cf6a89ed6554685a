-- Laws of build's order: what its parts leave of f, the element and the buffer where no condition applies; its answers.
-- Assumes nothing.
use Rattle.std.specs.Prelude.{◌≡◌, List, [], ◌∷◌, ℕ, ◌*◌, ◌≤◌, ◌<◌, length}
use Rattle.std.proofs.Common.{sym, ◌∙◌, lt-ltb, le-ltb, ltb-false}
use Rattle.std.proofs.Math.Path.{ap}
use Rattle.gf2.specs.Poly.{degree}
use Rattle.refusals.specs.Verdicts.{Verdict, clear, refuse, first_of}
use Rattle.refusals.specs.Orders.{first-applies, first_passes, first-clear, parts-clear}
use Rattle.refusals.specs.Answers.{left}
use Rattle.refusals.specs.Answered.{answer-refused, left-refused}
use Rattle.refusals.specs.declared.answer.Refusal.{Refusal}
use Rattle.field.specs.Accepted.{Operand}
use Rattle.field.specs.Refusals.{operand_order, field_order}
use Rattle.field.proofs.Orders.{operand_judged}
use Rattle.sheet.specs.Record.{record_size, sheet_bytes}
use Rattle.sheet.specs.Orders.{normal_rule, room_rule, room_order, build_order}
use Rattle.sheet.specs.Answers.{issued_of, issued_report, summary_of, build_answer, build_report, at_front, built_buffer}
use Rattle.sheet.specs.Answered.{issued_promised}
use Rattle.sheet.specs.declared.answer.Summary.{Summary}
use Rattle.std.specs.Prelude.{Result, Ok, Err}
use Rattle.refusals.specs.declared.fault.Fault.TheVariants as faults

-- ---- 6

module _ (f n room : ℕ) where
  pub room-short : room < record_size * n → first_of (room_rule n room ∷ field_order f) ≡ refuse faults.NoRoom 0
  room-short h = first-applies (room_rule n room) _ (lt-ltb room (record_size * n) h)

  pub room-enough : record_size * n ≤ room → first_of (room_rule n room ∷ field_order f) ≡ first_of (field_order f)
  room-enough h = first_passes (room_rule n room) _ (le-ltb room (record_size * n) h)

-- ---- 1, 4, 6, 2 and 3

pub room_judged : (f n a room : ℕ) → n ≡ degree f → first_of (room_order f a room) ≡ clear → Operand f n a × (record_size * n ≤ room)
room_judged f n a room en e =
    let s = parts-clear (operand_order f (a ∷ [])) (room_rule (degree f) room ∷ field_order f) e in
    let r = first-clear (room_rule (degree f) room) (field_order f) s.1 in
    (operand_judged f n a en s.0, rw en (ltb-false room (record_size * degree f) r.0))

-- ---- the answer, its report, and the buffer

module _ (f a : ℕ) (buffer : List ℕ) where
  pub build-refused : {r : Refusal} → first_of (build_order f a (length buffer)) ≡ refuse r.fault r.place
      → (Err r ≡ build_answer f a (length buffer)) × ((issued_report (Err r) ≡ build_report f a (length buffer)) × (buffer ≡ built_buffer f a buffer))
  unfolding build_answer build_report built_buffer
  build-refused {r} e =
      let s : Summary = summary_of f (degree f) a in
      let p = issued_promised (first_of (build_order f a (length buffer))) s (answer-refused Err (Ok s) {r = r} e) in
      (p.0, (p.1, left-refused _ buffer e))

  -- condition 5 decides
  pub build-rest : (n : ℕ) {r : Result Summary Refusal} {last : List ℕ} → n ≡ degree f
      → first_of (build_order f a (length buffer)) ≡ first_of (normal_rule f (degree f) a ∷ [])
      → r ≡ issued_of (first_of (normal_rule f n a ∷ [])) (summary_of f n a)
      → last ≡ left (first_of (normal_rule f n a ∷ [])) (at_front (sheet_bytes f n a) buffer) buffer
      → (r ≡ build_answer f a (length buffer)) × ((issued_report r ≡ build_report f a (length buffer)) × (last ≡ built_buffer f a buffer))
  unfolding build_answer build_report built_buffer
  build-rest n {r} {last} en e er el =
      let v : Verdict = first_of (build_order f a (length buffer)) in
      let q : r ≡ issued_of v (summary_of f (degree f) a) =
      er ∙ ap (λ (k : ℕ). issued_of (first_of (normal_rule f k a ∷ [])) (summary_of f k a)) en ∙ ap (λ (w : Verdict). issued_of w (summary_of f (degree f) a)) (sym e) in
      let p = issued_promised v (summary_of f (degree f) a) q in
      let w : last ≡ left v (at_front (sheet_bytes f (degree f) a) buffer) buffer =
      el ∙ ap (λ (k : ℕ). left (first_of (normal_rule f k a ∷ [])) (at_front (sheet_bytes f k a) buffer) buffer) en ∙ ap (λ (w : Verdict). left w (at_front (sheet_bytes f (degree f) a) buffer) buffer) (sym e) in
      (p.0, (p.1, w))
