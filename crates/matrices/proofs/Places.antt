-- The laws of `specs/Places.antt` that a wrong definition breaks, and what rests on them. The head there tells of both files.
-- Assumes nothing.
use Rattle.std.specs.Prelude.{◌≡◌, ◌↔◌}
use Rattle.std.proofs.Math.Path.{refl, sym, ap}
use Rattle.std.proofs.Common.{◌∙◌, inl, inr, add-zero, length-append}
use mathlib.Core.List.{List, [], ◌∷◌, ◌++◌, append-nil}
use Prim.Native.Nat.{ℕ, ◌+◌, ◌*◌, ◌≤◌}
use Rattle.std.proofs.Math.Nat.{mul-le-mul}
use native.Mathlib.Omega.{arith}
use Rattle.std.proofs.Math.ListN.{length}
use Rattle.gf2.specs.Poly.{degree}
use Rattle.refusals.specs.Verdicts.{Verdict, clear, refuse, first_of}
use Rattle.refusals.specs.Answers.{refusal_at, answer_of}
use Rattle.refusals.specs.Orders.{part-refused, part-clear}
use Rattle.refusals.specs.Told.{AtZero}
use Rattle.refusals.specs.Telling.{first_found, every_first}
use Rattle.refusals.specs.declared.answer.Refusal.{Refusal}
use Rattle.sheet.specs.Answers.{issued_of, summary_of}
use Rattle.sheet.proofs.Issuing.{based-two}
use Rattle.sheet.specs.Sheets.{Based}
use Rattle.matrices.specs.Matrices.{matrix_entry, line_end, matrices_text, matrix_size, text_size, line_count}
use Rattle.matrices.specs.Orders.{count_of, common, common_lines, match_rule}
use Rattle.matrices.specs.Answers.{read_text_answer}
use Rattle.matrices.specs.CommonLines.{count-common, common-nil}
use Rattle.matrices.proofs.Counting.{text_ends}
use Rattle.matrices.proofs.Matching.{match_differs}
use Rattle.matrices.specs.Judging.{based_order_lem, based-listed, order_based, based_order, text_done_exactly, not_refused}
use Rattle.matrices.proofs.Exact.{matrices-size}
use Rattle.matrices.specs.Places.{lines_after, place_beginning}
use Rattle.std.specs.Prelude.{Err}
use Rattle.refusals.specs.declared.fault.Fault.TheVariants as faults
use Rattle.refusals.specs.declared.fault.Fault.{Fault}

-- ---- the place

none_after : (x : List ℕ) → common_lines x [] ≡ 0
unfolding common_lines count_of
none_after x = ap (count_of line_end) (common-nil x)

pub place_empty : (right : List ℕ) → common_lines [] right ≡ 0
unfolding common_lines common count_of
place_empty right = refl

module _ (f n a : ℕ) where
  pub matrices-ends : count_of line_end (matrices_text f n a) ≡ line_count n
  unfolding matrices_text
  matrices-ends = text_ends n (matrix_entry f n a)

  -- whatever stands after the right text
  pub place_extra : (rest : List ℕ) → common_lines (matrices_text f n a ++ rest) (matrices_text f n a) ≡ line_count n
  place_extra rest =
      let right : List ℕ = matrices_text f n a in
      ap (common_lines (right ++ rest)) (sym (append-nil right)) ∙ lines_after right rest []
      ∙ ap (λ (m : ℕ). count_of line_end right + m) (none_after rest) ∙ add-zero (count_of line_end right) ∙ matrices-ends

  pub place-most : (text : List ℕ) → common_lines text (matrices_text f n a) ≤ line_count n
  unfolding common_lines
  place-most text = omega (arith, count-common line_end text (matrices_text f n a), matrices-ends)

-- ---- the answer

module _ (f a : ℕ) (text : List ℕ) where
  abbrev right : List ℕ
  right = matrices_text f (degree f) a

  pub text_differs : Based f (degree f) a → (text ≡ matrices_text f (degree f) a → ⊥)
      → read_text_answer f a text ≡ Err (refusal_at faults.OtherText (count_of line_end (common text (matrices_text f (degree f) a))))
  unfolding read_text_answer answer_of common_lines
  text_differs b h =
      ap (λ (v : Verdict). issued_of v (summary_of f (degree f) a))
      (part-clear (based_order_lem f a) (match_rule text right ∷ []) (based_order f a b) ∙ match_differs text right h)

  -- none of the conditions before has that number
  not_fourteen : (p : ℕ) → first_of (based_order_lem f a) ≡ refuse faults.OtherText p → ⊥
  not_fourteen p e = among (every_first (AtZero (1 ∷ 4 ∷ 2 ∷ 3 ∷ 5 ∷ [])) (based_order_lem f a) 14 p (based-listed f a) (first_found (based_order_lem f a) faults.OtherText p e))
    where
      among : AtZero (1 ∷ 4 ∷ 2 ∷ 3 ∷ 5 ∷ []) 14 p → ⊥
      among (inl e, z) = omega arith
      among (inr (inl e), z) = omega arith
      among (inr (inr (inl e)), z) = omega arith
      among (inr (inr (inr (inl e))), z) = omega arith
      among (inr (inr (inr (inr (inl e)))), z) = omega arith
      among (inr (inr (inr (inr (inr e)))), z) = e

  pub text_differs_exactly : (p : ℕ)
      → (read_text_answer f a text ≡ Err (refusal_at faults.OtherText p))
      ↔ (Based f (degree f) a × (text ≡ matrices_text f (degree f) a → ⊥) × (p ≡ count_of line_end (common text (matrices_text f (degree f) a))))
  unfolding read_text_answer answer_of
  text_differs_exactly p = (λ e. parts e (first_of (based_order_lem f a)) refl, λ x. text_differs x.0 x.1 ∙ ap (λ (m : ℕ). Err (refusal_at faults.OtherText m)) (sym x.2))
    where
      parts : read_text_answer f a text ≡ Err (refusal_at faults.OtherText p) → (v : Verdict) → first_of (based_order_lem f a) ≡ v
          → Based f (degree f) a × (text ≡ matrices_text f (degree f) a → ⊥) × (p ≡ count_of line_end (common text (matrices_text f (degree f) a)))
      parts e clear c =
          let b : Based f (degree f) a = order_based f a c in
          let other : text ≡ matrices_text f (degree f) a → ⊥ =
          λ r. not_refused (summary_of f (degree f) a) (refusal_at faults.OtherText p) (sym ((text_done_exactly f a text).1 (b, r)) ∙ e) in
          let lines : ℕ = count_of line_end (common text (matrices_text f (degree f) a)) in
          let q : Err (refusal_at faults.OtherText p) ≡ Err (refusal_at faults.OtherText lines) = sym e ∙ text_differs b other in
          let y : refusal_at faults.OtherText p ≡ refusal_at faults.OtherText lines = cc in
          (b, other, ap (λ (r : Refusal). r.place) y)
      parts e (refuse k q) c =
          let x : Err (refusal_at k q) ≡ Err (refusal_at faults.OtherText p) =
          rw (part-refused (based_order_lem f a) (match_rule text (matrices_text f (degree f) a) ∷ []) k q c) at e in
          let y : refusal_at k q ≡ refusal_at faults.OtherText p = cc in
          absurd (not_fourteen q (c ∙ ap (λ (m : Fault). refuse m q) (ap (λ (r : Refusal). r.fault) y)))

-- ---- texts that go on, that stop, and that are not there

module _ (f a : ℕ) (b : Based f (degree f) a) where
  refused-at : (text : List ℕ) (p : ℕ) → (text ≡ matrices_text f (degree f) a → ⊥) → common_lines text (matrices_text f (degree f) a) ≡ p
      → read_text_answer f a text ≡ Err (refusal_at faults.OtherText p)
  unfolding common_lines
  refused-at text p h e = text_differs f a text b h ∙ ap (λ (m : ℕ). Err (refusal_at faults.OtherText m)) e

  -- "extra": one byte or more after the right text
  pub extra_refused : (byte : ℕ) (rest : List ℕ) → read_text_answer f a (matrices_text f (degree f) a ++ (byte ∷ rest)) ≡ Err (refusal_at faults.OtherText (line_count (degree f)))
  extra_refused byte rest =
      let right : List ℕ = matrices_text f (degree f) a in
      refused-at (right ++ (byte ∷ rest)) (line_count (degree f))
      (λ e. let s : length right + length (byte ∷ rest) ≡ length right = sym (length-append right (byte ∷ rest)) ∙ ap length e in omega (arith, s))
      (place_extra f (degree f) a (byte ∷ rest))

  -- "missing": the right text but for one byte or more at its end
  pub beginning_refused : (text : List ℕ) (byte : ℕ) (rest : List ℕ) → matrices_text f (degree f) a ≡ text ++ (byte ∷ rest) → read_text_answer f a text ≡ Err (refusal_at faults.OtherText (count_of line_end text))
  beginning_refused text byte rest e =
      refused-at text (count_of line_end text)
      (λ p. let s : length text ≡ length text + length (byte ∷ rest) = ap length (p ∙ e) ∙ length-append text (byte ∷ rest) in omega (arith, s))
      (ap (common_lines text) e ∙ place_beginning text (byte ∷ rest))

  pub empty_refused : read_text_answer f a [] ≡ Err (refusal_at faults.OtherText 0)
  unfolding text_size
  empty_refused =
      let n : ℕ = degree f in
      let one : 1 ≤ n = omega (arith, based-two f n a b) in
      let more : 1 ≤ matrix_size n = omega arith in
      let some : 1 * 1 ≤ n * matrix_size n = mul-le-mul one more in
      refused-at [] 0 (λ e. let s : 0 ≡ n * matrix_size n = ap length e ∙ matrices-size f n a in omega arith) (place_empty (matrices_text f n a))
