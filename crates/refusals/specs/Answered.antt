-- How the verdict of an order gives a call its answer, whatever the order and the answer are. A call judges first, by a function that
-- promises `checked_of v`, and then works.
--
--   judged_refused, judged_done   the two paths of such a call, for its answer
--   left-refused, left-done       the same for what it was lent
--   judged_clear, judged_verdict  what the two cases say of the verdict
--   part-refuses, part-passes     an order in two parts: the first refuses; the first is clear, and the rest decides
--   then_refused, then_rest       the same for what a function answers that judges in two parts
--   value_report_lem, checked_report_lem  the numbers of the answer are those of the verdict
--
-- Assumes nothing.
use Rattle.std.specs.Prelude.{◌≡◌, refl, List, ◌++◌, ℕ, Result, Ok, Err}
use Rattle.std.proofs.Common.{sym, ap, ◌∙◌, arith}
use Rattle.refusals.specs.Verdicts.{Rule, Verdict, clear, refuse, first_of}
use Rattle.refusals.specs.Answers.{answer_of, left, report_of, value_of, value_report, Checked, passed, checked_of, checked_report}
use Rattle.refusals.specs.Orders.{part-refused, part-clear}
use Rattle.refusals.specs.declared.fault.Fault.{Fault}
use Rattle.refusals.specs.declared.answer.Refusal.{Refusal}

done_not_refused : (r : Refusal) → passed ≡ Err r → ⊥
done_not_refused r e = let z : ◌≡◌ {A = ℕ} 0 1 = cc in omega arith

-- ---- the verdict

-- only an order that finds nothing is done
pub judged_clear : (v : Verdict) {c : Checked} → c ≡ checked_of v → c ≡ passed → v ≡ clear
unfolding answer_of
judged_clear clear e d = refl
judged_clear (refuse k p) e d = absurd (done_not_refused _ (sym d ∙ e))

pub judged_verdict : (v : Verdict) {c : Checked} {r : Refusal} → c ≡ checked_of v → c ≡ Err r → v ≡ refuse r.fault r.place
unfolding answer_of
judged_verdict clear {c} {r} e d = absurd (done_not_refused r (sym e ∙ d))
judged_verdict (refuse k p) {c} {r} e d =
    let q : Err (record { fault = k; place = p }) ≡ Err r = sym e ∙ d in
    cc

-- ---- an order in two parts

module _ (xs ys : List Rule) {c : Checked} (e : c ≡ checked_of (first_of xs)) where
  pub part-refuses : {r : Refusal} → c ≡ Err r → first_of (xs ++ ys) ≡ refuse r.fault r.place
  part-refuses {r} d = part-refused xs ys r.fault r.place (judged_verdict (first_of xs) e d)

  pub part-passes : c ≡ passed → first_of (xs ++ ys) ≡ first_of ys
  part-passes d = part-clear xs ys (judged_clear (first_of xs) e d)

  pub then_refused : {r : Refusal} → c ≡ Err r → Err r ≡ checked_of (first_of (xs ++ ys))
  unfolding answer_of
  then_refused {r} d = rw (part-refuses d)

  pub then_rest : {d : Checked} → c ≡ passed → d ≡ checked_of (first_of ys) → d ≡ checked_of (first_of (xs ++ ys))
  then_rest f g = g ∙ ap checked_of (sym (part-passes f))

-- ---- the answer

module _ {A : Type 0} (refused : Refusal → A) (done : A) where
  pub answer-clear : {v : Verdict} → v ≡ clear → done ≡ answer_of refused done v
  unfolding answer_of
  answer-clear {v} e = rw e

  pub answer-refused : {v : Verdict} {r : Refusal} → v ≡ refuse r.fault r.place → refused r ≡ answer_of refused done v
  unfolding answer_of
  answer-refused {v} {r} e = rw e

  pub judged_refused : (v : Verdict) {c : Checked} {r : Refusal} → c ≡ checked_of v → c ≡ Err r → refused r ≡ answer_of refused done v
  judged_refused v {c} {r} e d = answer-refused (judged_verdict v e d)

  pub judged_done : (v : Verdict) {c : Checked} → c ≡ checked_of v → c ≡ passed → done ≡ answer_of refused done v
  judged_done v e d = answer-clear (judged_clear v e d)

-- ---- lent memory

module _ (done came : List ℕ) where
  pub left-clear : {v : Verdict} → v ≡ clear → done ≡ left v done came
  unfolding left
  left-clear {v} e = rw e

  pub left-refused : {v : Verdict} {k : Fault} {p : ℕ} → v ≡ refuse k p → came ≡ left v done came
  unfolding left
  left-refused {v} e = rw e

-- ---- the numbers

pub value_report_lem : (v : Verdict) (x : ℕ) → value_report (value_of v x) ≡ report_of v x
unfolding answer_of value_report report_of
value_report_lem clear x = refl
value_report_lem (refuse k p) x = refl

pub checked_report_lem : (v : Verdict) → checked_report (checked_of v) ≡ report_of v 0
unfolding answer_of checked_report report_of
checked_report_lem clear = refl
checked_report_lem (refuse k p) = refl

-- the clauses of a call's promise, from the first of them
pub value-promised : (v : Verdict) (x : ℕ) {r : Result ℕ Refusal} → r ≡ value_of v x → (r ≡ value_of v x) × (value_report r ≡ report_of v x)
value-promised v x e = (e, ap value_report e ∙ value_report_lem v x)

pub checked_promised : (v : Verdict) {r : Checked} → r ≡ checked_of v → (r ≡ checked_of v) × (checked_report r ≡ report_of v 0)
checked_promised v e = (e, ap checked_report e ∙ checked_report_lem v)
