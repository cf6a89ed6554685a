-- The causes that check and build tell are true too: of the polynomial, and of the polynomial and the element, that they are given.
--
--   CheckTrue f c     what the cause c says of f and of check's answer for it; `check_true`: `why_check` tells such a cause
--   BuildTrue f a c   what it says of f, a and build's answer for them; `build_true`: `why_build` tells such a cause
--
-- Assumes nothing.
use Rattle.std.specs.Prelude.{◌≡◌, ◌⊎◌, List, [], ◌∷◌, ℕ, ◌*◌}
use Rattle.std.proofs.Math.Path.{refl}
use Rattle.std.proofs.Common.{sym, ◌∙◌, inl, inr, arith, ltb-true}
use Rattle.gf2.specs.Limit.{limit}
use Rattle.gf2.specs.Poly.{degree}
use Rattle.refusals.specs.Verdicts.{fault_number, Verdict, clear, refuse, first_of}
use Rattle.refusals.specs.Answers.{refusal_at, answer_of}
use Rattle.refusals.specs.Told.{AtZero}
use Rattle.refusals.specs.Telling.{same_fault, first_found, every_first, listed-at-zero, absent_lacks, rule-applies}
use Rattle.field.specs.Accepted.{InRange, Operand}
use Rattle.field.specs.Answers.{check_answer}
use Rattle.field.specs.Field.{squared}
use Rattle.field.proofs.Orders.{operand_judged}
use Rattle.field.specs.Refusals.{operand_order, check_order}
use Rattle.rows.specs.Rows.{Dependency}
use Rattle.normal.specs.Normal.{conjugates}
use Rattle.sheet.specs.Record.{record_size}
use Rattle.sheet.specs.Orders.{room_rule, basis_order, build_order}
use Rattle.sheet.specs.Answers.{summary_of, build_answer}
use Rattle.causes.specs.Causes.{polynomial_cause, basis_cause, cause_of, why_check_answer, why_build_answer}
use Rattle.causes.specs.Behind.{check_range, check-divided, check-strays, build-operand, build-divided, build-strays, build_dependent}
use Rattle.causes.specs.Cases.{polynomial-alone, basis_alone}
use Rattle.causes.specs.True.{SmallestDivisor, divisor_true, became_true, dependency_true}
use Rattle.causes.specs.declared.answer.Cause.{Cause}
use Rattle.causes.specs.declared.answer.Cause.TheVariants as cause
use Rattle.std.specs.Prelude.{Ok, Err}
use Rattle.refusals.specs.declared.fault.Fault.TheVariants as faults
use Rattle.refusals.specs.Answers.{passed}
use Rattle.refusals.specs.declared.fault.Fault.{Fault}

-- ---- check

abbrev pub CheckTrue : (f : ℕ) → Cause → Type 0
CheckTrue f cause.Accepted = check_answer f ≡ passed
CheckTrue f (cause.Refused r) = (check_answer f ≡ Err r) × (fault_number r.fault ≡ 1)
CheckTrue f (cause.Divisor d) = (check_answer f ≡ Err (refusal_at faults.Divided 0)) × SmallestDivisor f (degree f) d
CheckTrue f (cause.Became y) = (check_answer f ≡ Err (refusal_at faults.Strays 0)) × ((y ≡ squared f (degree f) (degree f) 2) × (y ≡ 2 → ⊥))
CheckTrue f (cause.Dependency v) = ⊥
CheckTrue f (cause.Differs d) = ⊥

module _ (f : ℕ) where
  abbrev n : ℕ
  n = degree f

  refuses : (k : Fault) (p : ℕ) → first_of (check_order f) ≡ refuse k p → check_answer f ≡ Err (refusal_at k p)
  unfolding check_answer answer_of
  refuses k p e = rw e

  behind : (k : Fault) (p : ℕ) → first_of (check_order f) ≡ refuse k p → why_check_answer f ≡ polynomial_cause f (degree f) k p
  unfolding why_check_answer cause_of
  behind k p e = rw e

  of_degree : first_of (check_order f) ≡ refuse faults.DegreeOutside 0 → CheckTrue f (why_check_answer f)
  of_degree e =
      let w : why_check_answer f ≡ cause.Refused (refusal_at faults.DegreeOutside 0) = behind faults.DegreeOutside 0 e ∙ sym (polynomial-alone f n (refusal_at faults.DegreeOutside 0) (λ t. omega arith) (λ t. omega arith)) in
      rw w (refuses faults.DegreeOutside 0 e, refl)

  of_divisor : first_of (check_order f) ≡ refuse faults.Divided 0 → CheckTrue f (why_check_answer f)
  unfolding polynomial_cause
  of_divisor e =
      let r : InRange f n = check_range f n faults.Divided 0 refl e (λ t. omega arith) in
      rw (behind faults.Divided 0 e) (refuses faults.Divided 0 e, divisor_true f n r.is_degree r.two (check-divided f 0 e))

  of_became : first_of (check_order f) ≡ refuse faults.Strays 0 → CheckTrue f (why_check_answer f)
  unfolding polynomial_cause
  of_became e =
      let r : InRange f n = check_range f n faults.Strays 0 refl e (λ t. omega arith) in
      rw (behind faults.Strays 0 e) (refuses faults.Strays 0 e, (refl, became_true f n r.is_degree r.two (check-strays f 0 e)))

  pub check_true : CheckTrue f (why_check_answer f)
  check_true = go (first_of (check_order f)) refl
    where
      placed : (k : Fault) (p : ℕ) → AtZero (1 ∷ 2 ∷ 3 ∷ []) (fault_number k) p → first_of (check_order f) ≡ refuse k p → CheckTrue f (why_check_answer f)
      placed k p (inl h, q) e = of_degree (rw (same_fault k faults.DegreeOutside h, q) at e)
      placed k p (inr (inl h), q) e = of_divisor (rw (same_fault k faults.Divided h, q) at e)
      placed k p (inr (inr (inl h)), q) e = of_became (rw (same_fault k faults.Strays h, q) at e)
      placed k p (inr (inr (inr h)), q) e = absurd h

      accepted : first_of (check_order f) ≡ clear → CheckTrue f (why_check_answer f)
      accepted e =
          let w : why_check_answer f ≡ cause.Accepted = unfold why_check_answer cause_of in rw e in
          rw w (unfold check_answer answer_of in rw e)

      go : (v : Verdict) → first_of (check_order f) ≡ v → CheckTrue f (why_check_answer f)
      go clear e = accepted e
      go (refuse k p) e = placed k p (every_first (AtZero (1 ∷ 2 ∷ 3 ∷ [])) (check_order f) (fault_number k) p (listed-at-zero (check_order f) refl) (first_found (check_order f) k p e)) e

-- ---- build, with room for every sheet

abbrev room : ℕ
room = record_size * limit

abbrev pub BuildTrue : (f a : ℕ) → Cause → Type 0
BuildTrue f a cause.Accepted = build_answer f a (record_size * limit) ≡ Ok (summary_of f (degree f) a)
BuildTrue f a (cause.Refused r) = (build_answer f a (record_size * limit) ≡ Err r) × ((fault_number r.fault ≡ 1) ⊎ (fault_number r.fault ≡ 4))
BuildTrue f a (cause.Divisor d) = (build_answer f a (record_size * limit) ≡ Err (refusal_at faults.Divided 0)) × SmallestDivisor f (degree f) d
BuildTrue f a (cause.Became y) =
    (build_answer f a (record_size * limit) ≡ Err (refusal_at faults.Strays 0)) × ((y ≡ squared f (degree f) (degree f) 2) × (y ≡ 2 → ⊥))
BuildTrue f a (cause.Dependency v) = (build_answer f a (record_size * limit) ≡ Err (refusal_at faults.NotNormal 0)) × Dependency (conjugates f (degree f) a) (degree f) v
BuildTrue f a (cause.Differs d) = ⊥

module _ (f a : ℕ) where
  build-refuses : (k : Fault) (p : ℕ) → first_of (build_order f a room) ≡ refuse k p → build_answer f a room ≡ Err (refusal_at k p)
  unfolding build_answer answer_of
  build-refuses k p e = rw e

  build-behind : (k : Fault) (p : ℕ) → first_of (build_order f a room) ≡ refuse k p → why_build_answer f a ≡ basis_cause f (degree f) a k p
  unfolding why_build_answer cause_of
  build-behind k p e = rw e

  operand : (k : Fault) → (fault_number k ≡ 1 → ⊥) → (fault_number k ≡ 4 → ⊥) → first_of (build_order f a room) ≡ refuse k 0 → Operand f (degree f) a
  operand k one four e = build-operand f a room (degree f) k 0 refl e one four

  of_operands : (k : Fault) → (fault_number k ≡ 1) ⊎ (fault_number k ≡ 4) → first_of (build_order f a room) ≡ refuse k 0 → BuildTrue f a (why_build_answer f a)
  of_operands k h e =
      let w : why_build_answer f a ≡ cause.Refused (refusal_at k 0) = build-behind k 0 e ∙ sym (basis_alone f (degree f) (refusal_at k 0) a h) in
      rw w (build-refuses k 0 e, h)

  -- the room is enough for every degree that passes 1
  roomy : first_of (build_order f a room) ≡ refuse faults.NoRoom 0 → ⊥
  roomy e =
      let rest : List _ = basis_order f (degree f) a in
      let x = rule-applies (operand_order f (a ∷ [])) (room_rule (degree f) room) rest 0 refl (absent_lacks 6 rest refl) e in
      let o : Operand f (degree f) a = operand_judged f (degree f) a refl x.0 in
      omega (arith, ltb-true room (record_size * degree f) x.1, o.in_range.most)

  build_of_divisor : first_of (build_order f a room) ≡ refuse faults.Divided 0 → BuildTrue f a (why_build_answer f a)
  unfolding basis_cause polynomial_cause
  build_of_divisor e =
      let r = (operand faults.Divided (λ t. omega arith) (λ t. omega arith) e).in_range in
      rw (build-behind faults.Divided 0 e) (build-refuses faults.Divided 0 e, divisor_true f (degree f) r.is_degree r.two (build-divided f a room 0 e))

  build_of_became : first_of (build_order f a room) ≡ refuse faults.Strays 0 → BuildTrue f a (why_build_answer f a)
  unfolding basis_cause polynomial_cause
  build_of_became e =
      let r = (operand faults.Strays (λ t. omega arith) (λ t. omega arith) e).in_range in
      rw (build-behind faults.Strays 0 e) (build-refuses faults.Strays 0 e, (refl, became_true f (degree f) r.is_degree r.two (build-strays f a room 0 e)))

  build_of_dependency : first_of (build_order f a room) ≡ refuse faults.NotNormal 0 → BuildTrue f a (why_build_answer f a)
  unfolding basis_cause
  build_of_dependency e =
      let o = operand faults.NotNormal (λ t. omega arith) (λ t. omega arith) e in
      rw (build-behind faults.NotNormal 0 e) (build-refuses faults.NotNormal 0 e, dependency_true f (degree f) o.in_range.is_degree o.in_range.two a o.small (build_dependent f a room 0 e))

  pub build_true : BuildTrue f a (why_build_answer f a)
  build_true = go (first_of (build_order f a room)) refl
    where
      placed : (k : Fault) (p : ℕ) → AtZero (1 ∷ 4 ∷ 6 ∷ 2 ∷ 3 ∷ 5 ∷ []) (fault_number k) p → first_of (build_order f a room) ≡ refuse k p → BuildTrue f a (why_build_answer f a)
      placed k p (inl h, q) e = of_operands k (inl h) (rw q at e)
      placed k p (inr (inl h), q) e = of_operands k (inr h) (rw q at e)
      placed k p (inr (inr (inl h)), q) e = absurd (roomy (rw (same_fault k faults.NoRoom h, q) at e))
      placed k p (inr (inr (inr (inl h))), q) e = build_of_divisor (rw (same_fault k faults.Divided h, q) at e)
      placed k p (inr (inr (inr (inr (inl h)))), q) e = build_of_became (rw (same_fault k faults.Strays h, q) at e)
      placed k p (inr (inr (inr (inr (inr (inl h))))), q) e = build_of_dependency (rw (same_fault k faults.NotNormal h, q) at e)
      placed k p (inr (inr (inr (inr (inr (inr h))))), q) e = absurd h

      accepted : first_of (build_order f a room) ≡ clear → BuildTrue f a (why_build_answer f a)
      accepted e =
          let w : why_build_answer f a ≡ cause.Accepted = unfold why_build_answer cause_of in rw e in
          rw w (unfold build_answer answer_of in rw e)

      go : (v : Verdict) → first_of (build_order f a room) ≡ v → BuildTrue f a (why_build_answer f a)
      go clear e = accepted e
      go (refuse k p) e =
          placed k p (every_first (AtZero (1 ∷ 4 ∷ 6 ∷ 2 ∷ 3 ∷ 5 ∷ [])) (build_order f a room) (fault_number k) p (listed-at-zero (build_order f a room) refl) (first_found (build_order f a room) k p e)) e
