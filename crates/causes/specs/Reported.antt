-- The numbers of a cause are those of the verdict: each case has the number and the place of the refusal that it lies behind.
--
--   why-promised, check-promised, build-promised   so what both clauses of a promise say follows from the first
--
-- Assumes nothing.
use Rattle.std.specs.Prelude.{◌≡◌, refl, List, [], ◌∷◌, ℕ, ◌*◌}
use Rattle.std.proofs.Common.{ap, ◌∙◌, inl, inr}
use Rattle.gf2.specs.Limit.{limit}
use Rattle.gf2.specs.Poly.{degree}
use Rattle.refusals.specs.declared.fault.Fault.{Fault}
use Rattle.refusals.specs.declared.fault.Fault.TheVariants as faults
use Rattle.refusals.specs.Verdicts.{fault_number, Rule, Verdict, clear, refuse, first_of}
use Rattle.refusals.specs.Told.{AtZero, Every}
use Rattle.refusals.specs.Telling.{same_fault, first_found, every_first, listed-at-zero}
use Rattle.field.specs.Refusals.{check_order}
use Rattle.sheet.specs.Record.{record_size, record_count}
use Rattle.sheet.specs.Orders.{build_order, read_order}
use Rattle.sheet.specs.Listed.{OnReading}
use Rattle.sheet.proofs.Listed.{read-listed}
use Rattle.causes.specs.Causes.{Reason, difference_in, polynomial_cause, basis_cause, sheet_cause, cause_of, cause_report, reason_of, why_answer, why_report, why_check_answer, why_check_report, why_build_answer, why_build_report}
use Rattle.causes.specs.declared.answer.Cause.{Cause}

-- the case behind a refusal has its number and its place
abbrev Kept : (Fault → ℕ → Cause) → Fault → ℕ → Type 0
Kept behind k p = ((cause_report (behind k p)).number ≡ fault_number k) × ((cause_report (behind k p)).place ≡ p)

-- a reason with the number k and the place p
placed : (r : Reason) (k p : ℕ) → r.number ≡ k → r.place ≡ p → r ≡ record { number = k; place = p; cause = r.cause; field = r.field; stored = r.stored; right = r.right }
placed r k p en ep = rw (← en, ← ep)

-- so has the case that an order's verdict gives
reported : (behind : Fault → ℕ → Cause) (P : ℕ → ℕ → Type 0) (rs : List Rule) → Every P rs → ((k : Fault) (p : ℕ) → P (fault_number k) p → Kept behind k p)
    → cause_report (cause_of (first_of rs) behind) ≡ reason_of (first_of rs) behind
unfolding cause_of reason_of cause_report
reported behind P rs all kept = go (first_of rs) refl
  where
    go : (v : Verdict) → first_of rs ≡ v → cause_report (cause_of v behind) ≡ reason_of v behind
    go clear e = refl
    go (refuse k p) e =
        let h = kept k p (every_first P rs (fault_number k) p all (first_found rs k p e)) in
        placed (cause_report (behind k p)) (fault_number k) p h.0 h.1

polynomial-kept : (f n : ℕ) (k : Fault) (p : ℕ) → AtZero (1 ∷ 2 ∷ 3 ∷ []) (fault_number k) p → Kept (polynomial_cause f n) k p
unfolding polynomial_cause cause_report
polynomial-kept f n k p (inl h, q) = rw (same_fault k faults.DegreeOutside h, q) (refl, refl)
polynomial-kept f n k p (inr (inl h), q) = rw (same_fault k faults.Divided h, q) (refl, refl)
polynomial-kept f n k p (inr (inr (inl h)), q) = rw (same_fault k faults.Strays h, q) (refl, refl)
polynomial-kept f n k p (inr (inr (inr h)), q) = absurd h

basis_kept : (f n a : ℕ) (k : Fault) (p : ℕ) → AtZero (1 ∷ 4 ∷ 6 ∷ 2 ∷ 3 ∷ 5 ∷ []) (fault_number k) p → Kept (basis_cause f n a) k p
unfolding basis_cause polynomial_cause cause_report
basis_kept f n a k p (inl h, q) = rw (same_fault k faults.DegreeOutside h, q) (refl, refl)
basis_kept f n a k p (inr (inl h), q) = rw (same_fault k faults.TooLarge h, q) (refl, refl)
basis_kept f n a k p (inr (inr (inl h)), q) = rw (same_fault k faults.NoRoom h, q) (refl, refl)
basis_kept f n a k p (inr (inr (inr (inl h))), q) = rw (same_fault k faults.Divided h, q) (refl, refl)
basis_kept f n a k p (inr (inr (inr (inr (inl h)))), q) = rw (same_fault k faults.Strays h, q) (refl, refl)
basis_kept f n a k p (inr (inr (inr (inr (inr (inl h))))), q) = rw (same_fault k faults.NotNormal h, q) (refl, refl)
basis_kept f n a k p (inr (inr (inr (inr (inr (inr h))))), q) = absurd h

sheet-kept : (sheet : List ℕ) (k : Fault) (p : ℕ) → OnReading (record_count sheet) (fault_number k) p → Kept (sheet_cause sheet) k p
unfolding sheet_cause basis_cause polynomial_cause cause_report difference_in
sheet-kept sheet k p (inl (inl h, q)) = rw (same_fault k faults.Divided h, q) (refl, refl)
sheet-kept sheet k p (inl (inr (inl h), q)) = rw (same_fault k faults.Strays h, q) (refl, refl)
sheet-kept sheet k p (inl (inr (inr (inl h)), q)) = rw (same_fault k faults.NotNormal h, q) (refl, refl)
sheet-kept sheet k p (inl (inr (inr (inr h)), q)) = absurd h
sheet-kept sheet k p (inr (inl (inl h, q))) = rw (same_fault k faults.Differs h) (refl, refl)
sheet-kept sheet k p (inr (inl (inr h, q))) = absurd h
sheet-kept sheet k p (inr (inr (inl (inl h, q)))) = rw (same_fault k faults.BadLength h, q) (refl, refl)
sheet-kept sheet k p (inr (inr (inl (inr h, q)))) = absurd h
sheet-kept sheet k p (inr (inr (inr (inl h, q)))) = rw (same_fault k faults.Misplaced h) (refl, refl)
sheet-kept sheet k p (inr (inr (inr (inr (inl h), q)))) = rw (same_fault k faults.Oversized h) (refl, refl)
sheet-kept sheet k p (inr (inr (inr (inr (inr h), q)))) = absurd h

-- ---- the clauses of a promise, from the first of them

pub why-promised : (sheet : List ℕ) {r : Cause} → r ≡ why_answer sheet → (r ≡ why_answer sheet) × (cause_report r ≡ why_report sheet)
unfolding why_answer why_report
why-promised sheet e = (e, ap cause_report e ∙ reported (sheet_cause sheet) (OnReading (record_count sheet)) (read_order sheet) (read-listed sheet) (sheet-kept sheet))

pub check-promised : (f : ℕ) {r : Cause} → r ≡ why_check_answer f → (r ≡ why_check_answer f) × (cause_report r ≡ why_check_report f)
unfolding why_check_answer why_check_report
check-promised f e =
    (e, ap cause_report e ∙ reported (polynomial_cause f (degree f)) (AtZero (1 ∷ 2 ∷ 3 ∷ [])) (check_order f) (listed-at-zero (check_order f) refl) (polynomial-kept f (degree f)))

pub build-promised : (f a : ℕ) {r : Cause} → r ≡ why_build_answer f a → (r ≡ why_build_answer f a) × (cause_report r ≡ why_build_report f a)
unfolding why_build_answer why_build_report
build-promised f a e =
    let order : List Rule = build_order f a (record_size * limit) in
    (e, ap cause_report e ∙ reported (basis_cause f (degree f) a) (AtZero (1 ∷ 4 ∷ 6 ∷ 2 ∷ 3 ∷ 5 ∷ [])) order (listed-at-zero order refl) (basis_kept f (degree f) a))
