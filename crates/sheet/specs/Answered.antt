-- The answers of build and reading, by their verdict: what both clauses of a promise say follows from the first, and what a done
-- answer says of a sheet.
-- What of this a wrong definition breaks, and what rests on that, stands in `proofs/Answered.antt`.
-- Assumes nothing.
use Rattle.std.specs.Prelude.{◌≡◌, refl, ℕ}
use Rattle.std.proofs.Common.{ap, ◌∙◌, arith}
use Rattle.refusals.specs.Verdicts.{Verdict, clear, refuse}
use Rattle.refusals.specs.Answers.{answer_of}
use Rattle.refusals.specs.declared.answer.Refusal.{Refusal}
use Rattle.sheet.specs.Answers.{issue_of, issued_of, issued_report}
use Rattle.sheet.specs.declared.answer.Summary.{Summary}
use Rattle.std.specs.Prelude.{Result, Ok, Err}

pub issued_report_lem : (v : Verdict) (s : Summary) → issued_report (issued_of v s) ≡ issue_of v s
unfolding answer_of issued_report issue_of
issued_report_lem clear s = refl
issued_report_lem (refuse k p) s = refl

pub issued_promised : (v : Verdict) (s : Summary) {r : Result Summary Refusal} → r ≡ issued_of v s → (r ≡ issued_of v s) × (issued_report r ≡ issue_of v s)
issued_promised v s e = (e, ap issued_report e ∙ issued_report_lem v s)

-- a verdict that issues is clear
pub done-clear : (v : Verdict) (s t : Summary) → issued_of v s ≡ Ok t → v ≡ clear
unfolding answer_of
done-clear clear s t e = refl
done-clear (refuse k p) s t e = let z : ◌≡◌ {A = ℕ} 0 1 = cc in absurd (omega arith)

-- and one that refuses has the number and the place of its answer
pub refused_verdict : (v : Verdict) (s : Summary) {r : Refusal} → issued_of v s ≡ Err r → v ≡ refuse r.fault r.place
unfolding answer_of
refused_verdict clear s e = let z : ◌≡◌ {A = ℕ} 0 1 = cc in absurd (omega arith)
refused_verdict (refuse k p) s e = cc
