-- Laws of the search's order: what a path through its conditions finds, what it leaves where none of them applies, and how that gives the
-- answer with its numbers. What the call answers for an accepted f and over adjoining ranges: `Searched`.
-- What of this a wrong definition breaks, and what rests on that, stands in `proofs/Orders.antt`.
-- Assumes nothing.
use Rattle.std.specs.Prelude.{◌≡◌, refl, false, ℕ}
use Rattle.std.proofs.Common.{ap, ◌∙◌}
use Rattle.gf2.specs.Poly.{degree}
use Rattle.refusals.specs.Verdicts.{Verdict, clear, refuse, first_of}
use Rattle.refusals.specs.Answers.{answer_of}
use Rattle.field.specs.Accepted.{degree_outside, Accepted}
use Rattle.field.specs.Refusals.{field_order}
use Rattle.field.specs.Orders.{in_range}
use Rattle.field.specs.Checked.{field_accepts, accepted-irreducible, accepted-returns}
use Rattle.elements.specs.Fields.{FieldOf}
use Rattle.search.specs.Answers.{search_of, case_report, report_of}
use Rattle.search.specs.declared.answer.Search.{Search}

-- ---- the answers

search_report_lem : (v : Verdict) (x : Search) → case_report (search_of v x) ≡ report_of v x
unfolding answer_of case_report report_of
search_report_lem clear x = refl
search_report_lem (refuse k p) x = refl

-- the clauses of the promise, from the first of them
pub search-promised : (v : Verdict) (x : Search) {r : Search} → r ≡ search_of v x → (r ≡ search_of v x) × (case_report r ≡ report_of v x)
search-promised v x e = (e, ap case_report e ∙ search_report_lem v x)

-- ---- what the order leaves where none of its conditions applies

-- conditions 1, 2 and 3 leave a field
pub clear-field : (f n : ℕ) → n ≡ degree f → degree_outside f ≡ false → first_of (field_order f) ≡ clear → FieldOf f n
clear-field f n en inside e =
    let accepted : Accepted f = (field_accepts f inside).0 e in
    let d = in_range f n en inside in
    record {
      two = d.two;
      most = d.most;
      is_degree = d.is_degree;
      irreducible = accepted-irreducible f accepted;
      returns = rw en (accepted-returns f accepted);
    }
