-- `search::searching::search` meets its contract: it judges, and then walks from nothing.
-- Assumes nothing.
use mathlib.Core.Path.{ap₂, ◌∙◌}
use Prim.Native.Nat.{ℕ}
use native.Mathlib.Omega.{arith}
use Rattle.refusals.specs.Verdicts.{first_of}
use Rattle.refusals.specs.Answered.{answer-clear, answer-refused}
use Rattle.refusals.specs.declared.answer.Refusal.{Refusal}
use Rattle.search.specs.Search.{ranged, count_of}
use Rattle.search.specs.Answers.{search_order, search_answer, search_report}
use Rattle.search.specs.Joined.{nothing-joined}
use Rattle.search.specs.Orders.{search-promised}
use Rattle.search.proofs.Orders.{clear_range}
use Rattle.search.specs.declared.answer.Search.TheVariants.{Refused}
use Rattle.search.proofs.searching.search.Goals as goal

pub walk-requires : goal.walk-requires
unfolding count_of
walk-requires c =
    let r = c.in-Ok.ring in
    (rw (← c.in-Ok.ensures.0) at (clear_range c.args.f r.n c.args.first c.args.last c.in-Ok.ensures.1 c.in-Ok.ensures.2), omega arith)

pub returns-in-Err : goal.returns-in-Err
unfolding search_answer search_report
returns-in-Err c =
    let whole = search-promised (first_of (search_order c.args.f c.args.first c.args.last)) _
    (answer-refused (λ (r : Refusal). Refused r.fault) _ {r = c.in-Err.refusal} c.in-Err.ensures) in record { answer = whole.0; report = whole.1 }

pub returns-in-Ok : goal.returns-in-Ok
unfolding search_answer search_report
returns-in-Ok c =
    let whole = search-promised (first_of (search_order c.args.f c.args.first c.args.last)) _
    (c.from.ensures ∙ c.walk.ensures ∙ nothing-joined _ ∙ ap₂ (λ (f n : ℕ). ranged f n c.args.first c.args.last) c.in-Ok.ensures.0 c.in-Ok.ensures.1
    ∙ answer-clear (λ (r : Refusal). Refused r.fault) _ c.in-Ok.ensures.2) in record { answer = whole.0; report = whole.1 }
