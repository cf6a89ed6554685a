-- `search::walking::walk_on` meets its contract: the goals that the check leaves. Its loop is told in `Invariants.antt`. Assumes nothing.
use mathlib.Core.Path.{◌≡◌, sym, ap, ◌∙◌}
use mathlib.Core.Bool.{false}
use Prim.Native.Nat.{ℕ, ◌^◌, ◌<◌}
use native.Mathlib.Omega.{arith}
use Rattle.elements.specs.Fields.{FieldOf}
use Rattle.search.specs.Search.{joined, candidate_of}
use Rattle.search.specs.Joined.{joined-nothing}
use Rattle.search.specs.Joining.{as_answer}
use Rattle.search.specs.Walks.{candidate_none}
use Rattle.search.specs.Begun.{trace_leader, next-done, trace-leader-leads, not_trace-leader}
use Rattle.search.specs.declared.answer.Search.{Search}
use Rattle.search.proofs.Begun.{next_start, next_turn, next-count}
use Rattle.search.proofs.walking.walk_on.Goals.{then-is_trace_leader, else-is_trace_leader}
use Rattle.search.proofs.walking.walk_on.Goals as goal

pub loop-y-init : goal.loop-y-init
loop-y-init c =
    let m = c.args.tables.now.modulus in
    (c.requires.0.within, c.requires.1, next_start m.f m.n c.args.next (as_answer c.args.held))

pub is_trace_leader-requires : goal.is_trace_leader-requires
is_trace_leader-requires c =
    record { of_squares = c.args.tables.now.of_squares; element = omega (arith, c.requires.0.elements, c.loop-y-test.true) }

pub join_next-found-requires : goal.join_next-found-requires
join_next-found-requires c =
    let m = c.args.tables.now.modulus in
    record {
      element = omega (arith, c.requires.0.elements, c.loop-y-test.true);
      leads = trace-leader-leads m.f m.n c.loop-y.y (sym c.is_trace_leader.ensures ∙ c.if-is_trace_leader.true);
      counts = c.loop-y.invariant.1;
    }

-- an element that is no leader of trace 1 adds nothing
skipped : (f n y : ℕ) → FieldOf f n → y < 2 ^ n → trace_leader f n y ≡ false → (x z : Search) → z ≡ x → z ≡ joined x (candidate_of f n y)
skipped f n y s below e x z ez =
    ez ∙ sym (ap (joined x) (candidate_none f n y (not_trace-leader f n y s below e)) ∙ joined-nothing x)

pub loop-y-preserved : goal.loop-y-preserved
loop-y-preserved c =
    let m = c.args.tables.now.modulus in
    let l = c.loop-y in
    let found = as_answer c.if-is_trace_leader.found in
    let below : l.y < 2 ^ m.n = omega (arith, c.requires.0.elements, c.loop-y-test.true) in
    let more : found ≡ joined (as_answer l.found) (candidate_of m.f m.n l.y) =
    elim c.if-is_trace_leader.branch [
      | then-is_trace_leader w ↦ ap as_answer w.found-is ∙ w.join_next-found.ensures
      | else-is_trace_leader w ↦ skipped m.f m.n l.y m.of_field below (sym c.is_trace_leader.ensures ∙ w.if-is_trace_leader.false) (as_answer l.found) found (ap as_answer w.found-is)
    ] in (
      omega (arith, c.loop-y-test.true),
      next-count m.f m.n c.args.next l.y l.auto.y (as_answer c.args.held) (as_answer l.found) found more l.invariant.1,
      next_turn m.f m.n c.args.next l.y l.auto.y (as_answer c.args.held) (as_answer l.found) found more l.invariant.2,
    )

pub returns : goal.returns
returns c =
    let m = c.args.tables.now.modulus in
    let l = c.loop-y in
    next-done m.f m.n c.args.next c.args.last l.y (as_answer c.args.held) (as_answer l.found) l.invariant.0 (omega (arith, c.loop-y-test.false)) l.invariant.2
