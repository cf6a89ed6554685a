-- `search::walking::first_normal` meets its contract: the goals that the check leaves. Its loop is told in `Invariants.antt`. Assumes nothing.
use mathlib.Core.Path.{◌≡◌, sym, ap, ◌∙◌}
use mathlib.Core.Bool.{false}
use Prim.Native.Nat.{ℕ, ◌+◌, ◌-◌, ◌^◌, ◌≤◌, ◌<◌}
use native.Mathlib.Omega.{arith}
use Rattle.search.specs.Search.{normal_leader, walked}
use Rattle.search.specs.Walks.{normal-leader, not_normal}
use Rattle.search.specs.Begun.{FirstFrom, trace-leader-leads, not_trace-leader}
use Rattle.search.specs.declared.answer.Search.TheVariants.{Nothing}
use Rattle.search.proofs.Begun.{walked_start, first_turn}
use Rattle.search.proofs.walking.first_normal.Goals.{else-is_trace_leader-via-then-is_trace_leader+else-is_normal, else-is_trace_leader-via-else-is_trace_leader}
use Rattle.search.proofs.walking.first_normal.Goals as goal

pub loop-a-init : goal.loop-a-init
loop-a-init c =
    let s = c.args.m in
    (c.requires.part.within, walked_start s.f s.n c.args.first)

pub is_trace_leader-requires : goal.is_trace_leader-requires
is_trace_leader-requires c =
    record { of_squares = c.requires.of_squares; element = omega (arith, c.requires.part.elements, c.loop-a-test.true) }

pub is_normal-requires : goal.is_normal-requires
is_normal-requires c = (omega (arith, c.requires.part.elements, c.loop-a-test.true))

pub returns-then-is_normal : goal.returns-then-is_normal
returns-then-is_normal c =
    let s = c.args.m in (
      omega (arith, c.loop-a-test.true),
      record {
        since = c.loop-a.auto.a;
        upto = c.loop-a.invariant.0;
        none = c.loop-a.invariant.1;
        passes = λ h. normal-leader s.f s.n c.loop-a.a (trace-leader-leads s.f s.n c.loop-a.a (sym c.is_trace_leader.ensures ∙ c.if-is_trace_leader.true))
            (sym c.is_normal.ensures ∙ c.if-is_normal.true);
      },
    )

pub loop-a-preserved : goal.loop-a-preserved
loop-a-preserved c =
    let s = c.args.m in
    let below : c.loop-a.a < 2 ^ s.n = omega (arith, c.requires.part.elements, c.loop-a-test.true) in
    let fails : normal_leader s.f s.n c.loop-a.a ≡ false =
    elim c.else-is_trace_leader.branch [
      | else-is_trace_leader-via-then-is_trace_leader+else-is_normal w ↦ not_normal s.f s.n c.loop-a.a
          (trace-leader-leads s.f s.n c.loop-a.a (sym c.is_trace_leader.ensures ∙ w.if-is_trace_leader.true)) (sym w.is_normal.ensures ∙ w.if-is_normal.false)
      | else-is_trace_leader-via-else-is_trace_leader w ↦ not_trace-leader s.f s.n c.loop-a.a s.of_field below (sym c.is_trace_leader.ensures ∙ w.if-is_trace_leader.false)
    ] in
    (omega (arith, c.loop-a-test.true), first_turn s.f s.n c.args.first c.loop-a.a c.loop-a.auto.a c.loop-a.invariant.1 fails)

-- no normal leader is there, as the walk has passed last
past : (f n first last a : ℕ) → first ≤ last + 1 → a ≡ last + 1 → walked f n first (a - first) ≡ Nothing → FirstFrom f n (normal_leader f n) first last (last + 1)
past f n first last a p e none =
    record {
      since = p;
      upto = omega arith;
      none = ap (λ (x : ℕ). walked f n first (x - first)) (sym e) ∙ none;
      passes = λ h. absurd (omega (arith, h));
    }

pub returns : goal.returns
returns c =
    let s = c.args.m in
    past s.f s.n c.args.first c.args.last c.loop-a.a c.requires.part.within (omega (arith, c.loop-a.invariant.0, c.loop-a-test.false)) c.loop-a.invariant.1
