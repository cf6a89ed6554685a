-- `search::walking::is_trace_leader` meets its contract: the two tests are the definition's.
-- Assumes nothing.
use mathlib.Core.Path.{sym, ap₂, ◌∙◌}
use Prim.Native.Nat.{ℕ}
use Rattle.search.specs.Search.{leader}
use Rattle.search.specs.Begun.{trace-leader_with, trace-leader_without}
use Rattle.search.proofs.walking.is_trace_leader.Goals as goal

pub is_leader-requires : goal.is_leader-requires
is_leader-requires c = rw c.requires.of_squares.1 c.requires.element

pub returns-then-has_trace : goal.returns-then-has_trace
returns-then-has_trace c =
    let m = c.args.m in
    let same = c.requires.of_squares in
    c.is_leader.ensures ∙ ap₂ (λ (f n : ℕ). leader f n c.args.a) same.0 same.1
    ∙ trace-leader_with m.f m.n c.args.a (sym c.has_trace.ensures ∙ c.if-has_trace.true)

pub returns-else-has_trace : goal.returns-else-has_trace
returns-else-has_trace c =
    let m = c.args.m in
    c.if-has_trace.false ∙ trace-leader_without m.f m.n c.args.a (sym c.has_trace.ensures ∙ c.if-has_trace.false)
