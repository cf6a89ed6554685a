-- `search::leader::is_leader` meets its contract: the goals that the check leaves. Its loop is told in `Invariants.antt`. Assumes nothing.
use mathlib.Core.Path.{◌≡◌, sym, ap, ◌∙◌}
use mathlib.Core.Logic.{⊎_elim}
use Prim.Native.Nat.{ℕ, ◌+◌, ◌-◌, ◌≤◌, ◌<◌}
use native.Mathlib.Nat.{le_refl}
use native.Mathlib.Omega.{arith}
use Rattle.gf2.specs.Numbers.{order}
use Rattle.field.specs.Field.{squared}
use Rattle.field.specs.Frobenius.{squared_start, squared-lt, squared_turn}
use Rattle.search.specs.Leaders.{leader-means, not_leader}
use Rattle.search.proofs.leader.is_leader.Goals.{After-square-y}
use Rattle.search.proofs.leader.is_leader.Goals as goal

start : (f n a j : ℕ) → j < 1 → a ≤ squared f n j a
start f n a j h = let e : j ≡ 0 = omega arith in rw (e, ← squared_start f n a) (le_refl a)

passed : (f n i a z : ℕ) → z ≡ squared f n i a → a ≤ z → ((j : ℕ) → j < i → a ≤ squared f n j a) → (j : ℕ) → j < i + 1 → a ≤ squared f n j a
passed f n i a z e h all j l =
    ⊎_elim (λ (u : j < i). all j u) (λ (u : i ≤ j). let s : j ≡ i = omega arith in rw (s, ← e) h) (order j i)

pub loop-i-init : goal.loop-i-init
loop-i-init c =
    let s = c.args.squares.now in
    (omega arith, squared_start s.f s.n c.args.a, start s.f s.n c.args.a)

pub square-y-requires : goal.square-y-requires
square-y-requires c =
    let s = c.args.squares.now in
    rw c.loop-i.invariant.1 (squared-lt s.f s.n s.of_field.is_degree (c.loop-i.i - 1) c.args.a c.requires)

-- y is the next conjugate
turned : (t : After-square-y) → t.square-y.result ≡ squared t.args.squares.now.f t.args.squares.now.n t.loop-i.i t.args.a
turned t =
    let s = t.args.squares.now in
    let e : t.loop-i.i - 1 + 1 ≡ t.loop-i.i = omega (arith, t.loop-i.invariant.0) in
    squared_turn s.f s.n s.of_field.is_degree (t.loop-i.i - 1) t.args.a t.loop-i.y t.square-y.result t.loop-i.invariant.1 t.square-y.ensures
    ∙ ap (λ (k : ℕ). squared s.f s.n k t.args.a) e

pub loop-i-preserved : goal.loop-i-preserved
loop-i-preserved c =
    let s = c.args.squares.now in
    let e = turned (goal.at.loop-i-preserved c).After-square-y in
    let same : c.loop-i.i ≡ c.loop-i.i + 1 - 1 = omega arith in
    (omega arith, e ∙ ap (λ (k : ℕ). squared s.f s.n k c.args.a) same, passed s.f s.n c.loop-i.i c.args.a c.square-y.result e c.if-y-a.false c.loop-i.invariant.2)

pub returns-then-y-a : goal.returns-then-y-a
returns-then-y-a c =
    let s = c.args.squares.now in
    sym (not_leader s.f s.n c.args.a c.loop-i.i c.loop-i-test.true (rw (turned (goal.at.returns-then-y-a c).After-square-y) at c.if-y-a.true))

pub returns-after-loop-i : goal.returns-after-loop-i
returns-after-loop-i c =
    let s = c.args.squares.now in
    sym ((leader-means s.f s.n c.args.a).1 (λ i h. c.loop-i.invariant.2 i (omega (arith, c.loop-i-test.false))))
