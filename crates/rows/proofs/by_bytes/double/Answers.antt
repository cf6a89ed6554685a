-- `rows::by_bytes::double` meets its contract: the goals that the check leaves. Its loop is told in `Invariants.antt`. Assumes nothing.
use mathlib.Core.Path.{◌≡◌, refl, ap, ◌∙◌}
use Prim.Native.Nat.{ℕ}
use native.Mathlib.Omega.{arith}
use lib.ListN.{length}
use Rattle.gf2.specs.Poly.{◌⊕◌}
use Rattle.rows.specs.Doubling.{doubled, doubled-length, doubled_turn}
use Rattle.rows.proofs.by_bytes.double.Goals.{At-loop-b}
use Rattle.rows.proofs.by_bytes.double.Goals as goal

-- the list keeps its length
kept : (l : At-loop-b) → length l.loop-b.sums ≡ length l.args.sums.now
kept l =
    let s = l.args in
    ap length l.loop-b.invariant ∙ doubled-length s.at s.count s.row s.sums.now l.loop-b.b

pub loop-b-init : goal.loop-b-init
unfolding doubled
loop-b-init c = refl

pub overflow_add-sums : goal.overflow_add-sums
overflow_add-sums c = omega (arith, c.requires, kept (goal.at.overflow_add-sums c).At-loop-b)

pub offset_bounds-sums-at : goal.offset_bounds-sums-at
offset_bounds-sums-at c = omega (arith, c.requires, kept (goal.at.offset_bounds-sums-at c).At-loop-b)

pub bounds-sums-at : goal.bounds-sums-at
bounds-sums-at c = omega (arith, c.requires, kept (goal.at.bounds-sums-at c).At-loop-b)

pub overflow_add-sums-in-loop-b : goal.overflow_add-sums-in-loop-b
overflow_add-sums-in-loop-b c = omega (arith, c.requires, kept (goal.at.overflow_add-sums-in-loop-b c).At-loop-b)

pub overflow_add-sums-in-loop-b-2 : goal.overflow_add-sums-in-loop-b-2
overflow_add-sums-in-loop-b-2 c = omega (arith, c.requires, kept (goal.at.overflow_add-sums-in-loop-b-2 c).At-loop-b)

pub offset_bounds-sums-at-in-loop-b : goal.offset_bounds-sums-at-in-loop-b
offset_bounds-sums-at-in-loop-b c = omega (arith, c.requires, kept (goal.at.offset_bounds-sums-at-in-loop-b c).At-loop-b)

pub bounds-sums-at-in-loop-b : goal.bounds-sums-at-in-loop-b
bounds-sums-at-in-loop-b c = omega (arith, c.requires, kept (goal.at.bounds-sums-at-in-loop-b c).At-loop-b)

pub loop-b-preserved : goal.loop-b-preserved
unfolding ◌⊕◌
loop-b-preserved c =
    let s = c.args in
    doubled_turn s.at s.count s.row s.sums.now c.loop-b.b c.loop-b.sums c.loop-b.invariant

pub shape_of-sums : goal.shape_of-sums
shape_of-sums c = kept (goal.at.shape_of-sums c).At-loop-b

pub returns : goal.returns
returns c =
    let s = c.args in
    c.loop-b.invariant ∙ ap (λ (m : ℕ). doubled m s.at s.count s.row s.sums.now) (omega arith)
