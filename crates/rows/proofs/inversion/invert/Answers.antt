-- `rows::inversion::invert` meets its contract: the goals that the check leaves. Its loop is told in `Invariants.antt`. Assumes nothing.
use mathlib.Core.Path.{◌≡◌, refl, sym, ◌∙◌}
use Prim.Native.Nat.{ℕ, ◌^◌, ◌≤◌, ◌<◌}
use native.Mathlib.Nat.{lt_of_le_of_lt, lt_of_lt_of_le}
use native.Mathlib.Omega.{arith}
use borrow.Author.Rules.{rules}
use lib.Count.{count_trailing_zeros, trailing_le}
use lib.Pow.{pow_mono}
use lib.ListN.{length, get_or}
use Rattle.gf2.specs.Poly.{◌⊕◌}
use Rattle.gf2.specs.Limit.{limit}
use Rattle.rows.specs.Bits.{◌∩◌}
use Rattle.rows.specs.Sharing.{∩-lt, width-le}
use Rattle.rows.specs.Added.{length-placed}
use Rattle.rows.specs.Insertion.{Reduced, pivot_set, pivot_lt, insertion_start}
use Rattle.rows.proofs.Insertion.{row_reduced, row_dependent}
use Rattle.rows.proofs.Placing.{insertion_turn, insertion_end}
use Rattle.rows.proofs.inversion.invert.Goals.{After-sum-in-loop-k, After-width, At-loop-k, Else-rest-eq0}
use Rattle.rows.proofs.inversion.invert.Goals as goal

pub loop-k-init : goal.loop-k-init
loop-k-init c = (insertion_start c.args.rows c.args.n limit, refl, refl)

-- ---- the row is reduced

pivots-lt : (l : At-loop-k) → l.loop-k.pivots < 2 ^ limit
pivots-lt l = lt_of_lt_of_le l.loop-k.invariant.0.columns (pow_mono {j = limit} (omega arith))

-- the bits that the row and the pivots share pick among the rows
met-lt : (l : At-loop-k) → get_or l.args.rows l.loop-k.k 0 ∩ l.loop-k.pivots < 2 ^ limit
met-lt l = ∩-lt limit (get_or l.args.rows l.loop-k.k 0) l.loop-k.pivots (pivots-lt l)

pub sum-requires : goal.sum-requires
unfolding ◌∩◌
sum-requires c = met-lt (goal.at.sum-requires c).At-loop-k

pub sum-requires-in-loop-k : goal.sum-requires-in-loop-k
unfolding ◌∩◌
sum-requires-in-loop-k c = met-lt (goal.at.sum-requires-in-loop-k c).At-loop-k

-- where the sums are made, and the loop's head before them
abbrev head : After-sum-in-loop-k → At-loop-k
head d = d.before.before.before.before.before.before

abbrev rest : After-sum-in-loop-k → ℕ
rest d = get_or (head d).args.rows (head d).loop-k.k 0 ⊕ d.sum.result

abbrev name : After-sum-in-loop-k → ℕ
name d = d.power.result ⊕ d.sum-in-loop-k.result

reduced-row : (d : After-sum-in-loop-k) → let l = head d in
    Reduced l.args.rows l.args.n l.loop-k.k l.loop-k.names l.loop-k.pivots (rest d) (name d)
unfolding ◌∩◌
reduced-row d =
    let l = head d in
    row_reduced l.loop-k.invariant.0 l.requires.1.row_lt
    d.sum.result d.sum-in-loop-k.result d.power.result
    d.sum.ensures d.sum-in-loop-k.ensures d.power.ensures

-- ---- nothing is left of it

pub returns-then-rest-eq0 : goal.returns-then-rest-eq0
unfolding ◌⊕◌
returns-then-rest-eq0 c =
    let l = head (goal.at.returns-then-rest-eq0 c).After-sum-in-loop-k in
    row_dependent l.loop-k.invariant.0 l.requires.1.row_lt (reduced-row (goal.at.returns-then-rest-eq0 c).After-sum-in-loop-k) (omega arith) c.if-rest-eq0.true

-- ---- what is left goes in

pub overflow_cast-column : goal.overflow_cast-column
overflow_cast-column c = record { fits = lt_of_le_of_lt (trailing_le 64 _) (omega arith) }

column-lt : (e : Else-rest-eq0) → count_trailing_zeros 64 (rest e.before) < (head e.before).args.n
unfolding ◌⊕◌
column-lt e = pivot_lt 64 (reduced-row e.before) e.if-rest-eq0.false (omega arith)

count-le : (w : After-width) → w.width.result ≤ limit
count-le w =
    let l = head w.before.before.before.before in
    width-le _ w.width.result limit w.width.ensures.1 (omega (arith, pivots-lt l))

pub place-requires : goal.place-requires
unfolding ◌⊕◌
place-requires c =
    (count-le (goal.at.place-requires c).After-width, lt_of_lt_of_le (column-lt (goal.at.place-requires c).Else-rest-eq0) (omega arith))

pub power-pivots-requires : goal.power-pivots-requires
unfolding ◌⊕◌
power-pivots-requires c = lt_of_lt_of_le (column-lt (goal.at.power-pivots-requires c).Else-rest-eq0) (omega arith)

pub loop-k-preserved : goal.loop-k-preserved
unfolding ◌⊕◌
loop-k-preserved c =
    let l = head (goal.at.loop-k-preserved c).After-sum-in-loop-k in
    let i = l.loop-k.invariant in
    let r = reduced-row (goal.at.loop-k-preserved c).After-sum-in-loop-k in
    let m = c.width.result in
    let column = count_trailing_zeros 64 (rest (goal.at.loop-k-preserved c).After-sum-in-loop-k) in
    let p = c.place.ensures in (
      rw (p.rows, p.follow, c.power-pivots.ensures)
          (insertion_turn i.0 l.requires.1.row_lt r column m limit
          (pivot_set 64 r c.if-rest-eq0.false (omega arith)) c.width.ensures.0 i.1 i.2 (omega arith) (count-le (goal.at.loop-k-preserved c).After-width)),
      rw p.rows (length-placed column (rest (goal.at.loop-k-preserved c).After-sum-in-loop-k) l.loop-k.reduced l.loop-k.reduced m ∙ i.1),
      rw p.follow (length-placed column (name (goal.at.loop-k-preserved c).After-sum-in-loop-k) l.loop-k.reduced l.loop-k.names m ∙ i.2),
    )

-- ---- all rows are in

pub returns : goal.returns
returns c =
    let size : length c.args.rows ≡ limit = search rules in
    (insertion_end c.loop-k.invariant.0 c.requires.1.row_lt (omega arith), c.loop-k.invariant.2 ∙ sym size)
