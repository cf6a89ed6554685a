-- `rows::by_bytes::byte_table` meets its contract: the goals that the check leaves. Its loop is told in `Invariants.antt`. Assumes nothing.
use mathlib.Core.Path.{◌≡◌, refl, sym, ap, ◌∙◌}
use Prim.Native.Nat.{ℕ, ◌*◌, ◌≤◌}
use native.Mathlib.Omega.{arith}
use lib.ListN.{length, get_or, set, drop, length-set}
use lib.Pow.{pow_mono}
use lib.Seq.{get_or-drop}
use Rattle.rows.specs.Doubling.{tabled, tabled-length, tabled_turn}
use Rattle.rows.proofs.by_bytes.byte_table.Goals.{At-loop-t, In-loop-t}
use Rattle.rows.proofs.by_bytes.byte_table.Goals as goal

-- a row is left, and so the table is at most half full
tight : (c : In-loop-t) → c.loop-t.t ≤ 7
tight c = omega (arith, c.loop-t-test.true)

-- the list keeps its length
kept : (l : At-loop-t) → length l.loop-t.sums ≡ length l.args.sums.now
kept l =
    let s = l.args in
    ap length l.loop-t.invariant ∙ tabled-length (256 * s.j) (drop (8 * s.j) s.rows.now) (set s.sums.now (256 * s.j) 0) l.loop-t.t ∙ length-set s.sums.now (256 * s.j) 0

pub overflow_mul-at : goal.overflow_mul-at
overflow_mul-at c = omega (arith, c.requires)

pub offset_bounds-sums-at : goal.offset_bounds-sums-at
offset_bounds-sums-at c = omega (arith, c.requires)

pub bounds-sums-at : goal.bounds-sums-at
bounds-sums-at c = omega (arith, c.requires)

pub loop-t-init : goal.loop-t-init
unfolding tabled
loop-t-init c = refl

pub overflow_mul-j : goal.overflow_mul-j
overflow_mul-j c = omega (arith, c.requires)

pub overflow_add-j : goal.overflow_add-j
overflow_add-j c = omega (arith, c.requires)

pub double-requires : goal.double-requires
double-requires c =
    omega (arith, c.requires, c.power.ensures, pow_mono (tight (goal.at.double-requires c).In-loop-t), kept (goal.at.double-requires c).At-loop-t)

pub loop-t-preserved : goal.loop-t-preserved
loop-t-preserved c =
    let s = c.args in
    let row : c.row_at.result ≡ get_or (drop (8 * s.j) s.rows.now) c.loop-t.t 0 = c.row_at.ensures ∙ sym (get_or-drop (8 * s.j) s.rows.now c.loop-t.t 0) in
    tabled_turn (256 * s.j) (drop (8 * s.j) s.rows.now) (set s.sums.now (256 * s.j) 0) c.loop-t.t c.loop-t.sums _ c.power.result c.row_at.result c.power.ensures row c.loop-t.invariant c.double.ensures

pub shape_of-sums : goal.shape_of-sums
shape_of-sums c = kept (goal.at.shape_of-sums c).At-loop-t

pub returns : goal.returns
returns c =
    let s = c.args in
    let e : c.loop-t.t ≡ 8 = omega arith in
    c.loop-t.invariant ∙ ap (λ (t : ℕ). tabled t (256 * s.j) (drop (8 * s.j) s.rows.now) (set s.sums.now (256 * s.j) 0)) e
