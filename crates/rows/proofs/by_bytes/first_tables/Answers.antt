-- `rows::by_bytes::first_tables` meets its contract: the goals that the check leaves. Its loop is told in `Invariants.antt`. Assumes nothing.
use Rattle.std.proofs.Common.{◌≡◌, ℕ, refl, ap, ◌∙◌, arith, length}
use Rattle.rows.specs.Doubling.{tables, tables-length, tables_turn}
use Rattle.rows.proofs.by_bytes.first_tables.Goals.{At-loop-j}
use Rattle.rows.proofs.by_bytes.first_tables.Goals as goal

-- the list keeps its length
kept : (l : At-loop-j) → length l.loop-j.sums ≡ length l.args.sums.now
kept l = ap length l.loop-j.invariant ∙ tables-length l.args.rows.now l.args.sums.now l.loop-j.j

pub loop-j-init : goal.loop-j-init
unfolding tables
loop-j-init c = refl

pub byte_table-requires : goal.byte_table-requires
byte_table-requires c = omega (arith, c.requires, kept (goal.at.byte_table-requires c).At-loop-j)

pub loop-j-preserved : goal.loop-j-preserved
loop-j-preserved c =
    tables_turn c.args.rows.now c.args.sums.now c.loop-j.j c.loop-j.sums _ c.loop-j.invariant c.byte_table.ensures

pub shape_of-sums : goal.shape_of-sums
shape_of-sums c = kept (goal.at.shape_of-sums c).At-loop-j

pub returns : goal.returns
returns c =
    let e : c.loop-j.j ≡ c.args.count = omega arith in
    c.loop-j.invariant ∙ ap (λ (m : ℕ). tables m c.args.rows.now c.args.sums.now) e
