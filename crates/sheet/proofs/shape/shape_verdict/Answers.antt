-- `sheet::shape::shape_verdict` meets its contract: the goals that the check leaves. Its loop is told in `Invariants.antt`. Assumes nothing.
use mathlib.Core.Path.{◌≡◌, refl, sym, ap, ◌∙◌}
use mathlib.Core.Bool.{false}
use mathlib.Core.List.{List}
use Prim.Native.Nat.{ℕ, ◌-◌}
use native.Mathlib.Omega.{arith}
use lib.ListN.{length}
use Rattle.refusals.specs.Verdicts.{Verdict, clear, refuse, first_of}
use Rattle.refusals.specs.Answers.{answer_of, checked_of}
use Rattle.sheet.specs.Record.{record_count, column_in}
use Rattle.sheet.specs.Orders.{bad_length, record_rules, shape_order}
use Rattle.sheet.specs.Shape.{good_length, walk-done, shape-short, shape-long}
use Rattle.sheet.proofs.ShapeLaws.{walk-misplaced, walk-oversized, walk-on}
use Rattle.sheet.proofs.shape.shape_verdict.Goals as goal
use Rattle.refusals.specs.Answers.{Checked, passed}
use Rattle.refusals.specs.declared.fault.Fault.TheVariants as faults
use Rattle.refusals.specs.declared.fault.Fault.{Fault}

found : (k : Fault) (p : ℕ) {v w : Verdict} {r : Checked} → r ≡ checked_of (refuse k p) → v ≡ refuse k p → v ≡ w → r ≡ checked_of w
found k p er e q = er ∙ ap checked_of (sym e ∙ q)

none : {v w : Verdict} → v ≡ clear → v ≡ w → passed ≡ checked_of w
unfolding answer_of
none e q = ap checked_of (sym e ∙ q)

first-record : (sheet : List ℕ) → bad_length (length sheet) ≡ false → first_of (record_rules sheet 0 (record_count sheet - 0)) ≡ first_of (shape_order sheet)
first-record sheet e = let z : record_count sheet - 0 ≡ record_count sheet = omega arith in rw z (sym (shape-long sheet e))

pub returns-then-bad_length : goal.returns-then-bad_length
returns-then-bad_length c =
    found faults.BadLength 0 c.refused.ensures (shape-short c.args.sheet.now (sym c.bad_length.ensures ∙ c.if-bad_length.true)) refl

pub number_at-tail-requires : goal.number_at-tail-requires
number_at-tail-requires c =
    let z = good_length c.args.sheet.now (sym c.bad_length.ensures ∙ c.if-bad_length.false) in
    (omega (arith, z.whole, z.two), omega arith)

pub loop-i-init : goal.loop-i-init
loop-i-init c =
    (omega arith, first-record c.args.sheet.now (sym c.bad_length.ensures ∙ c.if-bad_length.false))

pub is_misplaced-requires : goal.is_misplaced-requires
unfolding column_in
is_misplaced-requires c =
    let z = good_length c.args.sheet.now (sym c.bad_length.ensures ∙ c.if-bad_length.false) in
    (refl, omega (arith, z.whole), c.number_at-tail.ensures)

pub returns-then-is_misplaced : goal.returns-then-is_misplaced
returns-then-is_misplaced c =
    found faults.Misplaced c.loop-i.i c.refused_at.ensures (walk-misplaced c.args.sheet.now c.loop-i.i (record_count c.args.sheet.now) c.loop-i-test.true (sym c.is_misplaced.ensures ∙ c.if-is_misplaced.true)) c.loop-i.invariant.1

pub is_oversized-requires : goal.is_oversized-requires
is_oversized-requires c =
    let z = good_length c.args.sheet.now (sym c.bad_length.ensures ∙ c.if-bad_length.false) in
    (refl, z.most, omega (arith, z.whole, c.loop-i-test.true))

pub returns-then-is_oversized : goal.returns-then-is_oversized
returns-then-is_oversized c =
    found faults.Oversized c.loop-i.i c.refused_at-then-is_oversized.ensures (walk-oversized c.args.sheet.now c.loop-i.i (record_count c.args.sheet.now) c.loop-i-test.true (sym c.is_misplaced.ensures ∙ c.if-is_misplaced.false) (sym c.is_oversized.ensures ∙ c.if-is_oversized.true)) c.loop-i.invariant.1

pub loop-i-preserved : goal.loop-i-preserved
loop-i-preserved c = (
  omega (arith, c.loop-i-test.true),
  walk-on c.args.sheet.now c.loop-i.i (record_count c.args.sheet.now) c.loop-i-test.true (sym c.is_misplaced.ensures ∙ c.if-is_misplaced.false) (sym c.is_oversized.ensures ∙ c.if-is_oversized.false) ∙ c.loop-i.invariant.1,
)

pub returns : goal.returns
returns c =
    none (walk-done c.args.sheet.now c.loop-i.i (record_count c.args.sheet.now) c.loop-i-test.false) c.loop-i.invariant.1
