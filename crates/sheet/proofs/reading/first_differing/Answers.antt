-- `sheet::reading::first_differing` meets its contract: the goals that the check leaves. Its loop is told in `Invariants.antt`. Assumes nothing.
use mathlib.Core.Path.{◌≡◌, sym, ap, ◌∙◌}
use mathlib.Core.List.{List}
use Prim.Native.Nat.{ℕ, ◌-◌}
use native.Mathlib.Omega.{arith}
use Rattle.sheet.specs.Reading.{first_differing, differ-found, differ_passed, differ-none}
use Rattle.sheet.proofs.reading.first_differing.Goals as goal

start : (sheet rebuilt : List ℕ) (n : ℕ) → first_differing sheet rebuilt 0 (n - 0) ≡ first_differing sheet rebuilt 0 n
start sheet rebuilt n = let z : n - 0 ≡ n = omega arith in ap (first_differing sheet rebuilt 0) z

pub loop-i-init : goal.loop-i-init
loop-i-init c = (omega arith, start c.args.sheet.now c.args.rebuilt.now c.args.n)

pub record_differs-requires : goal.record_differs-requires
record_differs-requires c = (omega (arith, c.requires.0), omega (arith, c.requires.1), omega (arith, c.requires.2))

pub returns-then-record_differs : goal.returns-then-record_differs
returns-then-record_differs c = (
  c.loop-i-test.true,
  sym c.loop-i.invariant.1 ∙ differ-found c.args.sheet.now c.args.rebuilt.now c.loop-i.i c.args.n c.loop-i-test.true (sym c.record_differs.ensures ∙ c.if-record_differs.true),
)

pub loop-i-preserved : goal.loop-i-preserved
loop-i-preserved c =
    (omega arith, differ_passed c.args.sheet.now c.args.rebuilt.now c.loop-i.i c.args.n c.loop-i-test.true (sym c.record_differs.ensures ∙ c.if-record_differs.false) ∙ c.loop-i.invariant.1)

pub returns : goal.returns
returns c =
    let e : c.loop-i.i ≡ c.args.n = omega (arith, c.loop-i.invariant.0) in
    sym c.loop-i.invariant.1 ∙ differ-none c.args.sheet.now c.args.rebuilt.now c.loop-i.i c.args.n c.loop-i-test.false ∙ e
