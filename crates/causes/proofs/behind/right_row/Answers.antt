-- `causes::behind::right_row` meets its contract: the rows of the basis are those of the sheet.
-- Assumes nothing.
use native.Mathlib.Omega.{arith}
use Rattle.sheet.proofs.Issuing.{based-degree, based-most}
use Rattle.std.proofs.Common.{sym, ◌∙◌}
use Rattle.causes.specs.Cases.{right-row, built_ok}
use Rattle.causes.proofs.behind.right_row.Goals as goal

pub build_basis-requires : goal.build_basis-requires
build_basis-requires c =
    let f = c.args.ring.f in
    let n = c.args.ring.n in
    let a = c.args.element in
    (based-most f n a c.requires.0, record { is_degree = based-degree f n a c.requires.0; below = c.requires.0.below })

pub unwrap-basis-requires : goal.unwrap-basis-requires
unwrap-basis-requires c = built_ok c.args.ring.f c.args.ring.n c.args.element c.requires.0.is_normal c.build_basis.ensures

pub bounds-basis-i : goal.bounds-basis-i
bounds-basis-i c = omega (arith, c.requires.1, based-most c.args.ring.f c.args.ring.n c.args.element c.requires.0)

pub bounds-basis-i-2 : goal.bounds-basis-i-2
bounds-basis-i-2 c = omega (arith, c.requires.1, based-most c.args.ring.f c.args.ring.n c.args.element c.requires.0)

pub bounds-basis-i-3 : goal.bounds-basis-i-3
bounds-basis-i-3 c = omega (arith, c.requires.1, based-most c.args.ring.f c.args.ring.n c.args.element c.requires.0)

pub returns : goal.returns
returns c =
    right-row c.args.ring.f c.args.ring.n c.args.element c.args.i c.requires.0 c.requires.1 (sym c.unwrap-basis.ensures ∙ c.build_basis.ensures)
