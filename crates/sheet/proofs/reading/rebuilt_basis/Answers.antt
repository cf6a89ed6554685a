-- `sheet::reading::rebuilt_basis` meets its contract: 5, then 10.
-- Assumes nothing.
use mathlib.Core.Path.{sym, ap, ◌∙◌}
use Rattle.refusals.specs.Verdicts.{Verdict}
use Rattle.refusals.specs.Answered.{answer-refused}
use Rattle.sheet.specs.Orders.{differ_rules, rebuilt_from}
use Rattle.sheet.specs.Answers.{summary_in, issued_of}
use Rattle.sheet.specs.Basis.{normal-refused, normal_passed, normal-rows}
use Rattle.sheet.specs.Rebuilding.{rebuilt_element}
use Rattle.sheet.proofs.reading.rebuilt_basis.Goals as goal
use Rattle.std.specs.Prelude.{Err}

pub build_basis-requires : goal.build_basis-requires
build_basis-requires c =
    let e = rebuilt_element c.args.sheet.now c.args.ring.f c.args.ring.n c.args.element c.requires in
    (e.in_range.most, record { is_degree = e.in_range.is_degree; below = e.small })

pub returns-in-Err : goal.returns-in-Err
returns-in-Err c =
    ap Err c.from.ensures ∙ answer-refused Err _ (normal-refused c.args.ring.f c.args.ring.n c.args.element _ c.in-Err.ensures)

pub compared-requires : goal.compared-requires
compared-requires c =
    (c.requires, normal-rows c.args.ring.f c.args.ring.n c.args.element c.in-Ok.ensures)

pub returns-in-Ok : goal.returns-in-Ok
returns-in-Ok c =
    let sheet = c.args.sheet.now in
    c.compared.ensures
    ∙ ap (λ (v : Verdict). issued_of v (summary_in sheet))
    (sym (normal_passed c.args.ring.f c.args.ring.n c.args.element (differ_rules sheet (rebuilt_from sheet) 0 c.args.ring.n) c.in-Ok.ensures))
