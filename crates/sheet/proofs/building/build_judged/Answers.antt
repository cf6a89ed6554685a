-- `sheet::building::build_judged` meets its contract: 5, or the sheet.
-- Assumes nothing.
use mathlib.Core.List.{[]}
use mathlib.Core.Path.{ap, ◌∙◌}
use Rattle.refusals.specs.Orders.{first-none}
use Rattle.refusals.specs.Answered.{answer-refused, answer-clear, left-refused, left-clear}
use Rattle.sheet.specs.Basis.{normal-refused, normal_passed, normal-rows, sheet_written, summary_table}
use Rattle.sheet.proofs.building.build_judged.Goals as goal
use Rattle.std.specs.Prelude.{Ok, Err}

pub build_basis-requires : goal.build_basis-requires
build_basis-requires c =
    let r = c.args.ring.in_range in
    (r.most, record { is_degree = r.is_degree; below = c.requires.0 })

pub returns-in-Err : goal.returns-in-Err
returns-in-Err c =
    let v = normal-refused c.args.ring.f c.args.ring.n c.args.element [] c.in-Err.ensures in record {
      answer = ap Err c.from.ensures ∙ answer-refused Err _ v;
      written = left-refused _ c.args.buffer.now v;
    }

pub put_basis-requires : goal.put_basis-requires
put_basis-requires c = (c.requires.0, c.requires.1)

pub returns-in-Ok : goal.returns-in-Ok
returns-in-Ok c =
    let f = c.args.ring.f in
    let n = c.args.ring.n in
    let a = c.args.element in
    let v = normal_passed f n a [] c.in-Ok.ensures ∙ first-none in
    let rows = normal-rows f n a c.in-Ok.ensures in record {
      answer = ap Ok (c.put_basis.ensures.summary ∙ summary_table f n a c.in-Ok.basis rows) ∙ answer-clear Err _ v;
      written = c.put_basis.ensures.written ∙ sheet_written f n a c.in-Ok.basis c.args.buffer.now rows ∙ left-clear _ c.args.buffer.now v;
    }
