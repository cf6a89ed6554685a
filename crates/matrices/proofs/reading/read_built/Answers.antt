-- `matrices::reading::read_built` meets its contract: 5, or the text compared with the matrices of the basis.
-- Assumes nothing.
use mathlib.Core.List.{[]}
use mathlib.Core.Path.{ap, ◌∙◌}
use mathlib.Core.List.{◌∷◌}
use native.Mathlib.Omega.{arith}
use Rattle.refusals.specs.Verdicts.{first_of}
use Rattle.refusals.specs.Answered.{answer-refused, judged_refused, judged_done}
use Rattle.sheet.specs.Basis.{normal-refused, normal-rows, summary_table}
use Rattle.matrices.specs.Matrices.{matrices_text}
use Rattle.matrices.specs.Orders.{match_rule, match_order}
use Rattle.matrices.proofs.Calls.{built_verdict}
use Rattle.matrices.proofs.reading.read_built.Goals as goal
use Rattle.std.proofs.Common.{rules, ◌≡◌, ap}
use Rattle.std.specs.Prelude.{Ok, Err}

pub build_basis-requires : goal.build_basis-requires
build_basis-requires c =
    let r = c.args.ring.in_range in
    (r.most, record { is_degree = r.is_degree; below = c.requires.0 })

pub returns-in-Err : goal.returns-in-Err
returns-in-Err c =
    let f = c.args.ring.f in
    let n = c.args.ring.n in
    let a = c.args.element in
    ap Err c.from.ensures ∙ answer-refused Err _ (normal-refused f n a (match_rule c.args.text.now (matrices_text f n a) ∷ []) c.in-Err.ensures)

pub rows_twice-rows-requires : goal.rows_twice-rows-requires
rows_twice-rows-requires c = c.args.ring.in_range.most

pub match_verdict-requires : goal.match_verdict-requires
match_verdict-requires c = rw c.rows_twice-rows.ensures.count (omega (arith, c.args.ring.in_range.two))

pub summary_of-requires : goal.summary_of-requires
summary_of-requires c = c.requires.0

pub returns-in_err-match_verdict-in-Ok : goal.returns-in_err-match_verdict-in-Ok
returns-in_err-match_verdict-in-Ok c =
    let e : c.from_residual.result ≡ Err c.in_err-match_verdict-in-Ok.field-0.0 = search rules in
    let f = c.args.ring.f in
    let n = c.args.ring.n in
    let a = c.args.element in
    let verdict = built_verdict f n a (record { in_range = c.args.ring.in_range; small = c.requires.0 }) c.requires.1 c.in-Ok.ensures c.rows_twice-rows.result.rows c.args.text.now c.rows_twice-rows.ensures.rows
    (rw c.rows_twice-rows.ensures.count at c.match_verdict.ensures) in
    e ∙ judged_refused Err _ (first_of (match_order f n a c.args.text.now)) verdict c.in_err-match_verdict-in-Ok.was

pub returns-in_ok-match_verdict-in-Ok : goal.returns-in_ok-match_verdict-in-Ok
returns-in_ok-match_verdict-in-Ok c =
    let f = c.args.ring.f in
    let n = c.args.ring.n in
    let a = c.args.element in
    let verdict = built_verdict f n a (record { in_range = c.args.ring.in_range; small = c.requires.0 }) c.requires.1 c.in-Ok.ensures c.rows_twice-rows.result.rows c.args.text.now c.rows_twice-rows.ensures.rows
    (rw c.rows_twice-rows.ensures.count at c.match_verdict.ensures) in
    ap Ok (c.summary_of.ensures ∙ summary_table f n a c.in-Ok.basis (normal-rows f n a c.in-Ok.ensures))
    ∙ judged_done Err _ (first_of (match_order f n a c.args.text.now)) verdict c.in_ok-match_verdict-in-Ok.was
