-- `sheet::shaped::Sheet::polynomial_list_verdict` meets its contract: 11, then 4.
-- Assumes nothing.
use Rattle.std.proofs.Common.{ℕ, ap, ◌∙◌, length, arith}
use Rattle.refusals.specs.Verdicts.{first_of}
use Rattle.refusals.specs.Answers.{checked_of}
use Rattle.refusals.specs.Answered.{then_refused, then_rest}
use Rattle.sheet.specs.Record.{record_count}
use Rattle.sheet.specs.Orders.{value_rules, list_order}
use Rattle.std.proofs.Common.{rules, ◌≡◌}
use Rattle.std.specs.Prelude.{Err}
use Rattle.sheet.proofs.shaped.Sheet.polynomial_list_verdict.Goals as goal

pub coordinates_verdict-requires : goal.coordinates_verdict-requires
coordinates_verdict-requires c = omega (arith, c.degree.ensures, c.args.self.now.shaped.size.most)

pub returns-in_err-list_verdict : goal.returns-in_err-list_verdict
returns-in_err-list_verdict c =
    let e : c.from_residual.result ≡ Err c.in_err-list_verdict.field-0.0 = search rules in
    let sheet = c.args.self.now.bytes.now in
    e ∙ then_refused (list_order sheet (length c.args.from.now) c.args.room) (value_rules (record_count sheet) 0 c.args.from.now) c.list_verdict.ensures c.in_err-list_verdict.was

pub returns : goal.returns
returns c =
    let sheet = c.args.self.now.bytes.now in
    then_rest (list_order sheet (length c.args.from.now) c.args.room) (value_rules (record_count sheet) 0 c.args.from.now) c.list_verdict.ensures c.in_ok-list_verdict.was
    (c.coordinates_verdict.ensures ∙ ap (λ (n : ℕ). checked_of (first_of (value_rules n 0 c.args.from.now))) c.degree.ensures)
