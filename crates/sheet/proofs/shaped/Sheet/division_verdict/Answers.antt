-- `sheet::shaped::Sheet::division_verdict` meets its contract: the shape and 4, then 13.
-- Assumes nothing.
use mathlib.Core.List.{[]}
use mathlib.Core.List.{◌∷◌}
use Rattle.refusals.specs.Answered.{then_refused, then_rest}
use Rattle.sheet.specs.Orders.{value_order, zero_rule}
use Rattle.std.proofs.Common.{rules, ◌≡◌, ◌∙◌}
use Rattle.std.specs.Prelude.{Err}
use Rattle.sheet.proofs.shaped.Sheet.division_verdict.Goals as goal

pub returns-in_err-values_verdict : goal.returns-in_err-values_verdict
returns-in_err-values_verdict c =
    let e : c.from_residual.result ≡ Err c.in_err-values_verdict.field-0.0 = search rules in
    e ∙ then_refused (value_order c.args.self.now.bytes.now (c.args.dividend ∷ c.args.divisor ∷ [])) (zero_rule c.args.divisor ∷ []) c.values_verdict.ensures c.in_err-values_verdict.was

pub returns : goal.returns
returns c =
    then_rest (value_order c.args.self.now.bytes.now (c.args.dividend ∷ c.args.divisor ∷ [])) (zero_rule c.args.divisor ∷ []) c.values_verdict.ensures c.in_ok-values_verdict.was c.zero_verdict.ensures
