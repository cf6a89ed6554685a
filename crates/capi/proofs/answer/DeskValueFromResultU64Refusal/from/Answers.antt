-- An answer of one value, handed out, by its case.
-- Assumes nothing.
use Rattle.std.proofs.Common.{ℕ, sym, ap}
use Rattle.std.specs.Prelude.{Result}
use Rattle.refusals.specs.Answers.{value_report}
use Rattle.refusals.specs.declared.answer.Refusal.{Refusal}
use Rattle.capi.specs.Answers.{desk_value}
use Rattle.capi.proofs.answer.DeskValueFromResultU64Refusal.from.Goals as goal

pub returns-in-Ok : goal.returns-in-Ok
unfolding value_report
returns-in-Ok c = sym (ap (λ (a : Result ℕ Refusal). desk_value (value_report a)) c.in-Ok.is)

pub returns-in-Err : goal.returns-in-Err
unfolding value_report
returns-in-Err c = rw c.number.ensures (sym (ap (λ (a : Result ℕ Refusal). desk_value (value_report a)) c.in-Err.is))
