-- `matrices::writing::write_matrices` meets its contract: reading's refusal, or what a sheet that it accepts gets.
-- Assumes nothing.
use mathlib.Core.Path.{sym, ◌∙◌}
use lib.ListN.{length}
use Rattle.matrices.proofs.Judging.{write_refused_as_read}
use Rattle.matrices.proofs.Calls.{write_refused}
use Rattle.std.proofs.Common.{rules, ◌≡◌, ap}
use Rattle.sheet.specs.Answers.{issued_report}
use Rattle.std.specs.Prelude.{Err}
use Rattle.matrices.proofs.writing.write_matrices.Goals as goal

pub write_accepted-requires : goal.write_accepted-requires
write_accepted-requires c = sym c.read.ensures.answer ∙ c.in_ok-summary.was

pub returns-in_err-summary : goal.returns-in_err-summary
returns-in_err-summary c =
    let e : c.from_residual.result ≡ Err c.in_err-summary.field-0.0 = search rules in
    let whole = write_refused c.args.sheet.now c.args.text.now
    (write_refused_as_read c.args.sheet.now (length c.args.text.now) c.in_err-summary.field-0.0 (sym c.read.ensures.answer ∙ c.in_err-summary.was)) in record { answer = e ∙ whole.0; report = ap issued_report e ∙ whole.1.0; written = whole.1.1 }
