-- `matrices::writing::write_accepted` meets its contract: 6, or the text of the sheet's table.
-- Assumes nothing.
use Prim.Native.Nat.{◌≤◌}
use native.Mathlib.Omega.{arith}
use lib.ListN.{length}
use Rattle.std.proofs.Common.{ap, ◌∙◌}
use Rattle.std.specs.Prelude.{Err}
use Rattle.refusals.specs.declared.answer.Refusal.{Refusal}
use Rattle.sheet.specs.Answers.{issued_report}
use Rattle.sheet.specs.Record.{record_count}
use Rattle.sheet.proofs.Answered.{done-shaped}
use Rattle.matrices.specs.Matrices.{text_size}
use Rattle.matrices.proofs.Calls.{write_short, write_refused, write_done}
use Rattle.matrices.proofs.writing.write_accepted.Goals as goal

pub text_size-requires : goal.text_size-requires
text_size-requires c = (done-shaped c.args.sheet.now c.args.summary c.requires).size.most

pub returns-then-text-text_size : goal.returns-then-text-text_size
returns-then-text-text_size c =
    let whole = write_refused c.args.sheet.now c.args.text.now
    (write_short c.args.sheet.now c.args.text.now c.args.summary c.requires (omega (arith, c.text_size.ensures, c.if-text-text_size.true))) in record { answer = ap Err c.from.ensures ∙ whole.0; report = ap (λ (r : Refusal). issued_report (Err r)) c.from.ensures ∙ whole.1.0; written = whole.1.1 }

pub load_rows-table-requires : goal.load_rows-table-requires
load_rows-table-requires c = (done-shaped c.args.sheet.now c.args.summary c.requires, omega arith)

pub rows_twice-rows-requires : goal.rows_twice-rows-requires
rows_twice-rows-requires c = (done-shaped c.args.sheet.now c.args.summary c.requires).size.most

pub put_text-requires : goal.put_text-requires
put_text-requires c = rw c.rows_twice-rows.ensures.count (omega (arith, c.text_size.ensures, c.if-text-text_size.false))

pub returns : goal.returns
returns c =
    let sheet = c.args.sheet.now in
    let h : text_size (record_count sheet) ≤ length c.args.text.now = omega (arith, c.text_size.ensures, c.if-text-text_size.false) in
    let whole = write_done sheet c.args.text.now c.args.summary c.requires h c.load_rows-table.result c.rows_twice-rows.result.rows c.put_text.new.text c.load_rows-table.ensures c.rows_twice-rows.ensures.rows
    (rw c.rows_twice-rows.ensures.count at c.put_text.ensures) in record { answer = whole.0; report = whole.1.0; written = whole.1.1 }
