-- `desk::telling::names_in` meets its contract: a sheet that reading accepts has a good shape, and so has one that it refuses with a
-- number outside 7 to 9. Assumes nothing.
use Rattle.std.proofs.Common.{sym, ◌∙◌}
use Rattle.refusals.specs.Verdicts.{fault_number, first_of}
use Rattle.sheet.specs.Orders.{read_order}
use Rattle.sheet.specs.Answers.{summary_in, read_answer}
use Rattle.sheet.specs.Answered.{refused_verdict}
use Rattle.sheet.proofs.Answered.{done-shaped}
use Rattle.causes.specs.Behind.{shape-number, read-shaped}
use Rattle.desk.proofs.telling.names_in.Goals as goal

pub names_of-requires : goal.names_of-requires
unfolding read_answer
names_of-requires c =
    let sheet = c.args.bytes.now in
    let refusal = c.in-Err.refusal in
    let far = (shape-number (fault_number refusal.fault)).1 (rw c.number.ensures at (sym c.is_of_shape.ensures ∙ c.if-is_of_shape.false)) in
    (read-shaped sheet refusal.fault refusal.place (refused_verdict (first_of (read_order sheet)) (summary_in sheet) (sym c.read.ensures.answer ∙ c.in-Err.is)) far).0

pub names_of-requires-in-Ok : goal.names_of-requires-in-Ok
names_of-requires-in-Ok c = done-shaped c.args.bytes.now _ (sym c.read.ensures.answer ∙ c.in-Ok.is)
