-- The laws of `specs/Answered.antt` that a wrong definition breaks, and what rests on them. The head there tells of both files.
-- Assumes nothing.
use Rattle.std.specs.Prelude.{◌≡◌, List, ℕ}
use Rattle.refusals.specs.Verdicts.{first_of}
use Rattle.refusals.specs.Orders.{parts-clear}
use Rattle.sheet.specs.Orders.{shape_order, rebuild_order, read_order, Shaped}
use Rattle.sheet.specs.Answers.{summary_in, read_answer}
use Rattle.sheet.proofs.Clear.{clear-shaped}
use Rattle.sheet.specs.declared.answer.Summary.{Summary}
use Rattle.sheet.specs.Answered.{done-clear}
use Rattle.std.specs.Prelude.{Ok}

-- a sheet that reading accepts has a good shape
pub done-shaped : (sheet : List ℕ) (s : Summary) → read_answer sheet ≡ Ok s → Shaped sheet
unfolding read_answer
done-shaped sheet s e =
    clear-shaped sheet (parts-clear (shape_order sheet) (rebuild_order sheet) (done-clear (first_of (read_order sheet)) (summary_in sheet) s e)).0
