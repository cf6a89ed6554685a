-- `causes::calls::sheet_cause` meets its contract: the shape, or what rebuilding refuses.
-- Assumes nothing.
use mathlib.Core.Path.{sym, ◌∙◌}
use Rattle.refusals.specs.Verdicts.{fault_number}
use Rattle.causes.specs.Behind.{shape-number, read-shaped}
use Rattle.causes.specs.Cases.{sheet-alone}
use Rattle.causes.proofs.calls.sheet_cause.Goals as goal

pub returns-then-is_of_shape : goal.returns-then-is_of_shape
returns-then-is_of_shape c =
    let h = (shape-number (fault_number c.args.refusal.fault)).0 (rw c.number.ensures at (sym c.is_of_shape.ensures ∙ c.if-is_of_shape.true)) in
    sheet-alone c.args.sheet.now c.args.refusal h.0 h.1

pub rebuilt_cause-requires : goal.rebuilt_cause-requires
rebuilt_cause-requires c =
    read-shaped c.args.sheet.now c.args.refusal.fault c.args.refusal.place c.requires
    ((shape-number (fault_number c.args.refusal.fault)).1 (rw c.number.ensures at (sym c.is_of_shape.ensures ∙ c.if-is_of_shape.false)))
