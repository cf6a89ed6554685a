-- `sheet::shaped::Sheet::value_verdict` meets its contract: the number, given twice.
-- Assumes nothing.
use mathlib.Core.Path.{ap, ◌∙◌}
use Rattle.refusals.specs.Answers.{checked_of}
use Rattle.sheet.specs.Converting.{value_twice}
use Rattle.sheet.proofs.shaped.Sheet.value_verdict.Goals as goal

pub returns : goal.returns
returns c = c.values_verdict.ensures ∙ ap checked_of (value_twice c.args.self.now.bytes.now c.args.value)
