-- `capi::calls::desk_to_normal` meets its contract: what the library's call promises, handed out.
-- Assumes nothing.
use mathlib.Core.Path.{ap, ◌∙◌}
use Rattle.capi.specs.Answers.{desk_value}
use Rattle.capi.proofs.calls.desk_to_normal.Goals as goal

pub returns : goal.returns
returns c = c.from.ensures ∙ ap desk_value c.to_normal.ensures.report
