-- `capi::calls::desk_read` meets its contract: what the library's call promises, handed out.
-- Assumes nothing.
use mathlib.Core.Path.{ap, ◌∙◌}
use Rattle.capi.specs.Answers.{desk_issued}
use Rattle.capi.proofs.calls.desk_read.Goals as goal

pub returns : goal.returns
returns c = c.from.ensures ∙ ap desk_issued c.read.ensures.report
