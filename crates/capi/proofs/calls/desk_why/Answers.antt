-- `capi::calls::desk_why` meets its contract: what the library's call promises, handed out.
-- Assumes nothing.
use mathlib.Core.Path.{ap, ◌∙◌}
use Rattle.capi.specs.Answers.{desk_cause}
use Rattle.capi.proofs.calls.desk_why.Goals as goal

pub returns : goal.returns
returns c = c.from.ensures ∙ ap desk_cause c.why.ensures.report
