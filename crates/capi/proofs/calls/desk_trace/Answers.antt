-- `capi::calls::desk_trace` meets its contract: what the library's call promises, handed out.
-- Assumes nothing.
use mathlib.Core.Path.{ap, ◌∙◌}
use Rattle.capi.specs.Answers.{desk_value}
use Rattle.capi.proofs.calls.desk_trace.Goals as goal

pub returns : goal.returns
returns c = c.from.ensures ∙ ap desk_value c.trace.ensures.report
