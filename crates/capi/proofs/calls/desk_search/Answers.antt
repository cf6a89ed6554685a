-- `capi::calls::desk_search` meets its contract: what the library's call promises, handed out.
-- Assumes nothing.
use mathlib.Core.Path.{◌∙◌}
use Rattle.capi.proofs.calls.desk_search.Goals as goal

pub returns : goal.returns
returns c = c.from.ensures ∙ rw (c.search.ensures.report, c.search.ensures.answer)
