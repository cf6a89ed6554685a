-- `capi::calls::desk_list_to_normal` meets its contract: what the library's call promises, handed out; the lent memory is as that call left it.
-- Assumes nothing.
use mathlib.Core.Path.{ap, ◌∙◌}
use Rattle.capi.specs.Answers.{desk_value}
use Rattle.capi.proofs.calls.desk_list_to_normal.Goals as goal

pub returns : goal.returns
returns c =
    record {
      answer = c.from.ensures ∙ ap desk_value c.list_to_normal.ensures.report;
      written = c.list_to_normal.ensures.written;
    }
