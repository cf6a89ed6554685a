-- `capi::calls::desk_build` meets its contract: what the library's call promises, handed out; the lent memory is as that call left it.
-- Assumes nothing.
use mathlib.Core.Path.{ap, ◌∙◌}
use Rattle.capi.specs.Answers.{desk_issued}
use Rattle.capi.proofs.calls.desk_build.Goals as goal

pub returns : goal.returns
returns c =
    record {
      answer = c.from.ensures ∙ ap desk_issued c.build.ensures.report;
      written = c.build.ensures.written;
    }
