-- `capi::calls::desk_write_matrices` meets its contract: what the library's call promises, handed out; the lent memory is as that call left it.
-- Assumes nothing.
use mathlib.Core.Path.{ap, ◌∙◌}
use Rattle.capi.specs.Answers.{desk_issued}
use Rattle.capi.proofs.calls.desk_write_matrices.Goals as goal

pub returns : goal.returns
returns c =
    record {
      answer = c.from.ensures ∙ ap desk_issued c.write_matrices.ensures.report;
      written = c.write_matrices.ensures.written;
    }
