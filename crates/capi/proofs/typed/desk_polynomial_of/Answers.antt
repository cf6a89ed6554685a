-- `capi::typed::desk_polynomial_of` meets its contract: what the library's call promises, handed out.
-- Assumes nothing.
use mathlib.Core.Path.{ap, ◌∙◌}
use Rattle.capi.specs.Answers.{desk_word}
use Rattle.capi.proofs.typed.desk_polynomial_of.Goals as goal

pub returns : goal.returns
returns c = c.from.ensures ∙ ap desk_word c.polynomial.ensures
