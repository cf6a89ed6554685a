-- `capi::answer::not_found` meets its contract: the numbers are those of a refusal's report.
-- Assumes nothing.
use mathlib.Core.Path.{refl}
use Rattle.search.specs.Answers.{refused_report}
use Rattle.capi.proofs.answer.not_found.Goals as goal

pub returns : goal.returns
unfolding refused_report
returns c = refl
