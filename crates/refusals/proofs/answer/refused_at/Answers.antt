-- `refusals::answer::refused_at` meets its contract: by the definition of the case.
-- Assumes nothing.
use mathlib.Core.Path.{refl}
use Rattle.refusals.specs.Answers.{answer_of}
use Rattle.refusals.proofs.answer.refused_at.Goals as goal

pub returns : goal.returns
unfolding answer_of
returns c = refl
