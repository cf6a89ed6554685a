-- `search::joining::join_leader` meets its contract, by the cases of what is held.
-- Assumes nothing.
use mathlib.Core.Path.{ap, ◌∙◌}
use Rattle.search.specs.Joining.{as_answer, join_first, join_better, counts_fit}
use Rattle.search.proofs.JoiningLaws.{found_once}
use Rattle.search.proofs.joining.join_leader.Goals as goal

pub better_of-requires : goal.better_of-requires
better_of-requires c = (c.requires.0, counts_fit _ _ (ap as_answer c.in-Some.is) c.requires.1)

pub returns-in-None : goal.returns-in-None
returns-in-None c = join_first _ _ _ (ap as_answer c.in-None.is) (c.found_by.ensures ∙ found_once _ _ _ _)

pub returns-in-Some : goal.returns-in-Some
returns-in-Some c = join_better _ _ _ _ (ap as_answer c.in-Some.is) c.better_of.ensures
