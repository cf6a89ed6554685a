-- A word's meaning, handed out, by its case.
-- Assumes nothing.
use Rattle.std.proofs.Common.{sym, ap}
use Rattle.capi.specs.Answers.{desk_word}
use Rattle.capi.proofs.answer.DeskWordFromOptionU64.from.Goals as goal

pub returns-in-None : goal.returns-in-None
unfolding desk_word
returns-in-None c = sym (ap desk_word c.in-None.is)

pub returns-in-Some : goal.returns-in-Some
unfolding desk_word
returns-in-Some c = sym (ap desk_word c.in-Some.is)
