-- `words::numbers::number` meets its contract: after the mark 0x the digits are hexadecimal, without it decimal.
-- Assumes nothing.
use Rattle.std.proofs.Common.{◌≡◌, ◌∙◌, true, false, sym}
use Rattle.words.specs.Notation.{marked, number_of}
use Rattle.words.proofs.Cut.{marked-stripped}
use Rattle.words.proofs.numbers.number.Goals as goal

pub returns-in-Some : goal.returns-in-Some
unfolding number_of
returns-in-Some c =
    let m : marked c.args.word.now ≡ true = sym (marked-stripped c.args.word.now) ∙ c.in-Some.ensures.cases.0 in
    c.digits.ensures ∙ rw (m, c.in-Some.ensures.cases.1)

pub returns-in-None : goal.returns-in-None
unfolding number_of
returns-in-None c =
    let m : marked c.args.word.now ≡ false = sym (marked-stripped c.args.word.now) ∙ c.in-None.ensures.cases in
    c.digits-in-None.ensures ∙ rw m
