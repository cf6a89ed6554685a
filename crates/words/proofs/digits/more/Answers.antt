-- `words::digits::more` meets its contract: std reads the digit, and says whether the new value has 64 bits.
-- Assumes nothing.
use Rattle.std.proofs.Common.{◌∙◌, arith}
use Rattle.words.proofs.Worth.{more_stops, more_over, more_added}
use Rattle.words.proofs.digits.more.Goals as goal

pub returns-in_err-digit : goal.returns-in_err-digit
returns-in_err-digit c =
    c.from_residual.ensures ∙ more_stops c.args.base c.args.value c.args.byte c.requires.1 (rw (← c.from.ensures) c.in_err-digit.ensures.value)

pub returns-in_err-shifted : goal.returns-in_err-shifted
returns-in_err-shifted c =
    c.from_residual-in_err-shifted.ensures ∙
    more_over c.args.base c.args.value c.args.byte (omega (arith, rw c.from-2.ensures at c.in_err-shifted.ensures))

pub returns : goal.returns
returns c =
    more_added c.args.base c.args.value c.args.byte c.checked_add.result c.requires.0 c.requires.1 (rw c.from.ensures at c.in_ok-digit.ensures.value.0)
    (rw (c.in_ok-shifted.ensures.1, c.from-2.ensures, c.from-3.ensures, c.in_ok-digit.ensures.value.1, c.from.ensures) at c.checked_add.ensures)
