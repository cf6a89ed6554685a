-- `words::polynomials::exponents` meets its contract. The invariant: the parts that the split still has to give, after the sum and below
-- the bound, mean what all parts mean, and the sum keeps room for the power of the bound. Assumes nothing.
use Rattle.std.proofs.Common.{◌≡◌, ◌+◌, ◌^◌, ◌≤◌}
use Rattle.words.specs.Notation.{parts, exponents_of}
use Rattle.words.specs.Exponents.{summed}
use Rattle.words.proofs.Cut.{left}
use Rattle.words.proofs.polynomials.exponents.Given as goal

abbrev pub invariant-loop-part : goal.invariant-loop-part
invariant-loop-part l =
    (goal.iterator-loop-part).can_next l.part-iterator ×
    (goal.iterator-loop-part).is_finite l.part-iterator ×
    (l.bound ≤ 64) × (l.sum + 2 ^ l.bound ≤ 2 ^ 64) × (summed l.bound l.sum (left l.part-iterator) ≡ exponents_of (parts l.word))
