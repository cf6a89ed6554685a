-- `words::digits::digits` meets its contract. The invariant: the digits left, after the value that was read, mean what the word means.
-- Assumes nothing.
use Rattle.std.proofs.Common.{◌≡◌, ◌^◌, ◌<◌, drop}
use Rattle.words.specs.Notation.{number_in}
use Rattle.words.specs.Digits.{within}
use Rattle.words.proofs.digits.digits.Given as goal

abbrev pub invariant-loop-byte : goal.invariant-loop-byte
invariant-loop-byte l = (l.value < 2 ^ 64) × (within l.base (2 ^ 64) l.value (drop l.byte-index l.word) ≡ number_in l.base (2 ^ 64) l.word)
