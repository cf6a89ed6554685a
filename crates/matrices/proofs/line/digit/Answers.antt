-- `matrices::line::digit` meets its contract: the shift and the remainder are the bit's definition.
-- Assumes nothing.
use mathlib.Core.Path.{refl}
use Rattle.rows.specs.Bits.{bit_of}
use Rattle.matrices.proofs.line.digit.Goals as goal

pub returns : goal.returns
unfolding bit_of
returns c = refl
