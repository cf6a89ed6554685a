-- `matrices::line::matrix_size` meets its contract: the product is small.
-- Assumes nothing.
use native.Mathlib.Omega.{arith}
use Rattle.gf2.specs.Limit.{limit}
use Rattle.matrices.specs.Blocks.{lines-size-most}
use Rattle.matrices.proofs.line.matrix_size.Goals as goal

pub overflow_mul-result : goal.overflow_mul-result
overflow_mul-result c = omega (arith, lines-size-most limit c.args.n c.args.n c.requires (omega arith))

pub overflow_add-result-2 : goal.overflow_add-result-2
overflow_add-result-2 c = omega (arith, lines-size-most limit c.args.n c.args.n c.requires (omega arith))
