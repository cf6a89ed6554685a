-- `matrices::line::text_size` meets its contract: the product is small.
-- Assumes nothing.
use mathlib.Core.Path.{◌≡◌, ap}
use Prim.Native.Nat.{ℕ, ◌*◌}
use native.Mathlib.Omega.{arith}
use Rattle.gf2.specs.Limit.{limit}
use Rattle.matrices.specs.Matrices.{matrix_size, text_size}
use Rattle.matrices.specs.Blocks.{text_size-most}
use Rattle.matrices.proofs.line.text_size.Goals as goal

size_is : (n size : ℕ) → size ≡ matrix_size n → n * size ≡ text_size n
unfolding text_size
size_is n size e = ap (λ (x : ℕ). n * x) e

pub overflow_mul-result : goal.overflow_mul-result
unfolding text_size
overflow_mul-result c =
    omega (arith, size_is c.args.n c.matrix_size.result c.matrix_size.ensures, text_size-most limit c.args.n c.args.n c.requires (omega arith))

pub returns : goal.returns
returns c = size_is c.args.n c.matrix_size.result c.matrix_size.ensures
